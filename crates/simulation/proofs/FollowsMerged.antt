-- A kernel follows merged and settled histories: whatever steps it makes, each of its histories is a beginning of theirs.
use Rattle.std.proofs.Common.{◌≡◌, ℕ, ◌+◌, ◌<◌, ◌≤◌, max, ◌⊎◌, List, ◌∷◌, length, Some, None, Option, sym, refl, ap, ◌∙◌, inl, inr, ⊎_elim, arith}
use mathlib.Core.Logic.{by_cases, if_pos, if_neg}
use native.Mathlib.Decide.{ℕ_discrete, dec_lt}
use Rattle.model.specs.declared.event.Event.{Event}
use Rattle.model.specs.Lists.{update}
use Rattle.simulation.specs.Net.{Outgoing}
use Rattle.simulation.proofs.Tests.{some_same, if_same, if_other, if_cases, update_cases}
use Rattle.simulation.proofs.Histories.{nth, ◌⊑◌, same, more, ⊑_empty, ⊑_trans, ⊑_cases, nth_none, nth_kept}
use Rattle.simulation.proofs.System.{System, Entry, newest, taken, answer, arrives, post, sent, last, next, Fine, Fair, Lowest, Stuck, Proper}
use Rattle.simulation.proofs.SentEvents.{sent_⊑, origin, last_⊑}
use Rattle.simulation.proofs.MergeLaw.{Merged, Settled, lowest_same, later}
use Rattle.simulation.proofs.Kernel.{Kernel, Counted, opened_floor, nulled_floor, first_floor, boot, waiting, link_clock, clock, Safe, raised, take_event, promise, tell}
use Rattle.simulation.proofs.Kernel.{Act, idle, takes, refused, marks, rounds_up, Gets, boots, ticks}
use Rattle.simulation.proofs.Clocks.{due_some, due_none, clock_least}

module _ {C S : Type 0} (sys : System C S) where
  -- A sending leaves the events and the floor of a link, or is put on it and its arrival is the floor.
  pub raised_cases : (k : ℕ) (o : Option (Outgoing C)) (ms : List (Event C)) (f : ℕ → ℕ)
      → ((post sys k o ms ≡ ms) × (raised sys o f k ≡ f k))
      ⊎ ((x : Outgoing C) × (o ≡ Some x) × (x.link ≡ k) × (post sys k o ms ≡ arrives sys k x ∷ ms) × (raised sys o f k ≡ x.time + sys.delay k))
  unfolding post raised
  raised_cases k None ms f = inl (refl, refl)
  raised_cases k (Some x) ms f = by_cases (ℕ_discrete x.link k)
      (λ e. inr (
        x,
        refl,
        e,
        if_same x.link k (arrives sys k x ∷ ms) ms e,
        if_same k x.link (x.time + sys.delay x.link) (f k) (sym e) ∙ ap (λ (j : ℕ). x.time + sys.delay j) e,
      ))
      (λ d. inl (if_other x.link k (arrives sys k x ∷ ms) ms d, if_other k x.link (x.time + sys.delay x.link) (f k) (λ e. d (sym e))))

  module _ (ok : Proper sys) (s : Kernel C) (p : ℕ) (l : p < sys.processes) (e : Entry C) where
    -- The histories once p has taken e.
    abbrev h' : ℕ → List (Entry C)
    h' = update s.h p (e ∷ s.h p)

    -- As p takes e, a link's last arrival and floor stay as they are, or both are the arrival of what is sent.
    after_take : (k : ℕ)
        → ((last sys k (h' (sys.source k)) ≡ last sys k (s.h (sys.source k))) × (raised sys (answer sys p (s.h p) e) s.floor k ≡ s.floor k))
        ⊎ (last sys k (h' (sys.source k)) ≡ raised sys (answer sys p (s.h p) e) s.floor k)
    unfolding sent newest
    after_take k = ⊎_elim
        (λ c. rw c.1 (rw c.0 (⊎_elim
        (λ d. inl (ap (newest (sys.delay k)) d.0, d.1))
        (λ d. inr (ap (newest (sys.delay k)) d.3 ∙ sym d.4))
        (raised_cases k (answer sys p (s.h p) e) (sent sys k (s.h p)) s.floor))))
        (λ c. rw c.1 (⊎_elim
        (λ d. inl (refl, d.1))
        (λ d. absurd (c.0 (rw d.2 at (ok.own p l (s.h p) e d.0 d.1).1)))
        (raised_cases k (answer sys p (s.h p) e) (sent sys k (s.h p)) s.floor)))
        (update_cases s.h p (sys.source k) (e ∷ s.h p))

  module _ (ok : Proper sys) (h : ℕ → List (Entry C)) (merged : Merged sys h) where
    -- The kernel is on the way to h, and its floors are right: not below the last arrival, and not above what its source may still send.
    pub record Follows (s : Kernel C) : Type 0 where
      pub begins : (p : ℕ) → s.h p ⊑ h p
      pub over : (k : ℕ) → last sys k (s.h (sys.source k)) ≤ s.floor k
      pub tight : (k : ℕ) (us : List (Entry C)) (e : Entry C) → s.h (sys.source k) ⊑ us → us ⊑ h (sys.source k) → Lowest sys h (sys.source k) us e
          → s.floor k ≤ max (last sys k (s.h (sys.source k))) (e.event.time + sys.lookahead (sys.source k) + sys.delay k)

    module _ (s : Kernel C) (follows : Follows s) where
      -- Nothing arrives below the floor any more.
      floor_sound : (k n : ℕ) (b : Event C) → length (sent sys k (s.h (sys.source k))) ≤ n → nth (sent sys k (h (sys.source k))) n ≡ Some b
          → s.floor k ≤ b.time
      floor_sound k n b l g =
          let q = sys.source k in
          let o = origin sys k (follows.begins q) n b l g in
          let t = merged q o.us o.e o.within in
          let a = t.fair o.x o.by in
          let i : b.time ≡ o.x.time + sys.delay k = sym (ap (λ (m : Event C). m.time) o.is) in
          let z : last sys k o.us ≤ o.x.time + sys.delay k = rw o.on at a.behind in
          let y = last_⊑ sys k o.beyond (λ e hs r. (merged q hs e (⊑_trans r (⊑_trans (more same) o.within))).fair) in
          let w = follows.tight k o.us o.e o.beyond (⊑_trans (more same) o.within) t.lowest in
          let v = a.ahead in
          omega arith

      -- Nothing comes to a process before the clock of its link.
      link_clock_sound : (k : ℕ) (b : Event C) → next sys k (h (sys.source k)) (s.h (sys.target k)) ≡ Some b → link_clock sys s k ≤ b.time
      link_clock_sound k b g = go (waiting sys s k) refl
        where
          go : (o : Option (Event C)) → waiting sys s k ≡ o → link_clock sys s k ≤ b.time
          go None e = rw (due_none (s.floor k) e)
              (floor_sound k (taken k (s.h (sys.target k))) b (nth_none (sent sys k (s.h (sys.source k))) (taken k (s.h (sys.target k))) e) g)
          go (Some a) e =
              let q = some_same (nth_kept (sent_⊑ sys k (follows.begins (sys.source k))) (taken k (s.h (sys.target k))) e) g in
              rw (due_some (s.floor k) e, q) (omega arith)

      -- A safe event is the lowest of all that ever come to its process.
      safe_lowest : (p : ℕ) (e : Entry C) → Safe sys s p e → Lowest sys h p (s.h p) e
      safe_lowest p e a = record {
        is_link = a.is_link;
        is_process = a.is_process;
        mine = a.mine;
        soon = a.soon;
        waits = nth_kept (sent_⊑ sys e.link (follows.begins (sys.source e.link))) (taken e.link (s.h p)) (rw a.mine at a.waits);
        least = λ j b l t n g. let c = link_clock_sound j b (rw t g) in let z = a.sure j l t n in omega arith;
      }

      -- What a process has still to take is not before its clock.
      pub clock_sound : (p : ℕ) (us : List (Entry C)) (e : Entry C) → s.h p ⊑ us → us ⊑ h p → Lowest sys h p us e → clock sys s p ≤ e.event.time
      clock_sound p us e same l a =
          let c = clock_least sys s p e.link a.is_link a.mine in
          let b = link_clock_sound e.link e.event (rw a.mine a.waits) in
          omega arith
      clock_sound p us e (more {y = d} {ys = vs} r) l a =
          let t = (merged p vs d l).lowest in
          let c = clock_sound p vs d r (⊑_trans (more same) l) t in
          let b = later sys ok h merged p vs d e t a in
          omega arith

      -- A process whose clock is the horizon has taken all.
      pub all_taken : (p : ℕ) → sys.horizon ≤ clock sys s p → s.h p ≡ h p
      all_taken p c = ⊎_elim (λ q. q)
          (λ d. let l = (merged p (s.h p) d.0 d.1).lowest in
          let t = clock_sound p (s.h p) d.0 same (follows.begins p) l in
          let n = l.soon in absurd (omega arith))
          (⊑_cases (follows.begins p))

      -- Nulls keep the floors right.
      tell_follows : (p : ℕ) → Follows (tell sys s p)
      tell_follows p = record {
        begins = follows.begins;
        over = λ k.
            let o = follows.over k in
            let c = if_cases (sys.source k) p (max (s.floor k) (promise sys s p k)) (s.floor k) in
            omega arith;
        tight = λ k us e a b l.
            let f = follows.tight k us e a b l in
            let c = clock_sound (sys.source k) us e a b l in
            ⊎_elim (λ d. rw (d.1, ← d.0) (omega arith)) (λ d. rw d.1 f)
            (if_cases (sys.source k) p (max (s.floor k) (promise sys s p k)) (s.floor k));
      }

      -- What is no breach by the floors is none by the last arrivals.
      fine_fair : (p : ℕ) (e : Entry C) → p < sys.processes → Fine sys p (s.h p) e s.floor → Fair sys p (s.h p) e
      fine_fair p e l f x i =
          let a = f x i in
          let o : last sys x.link (s.h p) ≤ s.floor x.link = rw (ok.own p l (s.h p) e x i).1 at (follows.over x.link) in
          let z = a.behind in
          record { ahead = a.ahead; near = a.near; behind = omega arith }

      -- And the other way, at the lowest event.
      fair_fine : (p : ℕ) (e : Entry C) → Lowest sys h p (s.h p) e → Fair sys p (s.h p) e → Fine sys p (s.h p) e s.floor
      fair_fine p e l f x i =
          let a = f x i in
          let q = (ok.own p l.is_process (s.h p) e x i).1 in
          let t : s.floor x.link ≤ max (last sys x.link (s.h p)) (e.event.time + sys.lookahead p + sys.delay x.link)
          = rw q at (follows.tight x.link (s.h (sys.source x.link)) e same (follows.begins (sys.source x.link)) (rw q l)) in
          let z = a.behind in
          let y = a.ahead in
          record { ahead = y; near = a.near; behind = omega arith }

      module _ (settled : Settled sys h) (p : ℕ) (e : Entry C) (safe : Safe sys s p e) where
        -- If p stands at the end of its history, the safe event is the breach at which it is stuck.
        stuck_there : s.h p ≡ h p → Stuck sys h p e
        stuck_there q =
            let l : Lowest sys h p (h p) e = rw q at (safe_lowest p e safe) in
            ⊎_elim
            (λ u. let z = u e.link e.event safe.is_link safe.mine l.waits in let y = safe.soon in absurd (omega arith))
            (λ c. rw (lowest_same sys h p (h p) c.0 e c.1.lowest l) at c.1)
            (settled p safe.is_process)

        -- If its history goes on, the safe event is the next.
        goes_on_there : (d : Entry C) → d ∷ s.h p ⊑ h p → e ∷ s.h p ⊑ h p
        goes_on_there d l = rw (lowest_same sys h p (s.h p) d e (merged p (s.h p) d l).lowest (safe_lowest p e safe)) at l

        -- A safe event that is no breach is the next event of the history.
        takes_next : Fine sys p (s.h p) e s.floor → e ∷ s.h p ⊑ h p
        takes_next f = ⊎_elim
            (λ q. absurd ((stuck_there q).unfair (rw q at (fine_fair p e safe.is_process f))))
            (λ c. goes_on_there c.0 c.1)
            (⊑_cases (follows.begins p))

        -- A safe event that is a breach is the one at which the process is stuck for good.
        pub breaches_there : ¬ (Fine sys p (s.h p) e s.floor) → (s.h p ≡ h p) × Stuck sys h p e
        breaches_there f = ⊎_elim
            (λ q. (q, stuck_there q))
            (λ c. let l = goes_on_there c.0 c.1 in
            absurd (f (fair_fine p e (safe_lowest p e safe) (merged p (s.h p) e l).fair)))
            (⊑_cases (follows.begins p))

        -- Taking a safe event keeps the kernel on the way.
        take_follows : Fine sys p (s.h p) e s.floor → Follows (take_event sys s p e)
        take_follows f = record {
          begins = λ q. ⊎_elim (λ c. rw (c.1, c.0) (takes_next f)) (λ c. rw c.1 (follows.begins q)) (update_cases s.h p q (e ∷ s.h p));
          over = λ k. let c = after_take ok s p safe.is_process e k in let o = follows.over k in omega arith;
          tight = λ k us d i b l. let c = after_take ok s p safe.is_process e k in let t = follows.tight k us d (⊑_trans (grows (sys.source k)) i) b l in omega arith;
        }
          where
            grows : (q : ℕ) → s.h q ⊑ update s.h p (e ∷ s.h p) q
            grows q = ⊎_elim (λ c. rw (c.1, c.0) (more same)) (λ c. rw c.1 same) (update_cases s.h p q (e ∷ s.h p))

    -- A kernel just prepared is on the way.
    boot_follows : Follows (boot sys)
    unfolding sent first_floor
    boot_follows = record {
      begins = λ p. ⊑_empty (h p);
      over = λ k. by_cases (dec_lt (sys.source k) sys.processes)
          (λ l. rw (if_pos (dec_lt (sys.source k) sys.processes) l (opened_floor sys k) (nulled_floor sys k)) (omega arith))
          (λ l. rw (if_neg (dec_lt (sys.source k) sys.processes) l (opened_floor sys k) (nulled_floor sys k)) (omega arith));
      tight = λ k us e a b l. rw (if_pos (dec_lt (sys.source k) sys.processes) l.is_process (opened_floor sys k) (nulled_floor sys k)) (omega arith);
    }

    -- A step keeps the kernel on the way.
    act_follows : Settled sys h → {s : Kernel C} {p : ℕ} {s' : Kernel C} → Follows s → Act sys s p s' → Follows s'
    act_follows settled {s = s} {p = p} f (idle l n) = tell_follows s f p
    act_follows settled {s = s} {p = p} f (takes e a g) = tell_follows (take_event sys s p e) (take_follows s f settled p e a g) p

    -- So is every kernel, after whatever steps.
    pub gets_follows : Settled sys h → {c : Counted C} → Gets sys c → Follows c.kernel
    gets_follows settled boots = boot_follows
    gets_follows settled (ticks g refused) = gets_follows settled g
    gets_follows settled (ticks g (marks a n)) = act_follows settled (gets_follows settled g) a
    gets_follows settled (ticks g (rounds_up a n)) = act_follows settled (gets_follows settled g) a
