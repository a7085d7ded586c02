-- The merge law: at the end of the simulation, each process took at every turn the lowest of all events that were ever sent to it.
use Rattle.std.proofs.Common.{◌≡◌, ℕ, suc, ◌+◌, ◌<◌, ◌≤◌, ◌⊎◌, List, ◌∷◌, Some, None, Option, sym, refl, ◌∙◌, subst, inl, inr, ⊎_elim, arith}
use mathlib.Core.Logic.{by_cases}
use native.Mathlib.Decide.{ℕ_discrete, dec_lt}
use Rattle.model.specs.declared.event.Event.{Event}
use Rattle.model.specs.Lists.{update}
use Rattle.simulation.proofs.Tests.{none_is_some, some_same, update_cases}
use Rattle.simulation.proofs.Histories.{nth, ◌⊑◌, same, more, ⊑_uncons, ⊑_nil, nth_cases, nth_kept}
use Rattle.simulation.proofs.System.{System, Entry, entry, Rising, taken, arrives, sent, next, Fair, Lowest, Quiet, Stuck, Proper}
use Rattle.simulation.proofs.SentEvents.{taken_same, taken_other, rising_at, AllFair, sent_rising, sent_⊑, Sends, sent_cases}
use Rattle.simulation.proofs.Course.{Course, Upto, begin, Chosen, grown, takes, stops, Comes, starts, goes_on, Ends}

module _ {C S : Type 0} (sys : System C S) where
  -- After hs, p took its lowest event e, and handled it fairly.
  pub record Merges (h : ℕ → List (Entry C)) (p : ℕ) (hs : List (Entry C)) (e : Entry C) : Type 0 where
    pub lowest : Lowest sys h p hs e
    pub fair : Fair sys p hs e

  -- Every process did so at every turn.
  abbrev pub Merged : (ℕ → List (Entry C)) → Type 0
  Merged h = (p : ℕ) (hs : List (Entry C)) (e : Entry C) → e ∷ hs ⊑ h p → Merges h p hs e

  -- At every process nothing waits before the horizon, or what does is a breach.
  abbrev pub Settled : (ℕ → List (Entry C)) → Type 0
  Settled h = (p : ℕ) → p < sys.processes → Quiet sys h p ⊎ ((e : Entry C) × Stuck sys h p e)

  -- There is one lowest event at most.
  pub lowest_same : (h : ℕ → List (Entry C)) (p : ℕ) (hs : List (Entry C)) (d e : Entry C) → Lowest sys h p hs d → Lowest sys h p hs e → d ≡ e
  lowest_same h p hs d e a b = by_cases (ℕ_discrete d.link e.link)
      (λ l. let m : d.event ≡ e.event = some_same a.waits (rw l b.waits) in λ i. record { link = l i; event = m i })
      (λ n. let x = a.least e.link e.event b.is_link b.mine (λ q. n (sym q)) b.waits in
      let y = b.least d.link d.event a.is_link a.mine n a.waits in absurd (omega arith))

  module _ (ok : Proper sys) (h : ℕ → List (Entry C)) (merged : Merged h) where
    -- All that was handled was fair.
    all_fair : (p : ℕ) → AllFair sys p (h p)
    all_fair p e hs l = (merged p hs e l).fair

    -- So the arrivals on each link rise.
    all_rising : (k : ℕ) → k < sys.links → Rising (sent sys k (h (sys.source k)))
    all_rising k i = sent_rising sys ok k i (h (sys.source k)) (all_fair (sys.source k))

    -- What a process takes later is no sooner.
    pub later : (p : ℕ) (hs : List (Entry C)) (d e : Entry C) → Lowest sys h p hs d → Lowest sys h p (d ∷ hs) e → d.event.time ≤ e.event.time
    later p hs d e a b = by_cases (ℕ_discrete d.link e.link)
        (λ l. let k = d.link in
        rising_at (sent sys k (h (sys.source k))) (taken k hs) (suc (taken k hs)) d.event e.event (all_rising k a.is_link) (omega arith)
        a.waits (rw (sym l, taken_same k d hs refl) at b.waits))
        (λ n. (a.least e.link e.event b.is_link b.mine (λ q. n (sym q)) (rw (taken_other e.link d hs n) at b.waits)).sooner)

  -- Times have come to τ: what was taken was due by then, what waits is due from then on, and what is stopped is stuck.
  pub record Sound (s : Course C) (τ : ℕ) : Type 0 where
    pub merges : (p : ℕ) (hs : List (Entry C)) (e : Entry C) → e ∷ hs ⊑ s.h p → Merges s.h p hs e × (e.event.time ≤ τ)
    pub ahead : (k : ℕ) (a : Event C) → k < sys.links → sys.target k < sys.processes → s.stopped (sys.target k) ≡ None
        → next sys k (s.h (sys.source k)) (s.h (sys.target k)) ≡ Some a → τ ≤ a.time
    pub stuck : (p : ℕ) (e : Entry C) → s.stopped p ≡ Some e → Stuck sys s.h p e × (e.event.time ≤ τ)

  -- At the start no time has passed.
  begin_sound : Sound (begin sys) 0
  begin_sound = record {
    merges = λ p hs e l. absurd (⊑_nil l);
    ahead = λ k a i q g w. omega arith;
    stuck = λ p e t. none_is_some t;
  }

  module _ (s : Course C) (k : ℕ) (a : Event C) (chosen : Chosen sys s k a) where
    -- Nothing that waits at a process that goes on comes before what is chosen.
    chosen_least : (j : ℕ) (b : Event C) → j < sys.links → sys.target j < sys.processes → s.stopped (sys.target j) ≡ None
        → next sys j (s.h (sys.source j)) (s.h (sys.target j)) ≡ Some b → Upto a.time (sys.target k) k b.time (sys.target j) j
    chosen_least j b i q g w = by_cases (dec_lt b.time sys.horizon)
        (λ l. chosen.lowest j b (record { is_link = i; is_process = q; goes = g; is = w; soon = l }))
        (λ l. let z = chosen.waits.soon in omega arith)

    -- The chosen event is the lowest of its process.
    chosen_lowest : Lowest sys s.h (sys.target k) (s.h (sys.target k)) (entry k a)
    chosen_lowest = record {
      is_link = chosen.waits.is_link;
      is_process = chosen.waits.is_process;
      mine = refl;
      waits = chosen.waits.is;
      soon = chosen.waits.soon;
      least = λ j b l t n w. let u = chosen_least j b l (rw t chosen.waits.is_process) (rw t chosen.waits.goes) (rw t w) in omega arith;
    }

    module _ (ok : Proper sys) (fair : Fair sys (sys.target k) (s.h (sys.target k)) (entry k a)) where
      -- The histories once the event is taken.
      abbrev h' : ℕ → List (Entry C)
      h' = grown sys s.h k a

      -- They only grow.
      grows : (q : ℕ) → s.h q ⊑ h' q
      grows q = ⊎_elim (λ c. rw (c.1, c.0) (more same)) (λ c. rw c.1 same) (update_cases s.h (sys.target k) q (entry k a ∷ s.h (sys.target k)))

      -- What is sent as the event is taken arrives later than it, as every reach is 1 or more.
      arrives_later : (j : ℕ) → j < sys.links → (c : Sends sys s.h (sys.target k) (entry k a) j) → a.time < c.x.time + sys.delay j
      arrives_later j i c =
          let f = fair c.x c.by in
          let l = f.ahead in
          let r : 1 ≤ sys.lookahead (sys.target k) + sys.delay j = rw c.from at (ok.reach j i (rw c.from chosen.waits.is_process)) in
          omega arith

      -- So every event of a link was there before, or is later.
      old_or_later : (j n : ℕ) (b : Event C) → j < sys.links → nth (sent sys j (h' (sys.source j))) n ≡ Some b
          → (nth (sent sys j (s.h (sys.source j))) n ≡ Some b) ⊎ (a.time < b.time)
      old_or_later j n b i w = ⊎_elim
          (λ e. inl (rw e at w))
          (λ c. ⊎_elim
          (λ g. inr (subst (λ m. a.time < m.time) g.1 (arrives_later j i c)))
          (λ g. inl g)
          (nth_cases (arrives sys j c.x) (sent sys j (s.h (sys.source j))) n (rw c.is at w)))
          (sent_cases sys s.h (sys.target k) (entry k a) j)

      -- What was lowest by then stays lowest.
      lowest_kept : (q : ℕ) (hs : List (Entry C)) (d : Entry C) → d.event.time ≤ a.time → Lowest sys s.h q hs d → Lowest sys h' q hs d
      lowest_kept q hs d t l = record {
        is_link = l.is_link;
        is_process = l.is_process;
        mine = l.mine;
        soon = l.soon;
        waits = nth_kept (sent_⊑ sys d.link (grows (sys.source d.link))) (taken d.link hs) l.waits;
        least = λ j b i m n w. ⊎_elim (λ o. l.least j b i m n o) (λ o. omega arith) (old_or_later j (taken j hs) b i w);
      }

    module _ (τ : ℕ) (sound : Sound s τ) where
      -- Times never fall.
      not_back : τ ≤ a.time
      not_back = sound.ahead k a chosen.waits.is_link chosen.waits.is_process chosen.waits.goes chosen.waits.is

      -- The chosen event stops its process.
      stops_sound : ¬ (Fair sys (sys.target k) (s.h (sys.target k)) (entry k a))
          → Sound (record { h = s.h; stopped = update s.stopped (sys.target k) (Some (entry k a)) }) a.time
      stops_sound f = record {
        merges = λ p hs e l. let t = sound.merges p hs e l in let n = not_back in (t.0, omega arith);
        ahead = λ j b i q g w. ⊎_elim
            (λ c. none_is_some (sym g ∙ c.1))
            (λ c. (chosen_least j b i q (sym c.1 ∙ g) w).sooner)
            (update_cases s.stopped (sys.target k) (sys.target j) (Some (entry k a)));
        stuck = λ p e g. ⊎_elim
            (λ c. rw (c.0, ← some_same c.1 g) (record { lowest = chosen_lowest; unfair = f }, omega arith))
            (λ c. let t = sound.stuck p e (sym c.1 ∙ g) in let n = not_back in (t.0, omega arith))
            (update_cases s.stopped (sys.target k) p (Some (entry k a)));
      }

      module _ (ok : Proper sys) (fair : Fair sys (sys.target k) (s.h (sys.target k)) (entry k a)) where
        -- What was merged stays so.
        merges_kept : (q : ℕ) (hs : List (Entry C)) (d : Entry C) → d ∷ hs ⊑ s.h q → Merges (h' ok fair) q hs d × (d.event.time ≤ a.time)
        merges_kept q hs d l =
            let t = sound.merges q hs d l in
            let n = not_back in
            let m : d.event.time ≤ a.time = omega arith in
            (record { lowest = lowest_kept ok fair q hs d m t.0.lowest; fair = t.0.fair }, m)

        -- What is taken now is merged.
        merges_new : Merges (h' ok fair) (sys.target k) (s.h (sys.target k)) (entry k a)
        merges_new = record { lowest = lowest_kept ok fair (sys.target k) (s.h (sys.target k)) (entry k a) (omega arith) chosen_lowest; fair = fair }

        -- So all is.
        all_merge : (q : ℕ) (hs : List (Entry C)) (d : Entry C) → d ∷ hs ⊑ h' ok fair q → Merges (h' ok fair) q hs d × (d.event.time ≤ a.time)
        all_merge q hs d l = ⊎_elim
            (λ c. ⊎_elim
            (λ g. rw (g.0, g.1, c.0) (merges_new, omega arith))
            (λ g. merges_kept q hs d (rw c.0 g))
            (⊑_uncons (rw c.1 at l)))
            (λ c. merges_kept q hs d (rw c.1 at l))
            (update_cases s.h (sys.target k) q (entry k a ∷ s.h (sys.target k)))

        -- What waited before, and waits still, is not before the event taken.
        old_ahead : (j : ℕ) (b : Event C) → j < sys.links → sys.target j < sys.processes → s.stopped (sys.target j) ≡ None
            → nth (sent sys j (s.h (sys.source j))) (taken j (h' ok fair (sys.target j))) ≡ Some b → a.time ≤ b.time
        old_ahead j b i q g w = ⊎_elim
            (λ c. by_cases (ℕ_discrete k j)
            (λ e. rising_at (sent sys k (s.h (sys.source k))) (taken k (s.h (sys.target k))) (suc (taken k (s.h (sys.target k)))) a b
            (sent_rising sys ok k chosen.waits.is_link (s.h (sys.source k)) (λ d hs l. (sound.merges (sys.source k) hs d l).0.fair)) (omega arith) chosen.waits.is
            (rw (c.1, taken_same j (entry k a) (s.h (sys.target k)) e, ← e) at w))
            (λ n. (chosen_least j b i q g (rw c.0 (rw (c.1, taken_other j (entry k a) (s.h (sys.target k)) n) at w))).sooner))
            (λ c. (chosen_least j b i q g (rw c.1 at w)).sooner)
            (update_cases s.h (sys.target k) (sys.target j) (entry k a ∷ s.h (sys.target k)))

        -- What is stuck stays stuck.
        stuck_kept : (q : ℕ) (d : Entry C) → d.event.time ≤ a.time → s.stopped q ≡ Some d → Stuck sys s.h q d → Stuck sys (h' ok fair) q d
        stuck_kept q d t g u = ⊎_elim
            (λ c. none_is_some (sym (rw c.0 chosen.waits.goes) ∙ g))
            (λ c. record { lowest = rw c.1 (lowest_kept ok fair q (s.h q) d t u.lowest); unfair = rw c.1 u.unfair })
            (update_cases s.h (sys.target k) q (entry k a ∷ s.h (sys.target k)))

        -- The chosen event is taken.
        takes_sound : Sound (record { h = h' ok fair; stopped = s.stopped }) a.time
        takes_sound = record {
          merges = all_merge;
          ahead = λ j b i q g w. ⊎_elim (old_ahead j b i q g) (λ l. omega arith) (old_or_later ok fair j (taken j (h' ok fair (sys.target j))) b i w);
          stuck = λ q d g. let t = sound.stuck q d g in let n = not_back in
              let m : d.event.time ≤ a.time = omega arith in (stuck_kept q d m g t.0, m);
        }

  -- So it is all the way.
  comes_sound : Proper sys → {s : Course C} → Comes sys s → (τ : ℕ) × Sound s τ
  comes_sound ok starts = (0, begin_sound)
  comes_sound ok (goes_on {s = s} c (takes {k = k} {a = a} x f)) = let i = comes_sound ok c in (a.time, takes_sound s k a x i.0 i.1 ok f)
  comes_sound ok (goes_on {s = s} c (stops {k = k} {a = a} x f)) = let i = comes_sound ok c in (a.time, stops_sound s k a x i.0 i.1 f)

  module _ (ok : Proper sys) {s : Course C} (ends : Ends sys s) where
    -- The merge law of the simulation's end.
    pub ends_merged : Merged s.h
    ends_merged p hs d l = ((comes_sound ok ends.comes).1.merges p hs d l).0

    -- A process that was stopped is stuck at that event.
    pub stopped_stuck : (p : ℕ) (e : Entry C) → s.stopped p ≡ Some e → Stuck sys s.h p e
    stopped_stuck p e g = ((comes_sound ok ends.comes).1.stuck p e g).0

    -- And a process that is stuck was stopped there.
    pub stuck_stopped : (p : ℕ) (e : Entry C) → Stuck sys s.h p e → s.stopped p ≡ Some e
    stuck_stopped p e u = go (s.stopped p) refl
      where
        go : (o : Option (Entry C)) → s.stopped p ≡ o → s.stopped p ≡ Some e
        go None q =
            let l = u.lowest in
            absurd (ends.over e.link e.event (record {
              is_link = l.is_link;
              is_process = rw l.mine l.is_process;
              goes = rw l.mine q;
              is = rw l.mine l.waits;
              soon = l.soon;
            }))
        go (Some d) q = rw (lowest_same s.h p (s.h p) e d u.lowest (stopped_stuck p d q).lowest) q

    -- At the end all is settled.
    pub ends_settled : Settled s.h
    ends_settled p q = go (s.stopped p) refl
      where
        go : (o : Option (Entry C)) → s.stopped p ≡ o → Quiet sys s.h p ⊎ ((d : Entry C) × Stuck sys s.h p d)
        go (Some e) g = inr (e, stopped_stuck p e g)
        go None g = inl (λ j b i m w. by_cases (dec_lt b.time sys.horizon)
            (λ l. absurd (ends.over j b (record { is_link = i; is_process = rw m q; goes = rw m g; is = rw m w; soon = l })))
            (λ l. omega arith))
