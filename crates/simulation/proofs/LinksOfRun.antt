-- The links of a run hold what its histories tell: clocks and safe events are those of the kernel, and a step keeps it so.
use Rattle.std.proofs.Common.{◌≡◌, ℕ, zero, suc, ◌+◌, ◌<◌, ◌≤◌, min, max, Bool, true, false, cond, eqb, List, [], ◌∷◌, ◌++◌, length, Some, None, Option, sym, refl, ap, ◌∙◌, subst, inl, inr, ⊎_elim, append-nil, arith, ne_eqb}
use mathlib.Core.List.{tail}
use mathlib.Core.Logic.{by_cases}
use native.Mathlib.Decide.{ℕ_discrete, dec_lt}
use Rattle.model.specs.declared.event.Event.{Event}
use Rattle.model.specs.Linking.{TakeDone}
use Rattle.model.specs.Lists.{oldest, update, is, numbers_below}
use Rattle.model.specs.Pile.{Pile}
use Rattle.model.specs.Shape.{source, target, delay, out_links}
use Rattle.simulation.specs.Net.{Program, Net, Outgoing}
use Rattle.simulation.specs.View.{due, link_clock, least_clock, clock, Safe}
use Rattle.simulation.specs.Step.{Sent}
use Rattle.simulation.proofs.Tests.{if_same, if_other, update_is, update_other}
use Rattle.simulation.proofs.Places.{elem_numbers}
use Rattle.simulation.proofs.System.{System, Entry, entry, without, answer, put_last, queue, Proper}
use Rattle.simulation.proofs.Queues.{Enough, queue_first, queue_take}
use Rattle.simulation.proofs.Kernel as K
use Rattle.simulation.proofs.Kernel.{Kernel, waiting, clock_below, raised, take_event, promise, tell}
use Rattle.simulation.proofs.PlanLimits.{leads, target_there}
use Rattle.simulation.proofs.OfNet.{or_outside, system, from_target}
use Rattle.simulation.proofs.NullsAndOpenings.{Told}

-- The smallest clock with one link more.
least_append : {C : Type 0} (m : Pile C) (h : ℕ) (xs : List ℕ) (k : ℕ) → least_clock m h (xs ++ k ∷ []) ≡ min (link_clock m k) (least_clock m h xs)
least_append m h [] k = refl
least_append m h (x ∷ xs) k = let i = least_append m h xs k in omega arith

-- The smallest clock of a list with one link more, if it passes the test.
least_more : {C : Type 0} (m : Pile C) (h : ℕ) (xs : List ℕ) (k : ℕ) (b : Bool)
    → least_clock m h (xs ++ cond b (k ∷ []) []) ≡ cond b (min (link_clock m k) (least_clock m h xs)) (least_clock m h xs)
least_more m h xs k true = least_append m h xs k
least_more m h xs k false = ap (least_clock m h) (append-nil xs)

module _ {C P : Type 0} (g : Program C P) (net : Net C P) where
  -- The net as a system.
  abbrev N : System C (Option P)
  N = system g net

  -- The links hold what the kernel s says.
  pub record Holds (m : Pile C) (s : Kernel C) : Type 0 where
    pub count : m.count ≡ length net.plan.links
    pub delays : (k : ℕ) → k < length net.plan.links → m.delay k ≡ delay net.plan k
    pub queues : (k : ℕ) → k < length net.plan.links → m.waiting k ≡ queue N s.h k
    pub floors : (k : ℕ) → k < length net.plan.links → m.floor k ≡ s.floor k

  -- A link that leads to p in the plan leads there in the system.
  to_target : (k p : ℕ) → target net.plan k ≡ Some p → N.target k ≡ p
  to_target k p e = ap (or_outside g net) e

  module _ (m : Pile C) (s : Kernel C) (h : Holds m s) where
    -- The first event of a link is the one that waits first.
    first_waits : (k : ℕ) → k < length net.plan.links → oldest (m.waiting k) ≡ waiting N s k
    first_waits k l = ap oldest (h.queues k l) ∙ sym (queue_first N s.h k)

    -- The clock of a link is that of the kernel.
    link_clocks : (k : ℕ) → k < length net.plan.links → link_clock m k ≡ K.link_clock N s k
    link_clocks k l = ap (λ (o : Option (Event C)). due o (m.floor k)) (first_waits k l) ∙ ap (due (waiting N s k)) (h.floors k l)

    -- So is the smallest clock of the in-links below a number.
    clocks_below : (p n : ℕ) → n ≤ length net.plan.links
        → least_clock m net.plan.horizon (numbers_below n (λ k. is p (target net.plan k))) ≡ clock_below N s p n
    unfolding clock_below
    clocks_below p zero l = refl
    clocks_below p (suc n) l =
        let x = leads net.plan n (omega arith) in
        let c = least_clock m net.plan.horizon (numbers_below n (λ k. is p (target net.plan k))) in
        least_more m net.plan.horizon (numbers_below n (λ k. is p (target net.plan k))) n (is p (target net.plan n))
        ∙ ap (λ (o : Option ℕ). cond (is p o) (min (link_clock m n) c) c) x.1
        ∙ ap (λ (a : ℕ). cond (eqb a p) (min (link_clock m n) c) c) (sym (to_target n x.0 x.1))
        ∙ ap (λ (a : ℕ). cond (eqb (N.target n) p) (min a c) c) (link_clocks n (omega arith))
        ∙ ap (λ (a : ℕ). cond (eqb (N.target n) p) (min (K.link_clock N s n) a) a) (clocks_below p n (omega arith))

    -- The clocks are the kernel's.
    pub clocks : (p : ℕ) → clock net.plan m p ≡ K.clock N s p
    clocks p = clocks_below p (length net.plan.links) (omega arith)

    -- What is safe is safe in the kernel.
    pub safe_to : (p i : ℕ) (e : Event C) → p < net.plan.processes → Safe net.plan m p i e → K.Safe N s p (entry i e)
    safe_to p i e l a =
        let il = target_there net.plan i p a.leads in
        record {
          is_link = il;
          is_process = l;
          mine = to_target i p a.leads;
          waits = sym (first_waits i il) ∙ a.first;
          soon = a.soon;
          sure = λ j jl mine n. let c = link_clocks j jl in ⊎_elim
              (λ x. record { sooner = omega arith; tie = λ y. absurd (omega arith) })
              (λ x. let y = x.0 in let z = x.1 in record { sooner = omega arith; tie = λ w. z })
              (a.sure j (from_target g net j p jl mine) n);
        }

    -- And the other way.
    pub safe_from : (p : ℕ) (e : Entry C) → K.Safe N s p e → Safe net.plan m p e.link e.event
    safe_from p e a = record {
      leads = from_target g net e.link p a.is_link a.mine;
      first = first_waits e.link a.is_link ∙ a.waits;
      soon = a.soon;
      sure = λ j to n.
          let jl = target_there net.plan j p to in
          let c = link_clocks j jl in
          let b = a.sure j jl (to_target j p to) n in
          let b1 = b.sooner in
          by_cases (dec_lt e.event.time (link_clock m j)) (λ x. inl x) (λ x. inr (omega arith, b.tie (omega arith)));
    }

    -- A link comes from p in the plan as in the system.
    from_is : (p : ℕ) → p < net.plan.processes → (o : Option ℕ) → is p o ≡ eqb (or_outside g net o) p
    from_is p l None = sym (ne_eqb net.plan.processes p (λ e. let z : ⊥ = omega arith in z))
    from_is p l (Some q) = refl

    -- Nulls by the clock of p are what the kernel tells.
    pub tells : (p look : ℕ) (w : Pile C) → p < net.plan.processes → look ≡ N.lookahead p
        → Told (clock net.plan m p + look) (out_links net.plan p) m w → Holds w (tell N s p)
    tells p look w l e t =
        let c = h.count in
        record {
          count = t.count ∙ h.count;
          delays = λ k kl. t.delay k (omega arith) ∙ h.delays k kl;
          queues = λ k kl. t.waiting k (omega arith) ∙ h.queues k kl;
          floors = λ k kl.
              let d = h.delays k kl in
              let f = h.floors k kl in
              let x = clocks p in
              let up : max (m.floor k) (clock net.plan m p + look + m.delay k) ≡ max (s.floor k) (promise N s p k) = omega arith in
              t.floor k (omega arith)
              ∙ ap (λ b. cond b (max (m.floor k) (clock net.plan m p + look + m.delay k)) (m.floor k))
              (elem_numbers (length net.plan.links) (λ j. is p (source net.plan j)) k kl ∙ from_is p l (source net.plan k))
              ∙ ap (λ y. cond (eqb (N.source k) p) y (m.floor k)) up ∙ ap (λ y. cond (eqb (N.source k) p) (max (s.floor k) (promise N s p k)) y) f;
        }

  -- p takes its safe event e of the link i, and what it sends is put.
  module _ (ok : Proper N) (m : Pile C) (s : Kernel C) (h : Holds m s) (n : Enough N s.h) (p i : ℕ) (e : Event C) (a : K.Safe N s p (entry i e))
      (u : Pile C) (t : TakeDone m i e u) where
    -- The event as an entry.
    abbrev ev : Entry C
    ev = entry i e

    -- Once the event is taken, it is gone from its link.
    taken_waiting : (k : ℕ) → k < length net.plan.links → u.waiting k ≡ without k ev (m.waiting k)
    taken_waiting k l = let c = h.count in by_cases (ℕ_discrete i k)
        (λ q. subst (λ (x : ℕ). u.waiting x ≡ without x ev (m.waiting x)) q (ap tail (sym t.waiting) ∙ sym (if_same i i (tail (m.waiting i)) (m.waiting i) refl)))
        (λ d. t.apart.waiting k (omega arith) (λ q. d (sym q)) ∙ sym (if_other i k (tail (m.waiting k)) (m.waiting k) d))

    -- The floors stay.
    taken_floor : (k : ℕ) → k < length net.plan.links → u.floor k ≡ s.floor k
    taken_floor k l = let c = h.count in by_cases (ℕ_discrete k i)
        (λ q. rw q t.floor ∙ h.floors k l)
        (λ d. t.apart.floor k (omega arith) d ∙ h.floors k l)

    -- The delays stay.
    taken_delay : (k : ℕ) → k < length net.plan.links → u.delay k ≡ delay net.plan k
    taken_delay k l = let c = h.count in (t.steady.settled k (omega arith)).delay ∙ h.delays k l

    -- The queue of the kernel after it, once the sending is known.
    queue_after : (o : Option (Outgoing C)) → answer N p (s.h p) ev ≡ o → (k : ℕ)
        → put_last N k o (without k ev (queue N s.h k)) ≡ queue N (take_event N s p ev).h k
    queue_after o q k = sym (queue_take N ok s.h n p ev a.is_process a.mine a.waits k ∙ ap (λ z. put_last N k z (without k ev (queue N s.h k))) q)

    -- Then the links hold what the kernel says once it has taken the event.
    pub takes_out : (o : Option (Outgoing C)) (w : Pile C) → answer N p (s.h p) ev ≡ o → Sent u o w → Holds w (take_event N s p ev)
    unfolding put_last raised
    takes_out None w q y = record {
      count = ap (λ (z : Pile C). z.count) y ∙ t.steady.count ∙ h.count;
      delays = λ k l. ap (λ (z : Pile C). z.delay k) y ∙ taken_delay k l;
      queues = λ k l. ap (λ (z : Pile C). z.waiting k) y ∙ taken_waiting k l ∙ ap (without k ev) (h.queues k l) ∙ queue_after None q k;
      floors = λ k l. ap (λ (z : Pile C). z.floor k) y ∙ taken_floor k l ∙ sym (ap (λ z. raised N z s.floor k) q);
    }
    takes_out (Some x) w q y =
        let c = h.count in
        let tc = t.steady.count in
        let own = (ok.own p a.is_process (s.h p) ev x q).0 in
        record {
          count = y.steady.count ∙ t.steady.count ∙ h.count;
          delays = λ k l. (y.steady.settled k (omega arith)).delay ∙ taken_delay k l;
          queues = λ k l. by_cases (ℕ_discrete x.link k)
              (λ r. subst (λ (j : ℕ). w.waiting j ≡ put_last N j (Some x) (without j ev (m.waiting j))) r
              (y.waiting ∙ ap (λ (d : ℕ). u.waiting x.link ++ record { time = x.time + d; cargo = x.cargo } ∷ []) (taken_delay x.link own)
              ∙ ap (λ z. z ++ record { time = x.time + delay net.plan x.link; cargo = x.cargo } ∷ []) (taken_waiting x.link own)
              ∙ sym (if_same x.link x.link _ (without x.link ev (m.waiting x.link)) refl)))
              (λ d. y.apart.waiting k (omega arith) (λ r. d (sym r)) ∙ taken_waiting k l ∙ sym (if_other x.link k _ (without k ev (m.waiting k)) d))
              ∙ ap (λ z. put_last N k (Some x) (without k ev z)) (h.queues k l) ∙ queue_after (Some x) q k;
          floors = λ k l. by_cases (ℕ_discrete k x.link)
              (λ r. subst (λ (j : ℕ). w.floor j ≡ update s.floor x.link (x.time + delay net.plan x.link) j) (sym r)
              (y.floor ∙ ap (λ (d : ℕ). x.time + d) (taken_delay x.link own) ∙ sym (update_is s.floor x.link x.link _ refl)))
              (λ d. y.apart.floor k (omega arith) d ∙ taken_floor k l ∙ sym (update_other s.floor x.link k _ d))
              ∙ sym (ap (λ z. raised N z s.floor k) q);
        }
