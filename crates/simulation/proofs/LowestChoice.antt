-- The simulation's choice is the lowest pending event.
use Rattle.std.proofs.Common.{◌≡◌, ℕ, zero, suc, ◌<◌, Bool, true, false, cond, ◌&&◌, ltb, ◌⊎◌, length, Some, None, Option, sym, refl, ap, ◌∙◌, inl, inr, ⊎_elim, arith, ltb-false, ltb-true, lt-ltb, eqb-true}
use mathlib.Core.Logic.{by_cases}
use native.Mathlib.Decide.{ℕ_discrete}
use borrow.Author.Tests.{eqb-false}
use Rattle.model.specs.declared.event.Event.{Event}
use Rattle.model.specs.Lists.{oldest, then, only_if, is_none}
use Rattle.model.specs.Shape.{target}
use Rattle.simulation.specs.Net.{Net}
use Rattle.simulation.specs.Simulation.{Sim, Choice, before, lower, candidate, lowest_below, lowest}
use Rattle.simulation.proofs.Tests.{none_is_some, true_is_false, and_true, and_false, or_true, or_false, only_if_some}
use Rattle.simulation.proofs.PlanLimits.{target_there}
use Rattle.simulation.proofs.Course.{Upto}

-- a comes no later than b.
abbrev pub Lower : {C : Type 0} → Choice C → Choice C → Type 0
Lower a b = Upto a.event.time a.process a.link b.event.time b.process b.link

-- What comes before is lower.
before_true : {C : Type 0} (a b : Choice C) → before a b ≡ true → Lower a b
before_true a b e = ⊎_elim
    (λ x. let l = ltb-true a.event.time b.event.time x in omega arith)
    (λ x. let y = and_true _ _ x in let l = eqb-true a.event.time b.event.time y.0 in ⊎_elim
    (λ z. let m = ltb-true a.process b.process z in omega arith)
    (λ z. let w = and_true _ _ z in let m = eqb-true a.process b.process w.0 in let n = ltb-true a.link b.link w.1 in omega arith)
    (or_true _ _ y.1))
    (or_true _ _ e)

-- What does not come before is not lower.
before_false : {C : Type 0} (a b : Choice C) → before a b ≡ false → Lower b a
before_false a b e =
    let x = or_false _ _ e in
    let l = ltb-false a.event.time b.event.time x.0 in ⊎_elim
    (λ y. let n = eqb-false a.event.time b.event.time y in omega (arith, n))
    (λ y. let z = or_false _ _ y in let m = ltb-false a.process b.process z.0 in ⊎_elim
    (λ w. let n = eqb-false a.process b.process w in omega (arith, n))
    (λ w. let n = ltb-false a.link b.link w in omega arith)
    (and_false _ _ z.1))
    (and_false _ _ x.1)

-- Lower than lower is lower.
lower_trans : {C : Type 0} (a b c : Choice C) → Lower a b → Lower b c → Lower a c
lower_trans a b c x y = omega arith

-- A choice is no later than itself.
lower_refl : {C : Type 0} (a : Choice C) → Lower a a
lower_refl a = omega arith

-- c is one of two choices, and no later than either.
record Won {C : Type 0} (x y : Option (Choice C)) (c : Choice C) : Type 0 where
  is : (x ≡ Some c) ⊎ (y ≡ Some c)
  left : (b : Choice C) → x ≡ Some b → Lower c b
  right : (b : Choice C) → y ≡ Some b → Lower c b

-- The lower of two is.
lower_won : {C : Type 0} (x y : Option (Choice C)) (c : Choice C) → lower x y ≡ Some c → Won x y c
lower_won None None c e = none_is_some e
lower_won None (Some b) c e = record { is = inr e; left = λ d f. none_is_some f; right = λ d f. let q : c ≡ d = cc in rw q (lower_refl d) }
lower_won (Some a) None c e = record { is = inl e; left = λ d f. let q : c ≡ d = cc in rw q (lower_refl d); right = λ d f. none_is_some f }
lower_won (Some a) (Some b) c e = go (before b a) refl e
  where
    go : (t : Bool) → before b a ≡ t → cond t (Some b) (Some a) ≡ Some c → Won (Some a) (Some b) c
    go true q f =
        let l = before_true b a q in
        let r : b ≡ c = cc in
        record { is = inr f; left = λ d h. let s : a ≡ d = cc in rw (← r, ← s) l; right = λ d h. let s : b ≡ d = cc in rw (← r, ← s) (lower_refl b) }
    go false q f =
        let l = before_false b a q in
        let r : a ≡ c = cc in
        record { is = inl f; left = λ d h. let s : a ≡ d = cc in rw (← r, ← s) (lower_refl a); right = λ d h. let s : b ≡ d = cc in rw (← r, ← s) l }

-- If there is no lower one, there is neither.
lower_none : {C : Type 0} (x y : Option (Choice C)) → lower x y ≡ None → (x ≡ None) × (y ≡ None)
lower_none None y e = (refl, e)
lower_none (Some a) None e = none_is_some (sym e)
lower_none {C} (Some a) (Some b) e = go (before b a) e
  where
    go : (t : Bool) → cond t (Some b) (Some a) ≡ None → (◌≡◌ {A = Option (Choice C)} (Some a) None) × (◌≡◌ {A = Option (Choice C)} (Some b) None)
    go true f = none_is_some (sym f)
    go false f = none_is_some (sym f)

module _ {C P : Type 0} (net : Net C P) (s : Sim C P) where
  -- c is the first pending event of its link, it comes before the horizon, and its process is not stopped.
  pub record Pending (c : Choice C) : Type 0 where
    pub leads : target net.plan c.link ≡ Some c.process
    pub first : oldest (s.pending c.link) ≡ Some c.event
    pub soon : c.event.time < net.plan.horizon
    pub goes : s.stopped c.process ≡ None

  -- It is pending, and no other that is comes before it.
  pub record Picked (c : Choice C) : Type 0 where
    pub pending : Pending c
    pub least : (b : Choice C) → Pending b → Lower c b

  -- The choice of the event e of the link k at p, if it comes before the horizon and p is not stopped.
  abbrev test : ℕ → ℕ → Event C → Option (Choice C)
  test k p e = only_if (ltb e.time net.plan.horizon && is_none (s.stopped p)) (record { process = p; link = k; event = e })

  -- A candidate is pending.
  candidate_pending : (k : ℕ) (c : Choice C) → candidate net s k ≡ Some c → Pending c
  candidate_pending k c e = go (target net.plan k) refl (oldest (s.pending k)) refl e
    where
      none_there : {A : Type 0} (o : Option A) → is_none o ≡ true → o ≡ None
      none_there None q = refl
      none_there (Some a) q = true_is_false (sym q)

      go : (o : Option ℕ) → target net.plan k ≡ o → (f : Option (Event C)) → oldest (s.pending k) ≡ f → then o (λ p. then f (test k p)) ≡ Some c
          → Pending c
      go None q f r w = none_is_some w
      go (Some p) q None r w = none_is_some w
      go (Some p) q (Some a) r w =
          let x = only_if_some (ltb a.time net.plan.horizon) (is_none (s.stopped p)) (record { process = p; link = k; event = a }) c w in
          rw (← x.2) (record { leads = q; first = r; soon = ltb-true a.time net.plan.horizon x.0; goes = none_there (s.stopped p) x.1 })

  -- What is pending is a candidate.
  pending_candidate : (c : Choice C) → Pending c → candidate net s c.link ≡ Some c
  pending_candidate c p =
      ap (λ (o : Option ℕ). then o (λ q. then (oldest (s.pending c.link)) (test c.link q))) p.leads
      ∙ ap (λ (o : Option (Event C)). then o (test c.link c.process)) p.first
      ∙ ap (λ b. only_if (b && is_none (s.stopped c.process)) c) (lt-ltb c.event.time net.plan.horizon p.soon)
      ∙ ap (λ (o : Option _). only_if (is_none o) c) p.goes

  -- c is the lowest candidate of the links below m.
  record Best (m : ℕ) (c : Choice C) : Type 0 where
    k : ℕ
    below : k < m
    is : candidate net s k ≡ Some c
    least : (j : ℕ) (b : Choice C) → j < m → candidate net s j ≡ Some b → Lower c b

  -- Where nothing is lowest there is no candidate.
  none_below : (m : ℕ) → lowest_below net m s ≡ None → (k : ℕ) → k < m → candidate net s k ≡ None
  none_below zero e k l = absurd (omega arith)
  none_below (suc m) e k l =
      let w = lower_none (lowest_below net m s) (candidate net s m) e in
      by_cases (ℕ_discrete k m) (λ q. rw q w.1) (λ q. none_below m w.0 k (omega arith))

  -- The lowest is the best.
  best : (m : ℕ) (c : Choice C) → lowest_below net m s ≡ Some c → Best m c
  best zero c e = none_is_some e
  best (suc m) c e = go (lower_won (lowest_below net m s) (candidate net s m) c e) (lowest_below net m s) refl (λ b q. best m b q)
    where
      go : Won (lowest_below net m s) (candidate net s m) c → (o : Option (Choice C)) → lowest_below net m s ≡ o
          → ((b : Choice C) → lowest_below net m s ≡ Some b → Best m b) → Best (suc m) c
      go w None q rec = record {
        k = m;
        below = omega arith;
        is = ⊎_elim (λ x. none_is_some (sym q ∙ x)) (λ x. x) w.is;
        least = λ j b l f. by_cases (ℕ_discrete j m) (λ r. w.right b (rw r at f)) (λ r. none_is_some (sym (none_below m q j (omega arith)) ∙ f));
      }
      go w (Some b) q rec =
          let B = rec b q in
          let l = B.below in
          let least : (j : ℕ) (d : Choice C) → j < suc m → candidate net s j ≡ Some d → Lower c d = λ j d i f. by_cases (ℕ_discrete j m)
          (λ r. w.right d (rw r at f)) (λ r. lower_trans c b d (w.left b q) (B.least j d (omega arith) f)) in
          ⊎_elim
          (λ x. let r : b ≡ c = cc in record { k = B.k; below = omega arith; is = B.is ∙ ap (λ (y : Choice C). Some y) r; least = least })
          (λ x. record { k = m; below = omega arith; is = x; least = least })
          w.is

  -- What the simulation chooses is picked so.
  pub picked : (c : Choice C) → lowest net s ≡ Some c → Picked c
  picked c e =
      let B = best (length net.plan.links) c e in
      record {
        pending = candidate_pending B.k c B.is;
        least = λ b p. B.least b.link b (target_there net.plan b.link b.process p.leads) (pending_candidate b p);
      }

  -- And if it chooses nothing, nothing is pending.
  pub none_pending : lowest net s ≡ None → (c : Choice C) → ¬ (Pending c)
  none_pending e c p =
      let l = target_there net.plan c.link c.process p.leads in
      none_is_some (sym (none_below (length net.plan.links) e c.link l) ∙ pending_candidate c p)
