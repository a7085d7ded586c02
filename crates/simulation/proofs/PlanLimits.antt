-- What the limits of a plan say of its links.
use Rattle.std.proofs.Common.{◌≡◌, ℕ, ◌<◌, ◌≤◌, true, ◌&&◌, ltb, ◌⊎◌, length, Some, None, Option, sym, refl, ap, ◌∙◌, inl, inr, arith, ltb-true, leb-true}
use Rattle.model.specs.declared.link.Link.{Link}
use Rattle.model.specs.Lists.{at, then}
use Rattle.model.specs.Shape.{Shape, source, target, delay_of, delay, from_below, joins, joined, few_ports, within}
use Rattle.simulation.proofs.Tests.{none_is_some, and_true, each_true}
use Rattle.simulation.proofs.Places.{at_lt, at_there}

module _ (plan : Shape) where
  -- A link that leads somewhere is there.
  pub target_there : (k p : ℕ) → target plan k ≡ Some p → k < length plan.links
  target_there k p e = go (at plan.links k) refl e
    where
      go : (o : Option Link) → at plan.links k ≡ o → then o (λ (l : Link). Some l.to) ≡ Some p → k < length plan.links
      go None q f = none_is_some f
      go (Some l) q f = at_lt plan.links k l q

  -- A link that is there leads somewhere.
  pub leads : (k : ℕ) → k < length plan.links → (p : ℕ) × (target plan k ≡ Some p)
  leads k l = let x = at_there plan.links k l in (x.0.to, ap (λ (o : Option Link). then o (λ (n : Link). Some n.to)) x.1)

  module _ (ok : within plan ≡ true) where
    -- All links join processes.
    all_joined : joined plan ≡ true
    all_joined = (and_true _ (joined plan) (and_true _ (few_ports plan) ok).0).1

    -- So each does.
    link_joins : (k : ℕ) (l : Link) → at plan.links k ≡ Some l → joins plan.processes (Some l) ≡ true
    link_joins k l e =
        ap (joins plan.processes) (sym e)
        ∙ each_true (length plan.links) (λ j. joins plan.processes (at plan.links j)) all_joined k (at_lt plan.links k l e)

    -- It leads to one of the processes.
    pub target_below : (k p : ℕ) → target plan k ≡ Some p → p < plan.processes
    target_below k p e = go (at plan.links k) refl e
      where
        go : (o : Option Link) → at plan.links k ≡ o → then o (λ (l : Link). Some l.to) ≡ Some p → p < plan.processes
        go None q f = none_is_some f
        go (Some l) q f =
            let to : l.to ≡ p = cc in
            let t = (and_true (from_below plan.processes l.from && ltb l.to plan.processes) _ (link_joins k l q)).0 in
            rw (← to) (ltb-true l.to plan.processes (and_true (from_below plan.processes l.from) _ t).1)

    -- It comes from outside, or from one of the processes.
    pub source_cases : (k : ℕ) → k < length plan.links → (source plan k ≡ None) ⊎ ((p : ℕ) × (source plan k ≡ Some p) × (p < plan.processes))
    source_cases k i = let x = at_there plan.links k i in go x.0 x.1 x.0.from refl
      where
        go : (l : Link) → at plan.links k ≡ Some l → (o : Option ℕ) → l.from ≡ o
            → (source plan k ≡ None) ⊎ ((p : ℕ) × (source plan k ≡ Some p) × (p < plan.processes))
        go l e None f = inl (ap (λ (z : Option Link). then z (λ (n : Link). n.from)) e ∙ f)
        go l e (Some p) f =
            let u = (and_true (from_below plan.processes l.from && ltb l.to plan.processes) _ (link_joins k l e)).0 in
            let t = (and_true (from_below plan.processes l.from) _ u).0 in
            inr (
              p,
              ap (λ (z : Option Link). then z (λ (n : Link). n.from)) e ∙ f,
              ltb-true p plan.processes (ap (from_below plan.processes) (sym f) ∙ t),
            )

    -- Its delay is 10,000 at most.
    pub delay_below : (k : ℕ) → delay plan k ≤ 10000
    delay_below k = go (at plan.links k) refl
      where
        go : (o : Option Link) → at plan.links k ≡ o → delay_of o ≤ 10000
        go None q = omega arith
        go (Some l) q = leb-true l.delay 10000 (and_true (from_below plan.processes l.from && ltb l.to plan.processes) _ (link_joins k l q)).1
