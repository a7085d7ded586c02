use Rattle.std.proofs.Common.{◌≡◌, ℕ, ◌+◌, ◌<◌, Bool, [], ◌∷◌, length, sym, refl, ap, ◌∙◌, if◌then◌else◌, subst, arith}
use Rattle.model.specs.Lists.{is_none}
use Rattle.model.specs.Made.{shape_of}
use Rattle.model.specs.Shape.{source}
use Rattle.simulation.specs.Step.{Nulls}
use Rattle.simulation.specs.View.{View}
use Rattle.kernel.specs.OfRun.{view_of}
use Rattle.kernel.specs.Preparing.{outside}
use Rattle.kernel.proofs.FromOutside.{outside_test}
use Rattle.kernel.proofs.Telling.{Told, told_without, told_with}
use Rattle.kernel.proofs.run.Run.tell_outside.Goals as goal
use Rattle.kernel.proofs.run.Run.tell_outside.Goals.{then-from_outside, else-from_outside}

pub loop-link-init : goal.loop-link-init
loop-link-init g c = ((0, Nulls.no_more), refl)

pub loop-link-preserved : goal.loop-link-preserved
loop-link-preserved g c =
    let m = g.L.Links.meaning in
    let first = c.args.self.now in
    let plan = shape_of first.routes.plan in
    let i = c.loop-link.link in
    let test : ℕ → Bool = λ k. is_none (source plan k) in
    let inv = c.loop-link.invariant in
    let many = c.link_count-link-end.ensures ∙ ap (λ p. length (shape_of p).links) c.plan.ensures in
    let short : i < length plan.links = omega (arith, c.loop-link-test.true, many) in
    let same = ap shape_of c.plan-in-loop-link.ensures ∙ ap (λ v. v.plan) inv.1 in
    let is_test = sym (outside_test plan i short) ∙ sym (ap (λ s. outside s i) same) ∙ sym c.from_outside.ensures in
    elim c.if-from_outside.branch [
      | then-from_outside w ↦
          let n = m w.tell.new.links in
          let told = subst (λ t. Nulls t (i ∷ []) (m c.loop-link.self.links) (if w.tell.result then 1 else 0) n) c.horizon-horizon.ensures.is w.tell.ensures.nulls in
          subst (λ s. Told plan.horizon test (i + 1) (m first.links) (m s.links) × (view_of s ≡ record (view_of first) { links = m s.links }))
          (sym w.self-is)
          (told_with plan.horizon test i _ _ inv.0 n _ (is_test ∙ w.if-from_outside.true) told, ap (λ (v : View g.row.C.Denot g.row.P.Denot). record v { links = n }) inv.1)
      | else-from_outside w ↦
          subst (λ s. Told plan.horizon test (i + 1) (m first.links) (m s.links) × (view_of s ≡ record (view_of first) { links = m s.links }))
          (sym w.self-is)
          (told_without plan.horizon test i _ _ inv.0 (is_test ∙ w.if-from_outside.false), inv.1)
    ]

pub returns : goal.returns
returns g c =
    let m = g.L.Links.meaning in
    let plan = shape_of c.args.self.now.routes.plan in
    let many = c.link_count-link-end.ensures ∙ ap (λ p. length (shape_of p).links) c.plan.ensures in
    let ended : c.loop-link.link ≡ length plan.links = omega (arith, c.loop-link-test.false, c.loop-link.auto.link-end, many) in
    record {
      told = subst (λ n. Told plan.horizon (λ k. is_none (source plan k)) n (m c.args.self.now.links) (m c.loop-link.self.links)) ended
          c.loop-link.invariant.0;
      else_same = c.loop-link.invariant.1;
    }
