use Rattle.std.proofs.Common.{rules, ◌≡◌, length, sym, subst}
use Rattle.model.specs.Lists.{is}
use Rattle.model.specs.Shape.{in_links, target}
use Rattle.model.specs.Made.{shape_of}
use Rattle.kernel.specs.Places.{Below, Rising}
use Rattle.kernel.proofs.Selected.{selects}
use Rattle.kernel.proofs.routes.Routes.ins.Goals as goal

pub returns-clause-below : goal.returns-clause-below
returns-clause-below c =
    let plan = shape_of c.args.self.now.plan in
    let value : c.as_slice.result.now ≡ in_links plan c.args.process = search rules in
    subst (Below (length plan.links)) (sym value) (selects (length plan.links) (λ k. is c.args.process (target plan k))).below

pub returns-clause-rising : goal.returns-clause-rising
returns-clause-rising c =
    let plan = shape_of c.args.self.now.plan in
    let value : c.as_slice.result.now ≡ in_links plan c.args.process = search rules in
    subst Rising (sym value) (selects (length plan.links) (λ k. is c.args.process (target plan k))).rising
