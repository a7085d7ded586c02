use Rattle.std.proofs.Common.{rules, ◌≡◌, length, sym, subst, ap, arith}
use Rattle.model.specs.Lists.{is}
use Rattle.model.specs.Shape.{out_links, source}
use Rattle.model.specs.Made.{shape_of}
use Rattle.model.proofs.Limits.{limits}
use Rattle.kernel.specs.Places.{Below}
use Rattle.kernel.proofs.Selected.{selects}
use Rattle.kernel.proofs.routes.Routes.outs.Goals as goal

pub returns-clause-below : goal.returns-clause-below
returns-clause-below c =
    let plan = shape_of c.args.self.now.plan in
    let value : c.as_slice.result.now ≡ out_links plan c.args.process = search rules in
    subst (Below (length plan.links)) (sym value) (selects (length plan.links) (λ k. is c.args.process (source plan k))).below

pub returns-clause-few : goal.returns-clause-few
returns-clause-few c =
    let plan = shape_of c.args.self.now.plan in
    let value : c.as_slice.result.now ≡ out_links plan c.args.process = search rules in
    let few = (selects (length plan.links) (λ k. is c.args.process (source plan k))).few in
    omega (arith, ap length value, few, (limits plan c.args.self.now.plan.limits).few_links)
