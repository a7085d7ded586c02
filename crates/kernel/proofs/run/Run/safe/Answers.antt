use Rattle.std.proofs.Common.{subst}
use Rattle.model.specs.Made.{shape_of}
use Rattle.model.specs.Shape.{in_links}
use Rattle.kernel.specs.Searching.{SafeOr}
use Rattle.kernel.proofs.ByLink.{found}
use Rattle.kernel.proofs.run.Run.safe.Goals as goal

pub returns : goal.returns
returns g c =
    let s = c.args.self.now in
    let m = g.L.Links.meaning in
    let o = c.safe_event.result in
    found (shape_of s.routes.plan) (m s.links) c.args.process o
    (subst (λ l. SafeOr (m l) s.routes.plan.horizon (in_links (shape_of s.routes.plan) c.args.process) o) c.ins.ensures.links
    (subst (λ ks. SafeOr (m c.ins.result.links.now) s.routes.plan.horizon ks o) c.ins.ensures.list
    (subst (λ h. SafeOr (m c.ins.result.links.now) h c.ins.result.list.now o) c.horizon.ensures.is c.safe_event.ensures)))
