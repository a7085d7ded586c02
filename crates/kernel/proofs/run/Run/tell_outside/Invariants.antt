use Rattle.std.proofs.Common.{◌≡◌}
use Rattle.model.specs.Lists.{is_none}
use Rattle.model.specs.Made.{shape_of}
use Rattle.model.specs.Shape.{source}
use Rattle.kernel.specs.OfRun.{view_of}
use Rattle.kernel.proofs.Telling.{Told}
use Rattle.kernel.proofs.run.Run.tell_outside.Given as goal

-- Those links from outside that are done are told, and nothing but the links has changed.
abbrev pub invariant-loop-link : goal.invariant-loop-link
invariant-loop-link g l =
    let m = g.L.Links.meaning in
    let plan = shape_of l.initial.self.routes.plan in
    Told plan.horizon (λ k. is_none (source plan k)) l.link (m l.initial.self.links) (m l.self.links)
    × (view_of l.self ≡ record (view_of l.initial.self) { links = m l.self.links })
