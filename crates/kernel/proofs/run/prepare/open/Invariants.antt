use Rattle.std.proofs.Common.{take}
use Rattle.model.specs.Made.{shape_of}
use Rattle.simulation.specs.Prepare.{Opens}
use Rattle.kernel.proofs.run.prepare.open.Given as goal

abbrev pub invariant-loop-event : goal.invariant-loop-event
invariant-loop-event g l =
    Opens (shape_of l.plan) (take l.event-index l.opening) (g.L.Links.meaning l.initial.links) (g.L.Links.meaning l.links)
