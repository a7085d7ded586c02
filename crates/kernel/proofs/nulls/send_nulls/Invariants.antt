use Rattle.std.proofs.Common.{◌≡◌, ◌≤◌, take}
use Rattle.simulation.specs.Step.{Nulls}
use Rattle.kernel.proofs.nulls.send_nulls.Given as goal

abbrev pub invariant-loop-port : goal.invariant-loop-port
invariant-loop-port g l =
    Nulls l.time (take l.port l.outs) (g.L.Links.meaning l.initial.links) l.sent (g.L.Links.meaning l.links)
    × ((g.L.Links.meaning l.links).count ≡ (g.L.Links.meaning l.initial.links).count)
    × (l.sent ≤ l.port)
