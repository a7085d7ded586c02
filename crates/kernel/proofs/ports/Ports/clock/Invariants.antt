use Rattle.std.proofs.Common.{◌≡◌, ◌≤◌, min, drop}
use Rattle.simulation.specs.View.{least_clock}
use Rattle.kernel.proofs.ports.Ports.clock.Given as goal

-- The clock so far, lowered by the in-links to come, is the clock of the process.
abbrev pub invariant-loop-link : goal.invariant-loop-link
invariant-loop-link g l =
    (l.clock ≤ l.horizon)
    × (min l.clock (least_clock (g.L.Links.meaning l.self.links.now) l.horizon (drop l.link-index l.self.list.now))
    ≡ least_clock (g.L.Links.meaning l.self.links.now) l.horizon l.self.list.now)
