use Rattle.std.proofs.Common.{◌≡◌, drop}
use Rattle.simulation.specs.Step.{first_full}
use Rattle.kernel.proofs.ports.Ports.lowest_full.Given as goal

-- No link so far is full.
abbrev pub invariant-loop-link : goal.invariant-loop-link
invariant-loop-link g l =
    first_full (g.L.Links.meaning l.self.links.now) (drop l.link-index l.self.list.now) ≡ first_full (g.L.Links.meaning l.self.links.now) l.self.list.now
