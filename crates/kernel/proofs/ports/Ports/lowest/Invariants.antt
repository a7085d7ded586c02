use Rattle.kernel.specs.Searching.{Lowest}
use Rattle.kernel.proofs.Scan.{Least}
use Rattle.kernel.proofs.ports.Ports.lowest.Given as goal

abbrev pub invariant-loop-port : goal.invariant-loop-port
invariant-loop-port g l =
    Least (g.L.Links.meaning l.self.links.now) l.horizon l.self.list.now l.at l.least
    × Lowest (g.L.Links.meaning l.self.links.now) l.horizon l.self.list.now l.port l.at
