use Rattle.simulation.specs.Programs.{program_of}
use Rattle.simulation.proofs.SimulationEnds.{simulation_over}
use Rattle.simulation.proofs.Lookaheads.{reaching}
use Rattle.simulation.proofs.simulation_ends.Goals as goal

pub returns : goal.returns
returns g c net limits =
    let program = program_of g.C.Cargo g.P.Process in
    simulation_over program net g.met.P.Process.constant (reaching program net (λ s. (g.met.P.Process.within s).0) limits) limits
