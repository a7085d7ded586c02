use Rattle.simulation.specs.Programs.{program_of}
use Rattle.simulation.proofs.ComesToRest.{rests}
use Rattle.simulation.proofs.runs_come_to_rest.Goals as goal

pub returns : goal.returns
returns g c = rests (program_of g.C.Cargo g.P.Process) (λ s. (g.met.P.Process.within s).1)
