use Rattle.simulation.specs.Calls.{Pass}
use Rattle.simulation.specs.Programs.{program_of}
use Rattle.kernel.specs.OfRun.{view_of}
use Rattle.kernel.proofs.run.Run.pass.Given as goal

abbrev pub invariant-loop-process : goal.invariant-loop-process
invariant-loop-process g l =
    Pass (program_of g.C.Cargo g.P.Process) (view_of l.initial.self) l.process l.all
    (view_of l.self)
