use Rattle.std.proofs.Common.{false}
use Rattle.simulation.specs.Calls.{Passes}
use Rattle.simulation.specs.Programs.{program_of}
use Rattle.kernel.specs.OfRun.{view_of}
use Rattle.kernel.proofs.run.Run.run.Given as goal

abbrev pub invariant-loop-made : goal.invariant-loop-made
invariant-loop-made g l =
    Passes (program_of g.C.Cargo g.P.Process) (view_of l.initial.self) l.made false
    (view_of l.self)
