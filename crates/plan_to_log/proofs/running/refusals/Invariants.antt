use Rattle.std.proofs.Common.{vec_items}
use Rattle.simulation.specs.Programs.{program_of}
use Rattle.kernel.specs.OfRun.{view_of}
use Rattle.plan_to_log.specs.Running.{Refusals}
use Rattle.plan_to_log.proofs.running.refusals.Given as goal

abbrev pub invariant-loop-process : goal.invariant-loop-process
invariant-loop-process g l =
    Refusals (program_of g.C.Cargo g.P.Process) (view_of l.initial.run) l.process (vec_items l.standing)
    (view_of l.run)
