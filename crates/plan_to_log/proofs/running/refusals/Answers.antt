use Rattle.std.proofs.Common.{vec_items, ap, ◌∙◌}
use Rattle.simulation.specs.Programs.{program_of}
use Rattle.kernel.specs.OfRun.{view_of}
use Rattle.plan_to_log.proofs.Refused.{none_yet, passes_on, goes_on, stands_there}
use Rattle.plan_to_log.proofs.running.refusals.Goals as goal
use Rattle.plan_to_log.proofs.running.refusals.Goals.{in-Err+in_ok-push, in_default-step}

pub loop-process-init : goal.loop-process-init
loop-process-init g c =
    none_yet (program_of g.C.Cargo g.P.Process) (view_of c.args.run.now) c.new-standing.ensures.items

pub loop-process-preserved-in_default : goal.loop-process-preserved-in_default
loop-process-preserved-in_default g c =
    passes_on (program_of g.C.Cargo g.P.Process) (view_of c.args.run.now) c.loop-process.invariant c.in_default.ensures.outcome.0

pub loop-process-preserved : goal.loop-process-preserved
loop-process-preserved g c =
    let program = program_of g.C.Cargo g.P.Process in
    let first = view_of c.args.run.now in
    elim c.match-step.branch [
      | in-Err+in_ok-push w ↦
          stands_there program first (ap vec_items w.standing-is ∙ w.in_ok-push.ensures.items)
          c.loop-process.invariant c.in-Ok.ensures.outcome.0 w.in-Err.ensures.called.outcome
      | in_default-step w ↦
          goes_on program first (ap vec_items w.standing-is) c.loop-process.invariant w.in_default-step.ensures.called.outcome
    ]
