use Rattle.std.proofs.Common.{◌≡◌, vec_items}
use Rattle.plan_to_log.specs.Histories.{log_text}
use Rattle.plan_to_log.proofs.histories.write_log.Given as goal

abbrev pub invariant-loop-process : goal.invariant-loop-process
invariant-loop-process l = vec_items l.out ≡ log_text l.process l.log
