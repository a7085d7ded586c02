use Rattle.std.proofs.Common.{◌≡◌, ◌++◌, flat_map, vec_items}
use Rattle.plan_to_log.proofs.Lines.{numbered}
use Rattle.plan_to_log.proofs.histories.append_history.Given as goal

-- The lines of the records so far are written.
abbrev pub invariant-loop-n : goal.invariant-loop-n
invariant-loop-n l = vec_items l.out ≡ vec_items l.initial.out ++ flat_map (λ e. numbered (e.0, e.1.now)) l.yielded
