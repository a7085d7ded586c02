use Rattle.std.proofs.Common.{◌≡◌, drop}
use Rattle.plan_to_log.specs.Stack.{delays_from, delay_table}
use Rattle.plan_to_log.proofs.stack.Planned.with_delays.Given as goal

-- The links below stay, and what is set and what is to come make the table.
abbrev pub invariant-loop-link : goal.invariant-loop-link
invariant-loop-link g l =
    (l.delays.below ≡ l.initial.delays.below)
    × (delays_from l.link (drop l.link l.settings) l.delays.extra ≡ delay_table l.settings)
