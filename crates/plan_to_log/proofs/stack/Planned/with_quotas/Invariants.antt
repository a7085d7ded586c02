use Rattle.std.proofs.Common.{◌≡◌, drop}
use Rattle.plan_to_log.specs.Stack.{quotas_from, quota_table}
use Rattle.plan_to_log.proofs.stack.Planned.with_quotas.Given as goal

-- The links below stay, and what is set and what is to come make the table.
abbrev pub invariant-loop-link : goal.invariant-loop-link
invariant-loop-link g l =
    (l.quotas.below ≡ l.initial.quotas.below)
    × (quotas_from l.link (drop l.link l.settings) l.quotas.left ≡ quota_table l.settings)
