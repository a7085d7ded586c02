-- The kinds of process on a plan: each has its own rule, and stays what it is.
use Rattle.std.specs.Prelude.{ℕ, Option}
use Rattle.model.specs.declared.sending.Sending.{Sending}
use Rattle.exit.specs.declared.kind.Kind.{Kind}
use Rattle.exit.specs.declared.kind.Kind.TheVariants.{Node, Exit}
use Rattle.exit.specs.Exits.{exit_lookahead, exit_rule}

-- The lookahead of a process, over that of nodes.
abbrev pub kind_lookahead : {P : Type 0} → (P → ℕ) → Kind P → ℕ
kind_lookahead own (Node p) = own p
kind_lookahead own (Exit e) = exit_lookahead e

-- The rule of a process, over that of nodes.
abbrev pub kind_rule : {P C : Type 0} → (P → ℕ → ℕ → C → P × Option (Sending C)) → Kind P → ℕ → ℕ → C → Kind P × Option (Sending C)
kind_rule own (Node p) port time c = (Node (own p port time c).0, (own p port time c).1)
kind_rule own (Exit e) port time c = (Exit (exit_rule e port time c).0, (exit_rule e port time c).1)
