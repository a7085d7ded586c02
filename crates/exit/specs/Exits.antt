-- Exits: what they are made of, and their rule.
use Rattle.std.specs.Prelude.{ℕ, None, Option}
use Rattle.model.specs.declared.sending.Sending.{Sending}
use Rattle.exit.specs.declared.Exit.{Exit}
use Rattle.exit.specs.Limits.{between, made_if}

-- The exit of a lookahead from 1 to 10,000. There is no other.
abbrev pub exit_of : ℕ → Option Exit
exit_of lookahead = made_if (between 1 10000 lookahead) (λ ok. record { lookahead = lookahead; limits = ok })

-- The lookahead of an exit.
abbrev pub exit_lookahead : Exit → ℕ
exit_lookahead e = e.lookahead

-- The rule: the exit stays as it is, and sends nothing.
abbrev pub exit_rule : {C : Type 0} → Exit → ℕ → ℕ → C → Exit × Option (Sending C)
exit_rule e port time cargo = (e, None)
