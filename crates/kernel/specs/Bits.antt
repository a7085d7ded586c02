-- A word as marks.
use Rattle.std.specs.Prelude.{ℕ, zero, suc, ◌/◌, ◌%◌, Bool, ◌==◌}

-- Whether the binary digit at a place, counted from the lowest, is 1.
abbrev pub bit : ℕ → ℕ → Bool
bit word zero = word % 2 == 1
bit word (suc n) = bit (word / 2) n
