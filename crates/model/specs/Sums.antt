-- Sums that stop at the largest number of 32 bits.
use Rattle.std.specs.Prelude.{ℕ, ◌+◌, min}

abbrev pub largest : ℕ
largest = 4294967295

-- The sum, or the largest number where it would pass that.
abbrev pub plus : ℕ → ℕ → ℕ
plus a b = min (a + b) largest
