-- A test of two limits, where another number keeps them too.
use Rattle.std.proofs.Common.{◌≡◌, ℕ, ◌≤◌, Bool, true, ◌&&◌, arith}
use Rattle.std.proofs.lemmas.Bool.Decides.{nat_tests}
use Rattle.exit.specs.Limits.{between}

pub still_between : (beside : Bool) (low high m n : ℕ) → (beside && between low high m) ≡ true → low ≤ n → (m ≤ high → n ≤ high)
    → (beside && between low high n) ≡ true
still_between beside low high m n h above below = grind (arith, nat_tests)
