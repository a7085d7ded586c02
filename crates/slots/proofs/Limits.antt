-- What the test of the limits says.
use Rattle.std.proofs.Common.{◌≡◌, ℕ, ◌*◌, ◌≤◌, true, arith}
use Rattle.std.proofs.lemmas.Bool.Decides.{nat_tests}
use Rattle.slots.specs.Empty.{suitable}

pub record Limited (links n : ℕ) : Type 0 where
  pub some : 1 ≤ links
  pub few : links ≤ 128
  pub enough : 4 * links ≤ n
  pub small : n ≤ 65535

pub limited : (links n : ℕ) → suitable links n ≡ true → Limited links n
limited links n e = record {
  some = grind (arith, nat_tests);
  few = grind (arith, nat_tests);
  enough = grind (arith, nat_tests);
  small = grind (arith, nat_tests);
}
