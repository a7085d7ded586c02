-- Decimal numbers, written and read: 48 is the digit 0.
use Rattle.std.specs.Prelude.{◌≡◌, ℕ, zero, suc, ◌+◌, ◌-◌, ◌*◌, ◌/◌, ◌%◌, ◌^◌, ◌<◌, Bool, true, false, cond, not, ◌&&◌, List, [], ◌∷◌, ◌++◌, Some, None, Option, ◌==◌, nat_lt}
use Rattle.std.specs.Str.{all_ascii_digits}

-- the digits of n, at most k: those of its tenth part, unless that is 0, then its remainder by 10
abbrev pub digits_by : ℕ → ℕ → List ℕ
digits_by zero n = []
digits_by (suc k) n = cond (n / 10 == 0) [] (digits_by k (n / 10)) ++ (48 + n % 10) ∷ []

-- the digits of a number, which are never more than n + 1
unfoldable pub digits : ℕ → List ℕ
digits n = digits_by (suc n) n

-- one byte or more, and of several the first is no 0
abbrev pub unpadded : List ℕ → Bool
unpadded [] = false
unpadded (b ∷ []) = true
unpadded (b ∷ c ∷ bs) = not (b == 48)

-- the number that digits make behind the number v
abbrev pub value_from : ℕ → List ℕ → ℕ
value_from v [] = v
value_from v (b ∷ bs) = value_from (v * 10 + (b - 48)) bs

-- the number below 2^32 that bytes write: digits only, and without leading zeros
unfoldable pub number_of : List ℕ → Option ℕ
number_of bs =
    cond (unpadded bs && (all_ascii_digits bs && nat_lt (value_from 0 bs) 4294967296)) (Some (value_from 0 bs)) None

-- what digits are for: they follow the rule of the tenth part, and a number is read from its digits and from nothing else
pub record ReadsBack : Type 0 where
  pub rule : (n : ℕ) → digits n ≡ cond (n / 10 == 0) [] (digits (n / 10)) ++ (48 + n % 10) ∷ []
  pub back : (n : ℕ) → n < 2 ^ 32 → number_of (digits n) ≡ Some n
  pub only : (bs : List ℕ) (n : ℕ) → number_of bs ≡ Some n → bs ≡ digits n
