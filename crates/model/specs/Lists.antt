-- Lists by place, and tests over the numbers below a bound.
use Rattle.std.specs.Prelude.{ℕ, zero, suc, ◌+◌, Bool, true, false, cond, ◌&&◌, List, [], ◌∷◌, ◌++◌, Some, None, Option, ◌==◌}

module _ {A : Type 0} where
  -- The element at a place, counted from 0, if there is one.
  abbrev pub at : List A → ℕ → Option A
  at [] n = None
  at (x ∷ xs) zero = Some x
  at (x ∷ xs) (suc n) = at xs n

  -- The oldest of a list, if it has one.
  abbrev pub oldest : List A → Option A
  oldest [] = None
  oldest (x ∷ xs) = Some x

  -- The function f, but a at k.
  abbrev pub update : (ℕ → A) → ℕ → A → ℕ → A
  update f k a j = cond (j == k) a (f j)

  -- The value if the test holds.
  abbrev pub only_if : Bool → A → Option A
  only_if true a = Some a
  only_if false a = None

  -- Whether there is no value.
  abbrev pub is_none : Option A → Bool
  is_none None = true
  is_none (Some a) = false

-- What f makes of the value, if there is one.
abbrev pub then : {A B : Type 0} → Option A → (A → Option B) → Option B
then None f = None
then (Some a) f = f a

-- Whether the value is there, and is k.
abbrev pub is : ℕ → Option ℕ → Bool
is k None = false
is k (Some j) = j == k

-- The place of the number k in a list that has it.
abbrev pub place_of : ℕ → List ℕ → ℕ
place_of k [] = 0
place_of k (j ∷ js) = cond (j == k) 0 (suc (place_of k js))

-- The numbers below n that pass the test, rising.
abbrev pub numbers_below : ℕ → (ℕ → Bool) → List ℕ
numbers_below zero test = []
numbers_below (suc n) test = numbers_below n test ++ cond (test n) (n ∷ []) []

-- The sum of f over the numbers below n.
abbrev pub total : ℕ → (ℕ → ℕ) → ℕ
total zero f = 0
total (suc n) f = total n f + f n

-- Whether the test holds of each number below n.
abbrev pub each : ℕ → (ℕ → Bool) → Bool
each zero test = true
each (suc n) test = each n test && test n
