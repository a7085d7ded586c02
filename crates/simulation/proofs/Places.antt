-- Lists by place, and the numbers below a bound that pass a test.
use Rattle.std.proofs.Common.{◌≡◌, ℕ, zero, suc, ◌<◌, ◌≤◌, Bool, true, false, cond, ◌||◌, eqb, ◌≢◌, ◌⊎◌, List, [], ◌∷◌, ◌++◌, length, set, Some, sym, refl, ap, ◌∙◌, inl, inr, ⊎_elim, arith, eq-eqb, ne_eqb}
use mathlib.Core.Logic.{by_cases}
use native.Mathlib.Decide.{ℕ_discrete}
use Rattle.model.specs.Lists.{at, numbers_below}
use Rattle.simulation.proofs.Tests.{none_is_some}

module _ {A : Type 0} where
  -- Something stands only at a place below the length.
  pub at_lt : (xs : List A) (n : ℕ) (a : A) → at xs n ≡ Some a → n < length xs
  at_lt [] n a e = none_is_some e
  at_lt (x ∷ xs) zero a e = omega arith
  at_lt (x ∷ xs) (suc n) a e = let l = at_lt xs n a e in omega arith

  -- And at each of them something stands.
  pub at_there : (xs : List A) (n : ℕ) → n < length xs → (a : A) × (at xs n ≡ Some a)
  at_there [] n l = absurd (omega arith)
  at_there (x ∷ xs) zero l = (x, refl)
  at_there (x ∷ xs) (suc n) l = at_there xs n (omega arith)

  -- What stands in two lists joined stands in one of them.
  at_append : (xs ys : List A) (n : ℕ) (a : A) → at (xs ++ ys) n ≡ Some a → (at xs n ≡ Some a) ⊎ ((m : ℕ) × (at ys m ≡ Some a))
  at_append [] ys n a e = inr (n, e)
  at_append (x ∷ xs) ys zero a e = inl e
  at_append (x ∷ xs) ys (suc n) a e = at_append xs ys n a e

  -- A list changed at one place, there.
  pub set_at : (xs : List A) (p : ℕ) (a : A) → p < length xs → at (set xs p a) p ≡ Some a
  set_at [] p a l = absurd (omega arith)
  set_at (x ∷ xs) zero a l = refl
  set_at (x ∷ xs) (suc p) a l = set_at xs p a (omega arith)

  -- And elsewhere.
  pub set_other : (xs : List A) (p q : ℕ) (a : A) → q ≢ p → at (set xs p a) q ≡ at xs q
  set_other [] p q a n = refl
  set_other (x ∷ xs) zero zero a n = absurd (n refl)
  set_other (x ∷ xs) zero (suc q) a n = refl
  set_other (x ∷ xs) (suc p) zero a n = refl
  set_other (x ∷ xs) (suc p) (suc q) a n = set_other xs p q a (λ e. n (ap suc e))

-- What stands in a list of one number, or of none.
at_one : (b : Bool) (n i k : ℕ) → at (cond b (n ∷ []) []) i ≡ Some k → (b ≡ true) × (n ≡ k)
at_one true n zero k e = (refl, cc)
at_one true n (suc i) k e = none_is_some e
at_one false n i k e = none_is_some e

-- A number of the list is below the bound and passes the test.
pub numbers_at : (n : ℕ) (test : ℕ → Bool) (i k : ℕ) → at (numbers_below n test) i ≡ Some k → (k < n) × (test k ≡ true)
numbers_at zero test i k e = none_is_some e
numbers_at (suc n) test i k e = ⊎_elim
    (λ d. let r = numbers_at n test i k d in let l = r.0 in (omega arith, r.1))
    (λ d. let r = at_one (test n) n d.0 k d.1 in (let q = r.1 in omega arith, ap test (sym r.1) ∙ r.0))
    (at_append (numbers_below n test) (cond (test n) (n ∷ []) []) i k e)

-- Whether a number is in the list.
abbrev pub elem : ℕ → List ℕ → Bool
elem j [] = false
elem j (k ∷ ks) = eqb j k || elem j ks

-- Either of three.
or_assoc : (a b c : Bool) → (a || (b || c)) ≡ ((a || b) || c)
or_assoc true b c = refl
or_assoc false b c = refl

-- Either of a test and false.
or_no : (b : Bool) → (b || false) ≡ b
or_no true = refl
or_no false = refl

-- A number is in two lists joined if it is in one of them.
elem_append : (j : ℕ) (xs ys : List ℕ) → elem j (xs ++ ys) ≡ (elem j xs || elem j ys)
elem_append j [] ys = refl
elem_append j (x ∷ xs) ys = ap (λ b. eqb j x || b) (elem_append j xs ys) ∙ or_assoc (eqb j x) (elem j xs) (elem j ys)

-- Another number is not in a list of one.
elem_one : (b : Bool) (j n : ℕ) → j ≢ n → elem j (cond b (n ∷ []) []) ≡ false
elem_one true j n d = ap (λ t. t || false) (ne_eqb j n d)
elem_one false j n d = refl

-- The number itself is, if it is there.
elem_here : (b : Bool) (n : ℕ) → elem n (cond b (n ∷ []) []) ≡ b
elem_here true n = ap (λ t. t || false) (eq-eqb n n refl)
elem_here false n = refl

-- A number past the bound is not in the list.
elem_past : (n : ℕ) (test : ℕ → Bool) (j : ℕ) → n ≤ j → elem j (numbers_below n test) ≡ false
elem_past zero test j l = refl
elem_past (suc n) test j l =
    elem_append j (numbers_below n test) _
    ∙ ap (λ b. b || elem j (cond (test n) (n ∷ []) [])) (elem_past n test j (omega arith))
    ∙ elem_one (test n) j n (λ e. let z : ⊥ = omega arith in z)

-- A number below the bound is in the list exactly if it passes the test.
pub elem_numbers : (n : ℕ) (test : ℕ → Bool) (j : ℕ) → j < n → elem j (numbers_below n test) ≡ test j
elem_numbers zero test j l = absurd (omega arith)
elem_numbers (suc n) test j l = elem_append j (numbers_below n test) _ ∙ by_cases (ℕ_discrete j n)
    (λ e. rw e (ap (λ b. b || elem n (cond (test n) (n ∷ []) [])) (elem_past n test n (omega arith)) ∙ elem_here (test n) n))
    (λ d. ap (λ b. elem j (numbers_below n test) || b) (elem_one (test n) j n d) ∙ or_no _ ∙ elem_numbers n test j (omega arith))
