-- The element at a place, and a test or a selection over one number more.
use Rattle.std.proofs.Common.{◌≡◌, ℕ, zero, suc, ◌+◌, ◌<◌, ◌≤◌, Bool, true, false, cond, ◌&&◌, List, [], ◌∷◌, ◌++◌, length, get_or, Some, None, refl, ap, ◌∙◌, add-one, arith}
use Rattle.std.proofs.lemmas.List.{append-nil}
use Rattle.model.specs.Lists.{at, each, numbers_below}

-- Below the length, the element at a place is there.
pub at_read : {A : Type 0} (xs : List A) (i : ℕ) (d : A) → i < length xs → at xs i ≡ Some (get_or xs i d)
at_read [] i d l = absurd (omega arith)
at_read (x ∷ xs) zero d l = refl
at_read (x ∷ xs) (suc i) d l = at_read xs i d (omega arith)

-- From the length on, there is none.
pub at_past : {A : Type 0} (xs : List A) (i : ℕ) → length xs ≤ i → at xs i ≡ None
at_past [] i l = refl
at_past (x ∷ xs) zero l = absurd (omega arith)
at_past (x ∷ xs) (suc i) l = at_past xs i (omega arith)

-- A test of each number below the next is one of those below it and of itself.
pub each_more : (n : ℕ) (test : ℕ → Bool) → each (n + 1) test ≡ (each n test && test n)
each_more n test = ap (λ m. each m test) (add-one n)

-- A number that passes the test comes last among those below the next.
pub below_with : (n : ℕ) (test : ℕ → Bool) → test n ≡ true → numbers_below (n + 1) test ≡ numbers_below n test ++ (n ∷ [])
below_with n test passes = ap (λ m. numbers_below m test) (add-one n) ∙ ap (λ b. numbers_below n test ++ cond b (n ∷ []) []) passes

-- One that fails it adds nothing.
pub below_without : (n : ℕ) (test : ℕ → Bool) → test n ≡ false → numbers_below (n + 1) test ≡ numbers_below n test
below_without n test fails =
    ap (λ m. numbers_below m test) (add-one n) ∙ ap (λ b. numbers_below n test ++ cond b (n ∷ []) []) fails
    ∙ append-nil (numbers_below n test)
