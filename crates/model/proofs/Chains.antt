-- What chains of iterators give, told by the numbers below a bound.
use Rattle.std.proofs.Common.{◌≡◌, ℕ, zero, suc, ◌+◌, Bool, true, false, cond, ◌&&◌, List, [], ◌∷◌, ◌++◌, length, map, Some, Option, sym, refl, ap, ◌∙◌, add-one, arith}
use Rattle.std.specs.List.{list_all, range_with_len, filter, enumerate_from}
use Rattle.std.proofs.Math.Bool.{and_assoc, and-true}
use Rattle.std.proofs.lemmas.List.{append_assoc, append-nil}
use Rattle.model.specs.Lists.{at, each, numbers_below}
use Rattle.model.proofs.Places.{each_more}

-- The test holds of each number below n, and of the m numbers from n on.
each_on : (n m end : ℕ) (test : ℕ → Bool) → end ≡ n + m → each end test ≡ (each n test && list_all test (range_with_len n m))
each_on n zero end test e =
    let same : end ≡ n = omega arith in
    ap (λ i. each i test) same ∙ sym (and-true (each n test))
each_on n (suc m) end test e =
    each_on (n + 1) m end test (omega arith)
    ∙ ap (λ b. b && list_all test (range_with_len (n + 1) m)) (each_more n test)
    ∙ and_assoc (each n test) (test n) (list_all test (range_with_len (n + 1) m))

-- Whether a test holds of each number below n.
pub each_of_range : (n : ℕ) (test : ℕ → Bool) → each n test ≡ list_all test (range_with_len 0 n)
each_of_range n test = each_on 0 n n test (omega arith)

-- A number or a pair stands before the others, or is left out.
placed : (b : Bool) (n : ℕ) (before after : List ℕ) → (before ++ cond b (n ∷ []) []) ++ after ≡ before ++ cond b (n ∷ after) after
placed true n before after = append_assoc before (n ∷ []) after
placed false n before after = ap (λ l. l ++ after) (append-nil before)

kept : {A : Type 0} (b : Bool) (p : ℕ × A) (ps : List (ℕ × A)) → cond b (p.0 ∷ map (λ q. q.0) ps) (map (λ q. q.0) ps) ≡ map (λ q. q.0) (cond b (p ∷ ps) ps)
kept true p ps = refl
kept false p ps = refl

module _ {A : Type 0} (f : ℕ → Bool) (test : A → Bool) where
  -- From the place n on, f says of each place what the test says of the element of xs that stands there.
  abbrev Tells : ℕ → List A → Type 0
  Tells n xs = (k i : ℕ) (x : A) → i ≡ n + k → at xs k ≡ Some x → f i ≡ test x

  -- f holds of each place below n, and the test of each element from there on.
  each_along : (n end : ℕ) (xs : List A) → Tells n xs → end ≡ n + length xs → each end f ≡ (each n f && list_all test xs)
  each_along n end [] tells e =
      let same : end ≡ n = omega arith in
      ap (λ i. each i f) same ∙ sym (and-true (each n f))
  each_along n end (x ∷ xs) tells e =
      let here : f n ≡ test x = tells 0 n x (omega arith) refl in
      each_along (n + 1) end xs (λ k i y e s. tells (suc k) i y (omega arith) s) (omega arith)
      ∙ ap (λ b. b && list_all test xs) (each_more n f ∙ ap (λ b. each n f && b) here)
      ∙ and_assoc (each n f) (test x) (list_all test xs)

  -- First the places below n of which f holds, then those of the elements from there on that pass the test.
  below_along : (n end : ℕ) (xs : List A) → Tells n xs → end ≡ n + length xs → numbers_below end f ≡ numbers_below n f ++ map (λ p. p.0) (filter (λ p. test p.1) (enumerate_from n xs))
  below_along n end [] tells e =
      let same : end ≡ n = omega arith in
      ap (λ i. numbers_below i f) same ∙ sym (append-nil (numbers_below n f))
  below_along n end (x ∷ xs) tells e =
      let here : f n ≡ test x = tells 0 n x (omega arith) refl in
      let before = numbers_below n f in
      let after = filter (λ p. test p.1) (enumerate_from (n + 1) xs) in
      below_along (n + 1) end xs (λ k i y e s. tells (suc k) i y (omega arith) s) (omega arith)
      ∙ ap (λ l. l ++ map (λ p. p.0) after) (ap (λ i. numbers_below i f) (add-one n) ∙ ap (λ b. before ++ cond b (n ∷ []) []) here)
      ∙ placed (test x) n before (map (λ p. p.0) after)
      ∙ ap (λ l. before ++ l) (kept (test x) (n, x) after)

-- As many elements pass with their places as without.
counted : {A : Type 0} (b : Bool) (p : ℕ × A) (ps : List (ℕ × A)) (x : A) (xs : List A) → length (map (λ q. q.0) ps) ≡ length xs → length (map (λ q. q.0) (cond b (p ∷ ps) ps)) ≡ length (cond b (x ∷ xs) xs)
counted true p ps x xs e = ap suc e
counted false p ps x xs e = e

count_along : {A : Type 0} (test : A → Bool) (n : ℕ) (xs : List A) → length (map (λ p. p.0) (filter (λ p. test p.1) (enumerate_from n xs))) ≡ length (filter test xs)
count_along test n [] = refl
count_along test n (x ∷ xs) = counted (test x) (n, x) _ x _ (count_along test (n + 1) xs)

module _ {A : Type 0} (test : Option A → Bool) (xs : List A) where
  tells : (k i : ℕ) (x : A) → i ≡ 0 + k → at xs k ≡ Some x → test (at xs i) ≡ test (Some x)
  tells k i x e s =
      let same : i ≡ k = omega arith in
      ap (λ j. test (at xs j)) same ∙ ap test s

  -- Whether a test holds of each place of a list.
  pub each_of_list : each (length xs) (λ k. test (at xs k)) ≡ list_all (λ x. test (Some x)) xs
  each_of_list = each_along (λ k. test (at xs k)) (λ x. test (Some x)) 0 (length xs) xs tells (omega arith)

  -- The places of a list that pass a test.
  pub below_of_list : numbers_below (length xs) (λ k. test (at xs k)) ≡ map (λ p. p.0) (filter (λ p. test (Some p.1)) (enumerate_from 0 xs))
  below_of_list = below_along (λ k. test (at xs k)) (λ x. test (Some x)) 0 (length xs) xs tells (omega arith)

  -- How many they are.
  pub count_of_list : length (numbers_below (length xs) (λ k. test (at xs k))) ≡ length (filter (λ x. test (Some x)) xs)
  count_of_list = ap length below_of_list ∙ count_along (λ x. test (Some x)) 0 xs
