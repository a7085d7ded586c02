-- Booleans, options, and choices by equal numbers.
use Rattle.std.proofs.Common.{◌≡◌, ℕ, zero, suc, ◌<◌, Bool, true, false, cond, not, ◌&&◌, ◌||◌, eqb, ◌≢◌, ◌⊎◌, Some, None, Option, sym, refl, ap, ◌∙◌, inl, inr, arith, eq-eqb, ne_eqb, eqb-true}
use mathlib.Core.Logic.{by_cases}
use native.Mathlib.Decide.{ℕ_discrete}
use Rattle.model.specs.Lists.{update, is, only_if, each}

-- True is not false.
pub true_is_false : {B : Type 0} → true ≡ false → B
true_is_false e = let z : ◌≡◌ {A = ℕ} 0 1 = cc in absurd (omega arith)

-- Nothing is not something.
pub none_is_some : {A B : Type 0} {a : A} → ◌≡◌ {A = Option A} None (Some a) → B
none_is_some e = let z : ◌≡◌ {A = ℕ} 0 1 = cc in absurd (omega arith)

-- A test is not both true and false.
pub true_false : {b : Bool} → b ≡ true → b ≡ false → ⊥
true_false p q = true_is_false (sym p ∙ q)

-- An option is not both nothing and something.
pub none_some : {A : Type 0} {o : Option A} {a : A} → o ≡ None → o ≡ Some a → ⊥
none_some p q = none_is_some (sym p ∙ q)

-- An option is one thing at most.
pub some_same : {A : Type 0} {o : Option A} {a b : A} → o ≡ Some a → o ≡ Some b → a ≡ b
some_same p q = cc

-- Both of two tests hold.
pub and_true : (a b : Bool) → (a && b) ≡ true → (a ≡ true) × (b ≡ true)
and_true true b e = (refl, e)
and_true false b e = true_is_false (sym e)

-- One of two tests fails.
pub and_false : (a b : Bool) → (a && b) ≡ false → (a ≡ false) ⊎ (b ≡ false)
and_false true b e = inr e
and_false false b e = inl refl

-- One of two tests holds.
pub or_true : (a b : Bool) → (a || b) ≡ true → (a ≡ true) ⊎ (b ≡ true)
or_true true b e = inl refl
or_true false b e = inr e

-- Both of two tests fail.
pub or_false : (a b : Bool) → (a || b) ≡ false → (a ≡ false) × (b ≡ false)
or_false true b e = true_is_false e
or_false false b e = (refl, e)

-- A test whose contrary holds fails.
pub not_true : (b : Bool) → true ≡ not b → b ≡ false
not_true true e = true_is_false e
not_true false e = refl

-- A test whose contrary fails holds.
pub not_false : (b : Bool) → false ≡ not b → b ≡ true
not_false true e = refl
not_false false e = true_is_false (sym e)

-- A value that is there only under two tests.
pub only_if_some : {A : Type 0} (a b : Bool) (x y : A) → only_if (a && b) x ≡ Some y → (a ≡ true) × (b ≡ true) × (x ≡ y)
only_if_some true true x y e = (refl, refl, cc)
only_if_some true false x y e = none_is_some e
only_if_some false b x y e = none_is_some e

-- A number that is there and is p.
pub is_some : (p : ℕ) (o : Option ℕ) → is p o ≡ true → o ≡ Some p
is_some p None e = true_is_false (sym e)
is_some p (Some q) e = ap (λ (x : ℕ). Some x) (eqb-true q p e)

-- A test that holds of each number below n holds of q.
pub each_true : (n : ℕ) (f : ℕ → Bool) → each n f ≡ true → (q : ℕ) → q < n → f q ≡ true
each_true zero f e q l = absurd (omega arith)
each_true (suc n) f e q l =
    let x = and_true (each n f) (f n) e in
    by_cases (ℕ_discrete q n) (λ r. rw r x.1) (λ r. each_true n f x.0 q (omega arith))

-- And the other way.
pub each_all : (n : ℕ) (f : ℕ → Bool) → ((q : ℕ) → q < n → f q ≡ true) → each n f ≡ true
each_all zero f a = refl
each_all (suc n) f a = ap (λ b. b && f n) (each_all n f (λ q l. a q (omega arith))) ∙ a n (omega arith)

module _ {A : Type 0} where
  -- A choice by numbers that are equal.
  pub if_same : (x y : ℕ) (a b : A) → x ≡ y → cond (eqb x y) a b ≡ a
  if_same x y a b h = ap (λ t. cond t a b) (eq-eqb x y h)

  -- A choice by numbers that differ.
  pub if_other : (x y : ℕ) (a b : A) → x ≢ y → cond (eqb x y) a b ≡ b
  if_other x y a b h = ap (λ t. cond t a b) (ne_eqb x y h)

  -- A choice by two numbers, by cases.
  pub if_cases : (x y : ℕ) (a b : A) → ((x ≡ y) × (cond (eqb x y) a b ≡ a)) ⊎ ((x ≢ y) × (cond (eqb x y) a b ≡ b))
  if_cases x y a b = by_cases (ℕ_discrete x y) (λ e. inl (e, if_same x y a b e)) (λ d. inr (d, if_other x y a b d))

  -- A changed function, where it was changed.
  pub update_same : (f : ℕ → A) (k : ℕ) (a : A) → update f k a k ≡ a
  update_same f k a = if_same k k a (f k) refl

  -- The same, at a number that is equal.
  pub update_is : (f : ℕ → A) (k j : ℕ) (a : A) → j ≡ k → update f k a j ≡ a
  update_is f k j a e = if_same j k a (f j) e

  -- A changed function elsewhere.
  pub update_other : (f : ℕ → A) (k j : ℕ) (a : A) → j ≢ k → update f k a j ≡ f j
  update_other f k j a n = if_other j k a (f j) n

  -- A changed function, by cases.
  pub update_cases : (f : ℕ → A) (k j : ℕ) (a : A) → ((j ≡ k) × (update f k a j ≡ a)) ⊎ ((j ≢ k) × (update f k a j ≡ f j))
  update_cases f k j a = if_cases j k a (f j)
