-- Histories: what has happened, newest first.
use Rattle.std.proofs.Common.{◌≡◌, ℕ, ◌<◌, ◌≤◌, cond, eqb, ◌≢◌, ◌⊎◌, List, [], ◌∷◌, ◌++◌, reverse, length, drop, Some, None, Option, sym, refl, ap, ◌∙◌, inl, inr, ⊎_elim, append_assoc, append-nil, arith}
use mathlib.Core.List.{reverse-cons}
use mathlib.Core.Logic.{by_cases}
use native.Mathlib.Decide.{ℕ_discrete, dec_lt}
use lib.Seq.{drop-append-le}
use Rattle.std.proofs.lemmas.List.{length-reverse, drop_all}
use Rattle.model.specs.Lists.{oldest}
use Rattle.simulation.proofs.Tests.{none_is_some, none_some, some_same, if_same, if_other}

-- The element at a place, counted from the oldest, which has place 0.
unfoldable pub nth : {A : Type 0} → List A → ℕ → Option A
nth [] n = None
nth (x ∷ xs) n = cond (eqb n (length xs)) (Some x) (nth xs n)

-- The history xs is the beginning of the history ys.
infix 4 ◌⊑◌
pub data ◌⊑◌ {A : Type 0} (xs : List A) : List A → Type 0 where
  same : xs ⊑ xs
  more : {y : A} {ys : List A} → xs ⊑ ys → xs ⊑ y ∷ ys

-- What begins a beginning begins the whole.
pub ⊑_trans : {A : Type 0} {xs ys zs : List A} → xs ⊑ ys → ys ⊑ zs → xs ⊑ zs
⊑_trans a same = a
⊑_trans a (more b) = more (⊑_trans a b)

-- A beginning is no longer.
pub ⊑_length : {A : Type 0} {xs ys : List A} → xs ⊑ ys → length xs ≤ length ys
⊑_length same = omega arith
⊑_length (more a) = let h = ⊑_length a in omega arith

-- The empty history begins each.
pub ⊑_empty : {A : Type 0} (xs : List A) → [] ⊑ xs
⊑_empty [] = same
⊑_empty (x ∷ xs) = more (⊑_empty xs)

-- Nothing with an element begins the empty history.
pub ⊑_nil : {A : Type 0} {x : A} {xs : List A} → x ∷ xs ⊑ [] → ⊥
⊑_nil l = let n = ⊑_length l in omega arith

-- A beginning is the whole, or goes on.
pub ⊑_cases : {A : Type 0} {xs ys : List A} → xs ⊑ ys → (xs ≡ ys) ⊎ ((y : A) × (y ∷ xs ⊑ ys))
⊑_cases same = inl refl
⊑_cases (more {y = y} {ys = ys} a) = ⊎_elim (λ e. inr (y, rw e same)) (λ c. inr (c.0, more c.1)) (⊑_cases a)

-- A beginning of a history with a newest element has it, or begins the older part.
pub ⊑_uncons : {A : Type 0} {x y : A} {xs ys : List A} → x ∷ xs ⊑ y ∷ ys → ((x ≡ y) × (xs ≡ ys)) ⊎ (x ∷ xs ⊑ ys)
⊑_uncons same = inl (refl, refl)
⊑_uncons (more a) = inr a

-- A beginning as long as the whole is the whole.
pub ⊑_whole : {A : Type 0} {xs ys : List A} → xs ⊑ ys → length xs ≡ length ys → xs ≡ ys
⊑_whole same e = refl
⊑_whole (more l) e = let n = ⊑_length l in absurd (omega arith)

-- Two beginnings that are equally long are equal.
pub ⊑_equal : {A : Type 0} {xs ys zs : List A} → xs ⊑ zs → ys ⊑ zs → length xs ≡ length ys → xs ≡ ys
⊑_equal same k e = sym (⊑_whole k (sym e))
⊑_equal (more l) same e = ⊑_whole (more l) e
⊑_equal (more l) (more k) e = ⊑_equal l k e

-- A beginning, in the lists that are oldest first.
pub ⊑_reverse : {A : Type 0} {xs ys : List A} → xs ⊑ ys → (rest : List A) × (reverse ys ≡ reverse xs ++ rest)
⊑_reverse {xs = xs} same = ([], sym (append-nil (reverse xs)))
⊑_reverse {xs = xs} (more {y = y} {ys = ys} l) =
    let i = ⊑_reverse l in
    (i.0 ++ y ∷ [], reverse-cons y ys ∙ ap (λ zs. zs ++ y ∷ []) i.1 ∙ append_assoc (reverse xs) i.0 (y ∷ []))

module _ {A : Type 0} where
  -- The newest element stands last.
  pub nth_new : (x : A) (xs : List A) → nth (x ∷ xs) (length xs) ≡ Some x
  unfolding nth
  nth_new x xs = if_same (length xs) (length xs) (Some x) (nth xs (length xs)) refl

  -- The older ones stay where they are.
  pub nth_old : (x : A) (xs : List A) (n : ℕ) → n ≢ length xs → nth (x ∷ xs) n ≡ nth xs n
  unfolding nth
  nth_old x xs n h = if_other n (length xs) (Some x) (nth xs n) h

  -- Past the length nothing stands.
  pub nth_past : (xs : List A) (n : ℕ) → length xs ≤ n → nth xs n ≡ None
  nth_past [] n h = unfold nth in refl
  nth_past (x ∷ xs) n h = nth_old x xs n (omega arith) ∙ nth_past xs n (omega arith)

  -- What stands somewhere stands below the length.
  pub nth_below : (xs : List A) (n : ℕ) {a : A} → nth xs n ≡ Some a → n < length xs
  nth_below xs n h = by_cases (dec_lt n (length xs)) (λ l. l) (λ l. absurd (none_some (nth_past xs n (omega arith)) h))

  -- Where nothing stands is past the length.
  pub nth_none : (xs : List A) (n : ℕ) → nth xs n ≡ None → length xs ≤ n
  nth_none [] n h = omega arith
  nth_none (x ∷ xs) n h = by_cases (ℕ_discrete n (length xs))
      (λ e. absurd (none_some {a = x} h (rw e (nth_new x xs))))
      (λ d. let l = nth_none xs n (sym (nth_old x xs n d) ∙ h) in omega arith)

  -- Below the length something stands.
  nth_some : (xs : List A) (n : ℕ) → n < length xs → (a : A) × (nth xs n ≡ Some a)
  nth_some xs n l = go (nth xs n) refl
    where
      go : (o : Option A) → nth xs n ≡ o → (a : A) × (nth xs n ≡ Some a)
      go None e = let m = nth_none xs n e in absurd (omega arith)
      go (Some a) e = (a, e)

  -- What stands in a history is its newest, or stands in the older part.
  pub nth_cases : (x : A) (xs : List A) (n : ℕ) {a : A} → nth (x ∷ xs) n ≡ Some a → ((n ≡ length xs) × (x ≡ a)) ⊎ (nth xs n ≡ Some a)
  nth_cases x xs n h = by_cases (ℕ_discrete n (length xs))
      (λ e. inl (e, some_same (rw e (nth_new x xs)) h))
      (λ d. inr (sym (nth_old x xs n d) ∙ h))

  -- Below the length of a beginning, the whole has the same elements.
  nth_⊑ : {xs ys : List A} → xs ⊑ ys → (n : ℕ) → n < length xs → nth ys n ≡ nth xs n
  nth_⊑ same n h = refl
  nth_⊑ (more {y = y} {ys = ys} a) n h = let l = ⊑_length a in nth_old y ys n (omega arith) ∙ nth_⊑ a n h

  -- What stands in a beginning stands there in the whole.
  pub nth_kept : {xs ys : List A} → xs ⊑ ys → (n : ℕ) {a : A} → nth xs n ≡ Some a → nth ys n ≡ Some a
  nth_kept {xs = xs} l n h = nth_⊑ l n (nth_below xs n h) ∙ h

  -- With one element more, the rest after n elements, oldest first, has it last.
  pub drop_more : (x : A) (xs : List A) (n : ℕ) → n ≤ length xs → drop n (reverse (x ∷ xs)) ≡ drop n (reverse xs) ++ x ∷ []
  drop_more x xs n l = ap (drop n) (reverse-cons x xs) ∙ drop-append-le n (reverse xs) (x ∷ []) (rw (length-reverse xs) l)

  -- The oldest of a list stays the oldest as more is added.
  oldest_append : (xs ys : List A) (a : A) → oldest xs ≡ Some a → oldest (xs ++ ys) ≡ Some a
  oldest_append [] ys a e = none_is_some e
  oldest_append (x ∷ xs) ys a e = e

  -- What stands at a place is the oldest of the rest after so many elements, oldest first.
  pub nth_oldest : (xs : List A) (n : ℕ) → nth xs n ≡ oldest (drop n (reverse xs))
  nth_oldest [] n = nth_past [] n (omega arith) ∙ sym (ap oldest (drop_all n [] (omega arith)))
  nth_oldest (x ∷ xs) n = by_cases (dec_lt n (length xs)) (below (nth_oldest xs n))
      (λ l. by_cases (ℕ_discrete n (length xs)) last (λ d. past (omega arith)))
    where
      below : nth xs n ≡ oldest (drop n (reverse xs)) → n < length xs → nth (x ∷ xs) n ≡ oldest (drop n (reverse (x ∷ xs)))
      below i l =
          let c = nth_some xs n l in
          nth_old x xs n (omega arith) ∙ c.1
          ∙ sym (ap oldest (drop_more x xs n (omega arith)) ∙ oldest_append (drop n (reverse xs)) (x ∷ []) c.0 (sym i ∙ c.1))

      last : n ≡ length xs → nth (x ∷ xs) n ≡ oldest (drop n (reverse (x ∷ xs)))
      last e =
          rw e (nth_new x xs)
          ∙ sym (ap oldest (drop_more x xs n (omega arith) ∙ ap (λ ys. ys ++ x ∷ []) (drop_all n (reverse xs) (rw (length-reverse xs) (omega arith)))))

      past : length (x ∷ xs) ≤ n → nth (x ∷ xs) n ≡ oldest (drop n (reverse (x ∷ xs)))
      past l = nth_past (x ∷ xs) n l ∙ sym (ap oldest (drop_all n (reverse (x ∷ xs)) (rw (length-reverse (x ∷ xs)) l)))
