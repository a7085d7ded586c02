-- The numbers below n that pass a test: each passes, they rise, and none is left out.
use Rattle.std.proofs.Common.{◌≡◌, ℕ, zero, suc, ◌+◌, ◌<◌, ◌≤◌, Bool, true, false, cond, eqb, List, [], ◌∷◌, ◌++◌, map, length, get_or, vec_items, vec_len, Vec, sym, refl, ap, ◌∙◌, subst, ⊎_elim, arith}
use Rattle.std.specs.List.{range_with_len}
use Rattle.std.proofs.lemmas.List.{append-nil, length_push, get_or_push, get_or_append_left, get_or-map, length-map, map_push}
use Rattle.std.proofs.lemmas.Bool.{cases_lt, cases_eq, eq-eqb, ne_eqb, true≢false}
use Rattle.std.proofs.lemmas.List.FromFn.{get_or-map-range_with_len, length-map-range_with_len, map-range_with_len_more}
use Rattle.model.specs.Lists.{numbers_below, place_of}
use Rattle.kernel.specs.Places.{Below, Rising}

-- What a list of the numbers below n that pass the test is.
pub record Selects (n : ℕ) (test : ℕ → Bool) (ks : List ℕ) : Type 0 where
  pub below : Below n ks
  pub passes : (a : ℕ) → a < length ks → test (get_or ks a 0) ≡ true
  pub rising : Rising ks
  pub has : (k : ℕ) → k < n → test k ≡ true → (a : ℕ) × (a < length ks) × (get_or ks a 0 ≡ k)
  pub few : length ks ≤ n

module _ (n : ℕ) (test : ℕ → Bool) (ks : List ℕ) (s : Selects n test ks) where
  more_with : test n ≡ true → Selects (suc n) test (ks ++ (n ∷ []))
  more_with pass = record { below = below'; passes = passes'; rising = rising'; has = has'; few = omega (arith, length_push ks n, s.few) }
    where
      old : (a : ℕ) → a < length ks → get_or (ks ++ (n ∷ [])) a 0 ≡ get_or ks a 0
      old a l = get_or_append_left ks (n ∷ []) 0 a l

      new : (a : ℕ) → a < length (ks ++ (n ∷ [])) → length ks ≤ a → get_or (ks ++ (n ∷ [])) a 0 ≡ n
      new a l h = get_or_push ks n 0 a (omega (arith, length_push ks n))

      below' : Below (suc n) (ks ++ (n ∷ []))
      below' a l = ⊎_elim
          (λ h. omega (arith, old a h, s.below a h)) (λ h. omega (arith, new a l h)) (cases_lt a (length ks))

      passes' : (a : ℕ) → a < length (ks ++ (n ∷ [])) → test (get_or (ks ++ (n ∷ [])) a 0) ≡ true
      passes' a l = ⊎_elim
          (λ h. ap test (old a h) ∙ s.passes a h) (λ h. ap test (new a l h) ∙ pass) (cases_lt a (length ks))

      rising' : Rising (ks ++ (n ∷ []))
      rising' a b l h = ⊎_elim
          (λ x. omega (arith, old a (omega arith), old b x, s.rising a b l x))
          (λ x. let short : a < length ks = omega (arith, length_push ks n) in omega (arith, old a short, s.below a short, new b h x))
          (cases_lt b (length ks))

      has' : (k : ℕ) → k < suc n → test k ≡ true → (a : ℕ) × (a < length (ks ++ (n ∷ []))) × (get_or (ks ++ (n ∷ [])) a 0 ≡ k)
      has' k l t = ⊎_elim
          (λ same. (length ks, omega (arith, length_push ks n), get_or_push ks n 0 (length ks) refl ∙ sym same))
          (λ other. let r = s.has k (omega arith) t in (r.0, omega (arith, length_push ks n, r.1), old r.0 r.1 ∙ r.2))
          (cases_eq k n)

  more_without : test n ≡ false → Selects (suc n) test ks
  more_without fails = record {
    below = λ a l. omega (arith, s.below a l);
    passes = s.passes;
    rising = s.rising;
    has = λ k l t. ⊎_elim
        (λ same. absurd (true≢false (sym t ∙ ap test same ∙ fails))) (λ other. s.has k (omega arith) t) (cases_eq k n);
    few = omega (arith, s.few);
  }

  more : (b : Bool) → test n ≡ b → Selects (suc n) test (ks ++ cond b (n ∷ []) [])
  more true pass = more_with pass
  more false fails = subst (Selects (suc n) test) (sym (append-nil ks)) (more_without fails)

pub selects : (n : ℕ) (test : ℕ → Bool) → Selects n test (numbers_below n test)
selects zero test = record {
  below = λ a l. absurd (omega arith);
  passes = λ a l. absurd (omega arith);
  rising = λ a b l h. absurd (omega arith);
  has = λ k l t. absurd (omega arith);
  few = omega arith;
}
selects (suc n) test = more n test (numbers_below n test) (selects n test) (test n) refl

-- In a list that rises, a member's place is the place where it stands.
pub place_is : (ks : List ℕ) (a k : ℕ) → Rising ks → a < length ks → get_or ks a 0 ≡ k → place_of k ks ≡ a
place_is [] a k r l e = absurd (omega arith)
place_is (j ∷ js) zero k r l e = ap (λ b. cond b 0 (suc (place_of k js))) (eq-eqb j k e)
place_is (j ∷ js) (suc a) k r l e =
    let apart : eqb j k ≡ false = ne_eqb j k (λ same. omega (arith, r 0 (suc a) (omega arith) l, e, same)) in
    ap (λ b. cond b 0 (suc (place_of k js))) apart
    ∙ ap suc (place_is js a k (λ x y m h. r (suc x) (suc y) (omega arith) (omega arith)) (omega arith) e)

-- Two members of a list that rises stand at one place if they are equal.
pub same_place : (ks : List ℕ) (a b : ℕ) → Rising ks → a < length ks → b < length ks → get_or ks a 0 ≡ get_or ks b 0 → a ≡ b
same_place ks a b r l h e = sym (place_is ks a (get_or ks b 0) r l e) ∙ place_is ks b (get_or ks b 0) r h refl

module _ {Z : Type 0} (f : ℕ → List ℕ) where
  -- A row of a table that has f of each number below n.
  pub row : (vs : Vec (Vec ℕ Z) Z) (n p : ℕ) (v : Vec ℕ Z) → map vec_items (vec_items vs) ≡ map f (range_with_len 0 n) → p < n
      → p < vec_len vs → v ≡ get_or (vec_items vs) p v → vec_items v ≡ f p
  row vs n p v table l h is =
      ap vec_items is ∙ sym (get_or-map vec_items (vec_items vs) p v [] (omega (arith, vs.ok.0))) ∙ ap (λ rows. get_or rows p []) table
      ∙ get_or-map-range_with_len f 0 n p p [] l (omega arith)

  -- The table has n rows.
  pub rows : (vs : Vec (Vec ℕ Z) Z) (n : ℕ) → map vec_items (vec_items vs) ≡ map f (range_with_len 0 n) → vec_len vs ≡ n
  rows vs n table =
      vs.ok.0 ∙ sym (length-map (vec_items vs) (vec_items {X = ℕ} {Z = Z})) ∙ ap length table ∙ length-map-range_with_len f 0 n

  -- One row more.
  pub row_more : (vs ws : List (Vec ℕ Z)) (v : Vec ℕ Z) (p : ℕ) → map vec_items vs ≡ map f (range_with_len 0 p) → ws ≡ vs ++ (v ∷ [])
      → vec_items v ≡ f p → map vec_items ws ≡ map f (range_with_len 0 (p + 1))
  row_more vs ws v p table grown is =
      ap (map vec_items) grown ∙ map_push vec_items vs v ∙ ap (λ rows. rows ++ (vec_items v ∷ [])) table
      ∙ ap (λ x. map f (range_with_len 0 p) ++ (x ∷ [])) is ∙ sym (map-range_with_len_more f 0 p p (omega arith))
