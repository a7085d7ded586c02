-- The null stage goes on by one link more.
use Rattle.std.proofs.Common.{◌≡◌, ℕ, suc, ◌+◌, ◌<◌, Bool, true, false, List, [], ◌∷◌, ◌++◌, length, get_or, take, sym, subst, arith}
use Rattle.std.proofs.lemmas.List.{take_more}
use Rattle.model.specs.Pile.{Pile}
use Rattle.model.specs.Lists.{numbers_below}
use Rattle.model.proofs.Places.{below_with, below_without}
use Rattle.simulation.specs.Step.{Nulls}

module _ {C : Type 0} (t : ℕ) where
  -- The stage over one list, and then over another.
  nulls_append : (ks js : List ℕ) (m l n : Pile C) (a b : ℕ) → Nulls t ks m a l → Nulls t js l b n → Nulls t (ks ++ js) m (a + b) n
  nulls_append [] js m l n a b Nulls.no_more more =
      let none : b ≡ 0 + b = omega arith in subst (λ x. Nulls t js m x n) none more
  nulls_append (k ∷ ks) js m l n a b (Nulls.skips high tells) more = Nulls.skips high (nulls_append ks js m l n a b tells more)
  nulls_append (k ∷ ks) js m l n a b (Nulls.raises low done tells) more =
      let one : suc (_ + b) ≡ a + b = omega arith in
      subst (λ x. Nulls t (k ∷ (ks ++ js)) m x n) one (Nulls.raises low done (nulls_append ks js _ l n _ b tells more))

  -- The next link of a list.
  pub nulls_more : (ks : List ℕ) (i : ℕ) (m l n : Pile C) (a b : ℕ) → i < length ks → Nulls t (take i ks) m a l
      → Nulls t (get_or ks i 0 ∷ []) l b n → Nulls t (take (i + 1) ks) m (a + b) n
  nulls_more ks i m l n a b short tells more =
      subst (λ js. Nulls t js m (a + b) n) (sym (take_more ks i 0 short)) (nulls_append (take i ks) _ m l n a b tells more)

-- Nulls on those of the first links that pass a test.
abbrev pub Told : {C : Type 0} → ℕ → (ℕ → Bool) → ℕ → Pile C → Pile C → Type 0
Told t test i m n = (count : ℕ) × Nulls t (numbers_below i test) m count n

module _ {C : Type 0} (t : ℕ) (test : ℕ → Bool) (i : ℕ) (m l : Pile C) (told : Told t test i m l) where
  -- The next link fails the test.
  pub told_without : test i ≡ false → Told t test (i + 1) m l
  told_without fails = (told.0, subst (λ ks. Nulls t ks m told.0 l) (sym (below_without i test fails)) told.1)

  -- The next link passes it, and is told.
  pub told_with : (n : Pile C) (count : ℕ) → test i ≡ true → Nulls t (i ∷ []) l count n → Told t test (i + 1) m n
  told_with n count passes more = (
    told.0 + count,
    subst (λ ks. Nulls t ks m (told.0 + count) n) (sym (below_with i test passes))
        (nulls_append t (numbers_below i test) _ m l n told.0 count told.1 more),
  )
