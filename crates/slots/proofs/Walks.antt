-- What a write to a slot does to a walk, and how a walk begins and ends.
use Rattle.std.proofs.Common.{◌≡◌, ℕ, zero, suc, ◌<◌, ◌≢◌, List, [], ◌∷◌, ◌++◌, length, get_or, set, sym, refl, ap, le_of_suc-le-suc, not-suc-le-zero, arith, drop-cons}
use Rattle.std.proofs.lemmas.List.{append-nil, append_assoc, length-append, length-take, length-drop}
use Rattle.slots.specs.Walk.{here, walk}

module _ {X : Type 0} where
  pub here_read : (s : List X) (i : ℕ) (d : X) → i < length s → here s i ≡ get_or s i d ∷ []
  here_read s i d l = rw (drop-cons s i d l)

  pub here_same : (s : List X) (i : ℕ) (v : X) → i < length s → here (set s i v) i ≡ v ∷ []
  here_same [] i v l = absurd (not-suc-le-zero l)
  here_same (x ∷ xs) zero v l = refl
  here_same (x ∷ xs) (suc i) v l = here_same xs i v (le_of_suc-le-suc l)

  pub here_other : (s : List X) (i j : ℕ) (v : X) → j ≢ i → here (set s i v) j ≡ here s j
  here_other [] i j v ne = refl
  here_other (x ∷ xs) zero zero v ne = absurd (ne refl)
  here_other (x ∷ xs) zero (suc j) v ne = refl
  here_other (x ∷ xs) (suc i) zero v ne = refl
  here_other (x ∷ xs) (suc i) (suc j) v ne = here_other xs i j v (λ e. ne (ap suc e))

  -- A write to a slot that a walk does not pass leaves the walk.
  pub walk_other : (s : List X) (f : ℕ → ℕ) (n i : ℕ) (v : X)
      → ((j : ℕ) → j < n → f j ≢ i) → walk (set s i v) f n ≡ walk s f n
  unfolding walk
  walk_other s f zero i v ne = refl
  walk_other s f (suc n) i v ne =
      let a = walk_other s f n i v (λ j l. ne j (omega arith)) in
      let b = here_other s i (f n) v (ne n (omega arith)) in
      cc

  -- A write to the slot after a walk lengthens the walk by what is written.
  pub walk_put : (s : List X) (f : ℕ → ℕ) (n : ℕ) (v : X)
      → ((j : ℕ) → j < n → f j ≢ f n) → f n < length s → walk (set s (f n) v) f (suc n) ≡ walk s f n ++ (v ∷ [])
  unfolding walk
  walk_put s f n v ne l =
      let a = walk_other s f n (f n) v ne in
      let b = here_same s (f n) v l in
      cc

  -- Equal places give equal walks.
  pub walk_along : (s : List X) (f g : ℕ → ℕ) (n : ℕ) → ((j : ℕ) → j < n → f j ≡ g j) → walk s f n ≡ walk s g n
  unfolding walk
  walk_along s f g zero e = refl
  walk_along s f g (suc n) e =
      let a = walk_along s f g n (λ j l. e j (omega arith)) in
      let b = e n (omega arith) in
      cc

  walk_from : (s : List X) (f : ℕ → ℕ) (n : ℕ) → walk s f (suc n) ≡ here s (f 0) ++ walk s (λ j. f (suc j)) n
  unfolding walk
  walk_from s f zero = sym (append-nil (here s (f 0)))
  walk_from s f (suc n) =
      let a = walk_from s f n in
      let b = append_assoc (here s (f 0)) (walk s (λ j. f (suc j)) n) (here s (f (suc n))) in
      cc

  -- A walk is its first element and the walk from there.
  pub walk_first : (s : List X) (f g : ℕ → ℕ) (n : ℕ) (d : X) → f 0 < length s → ((j : ℕ) → j < n → f (suc j) ≡ g j)
      → walk s f (suc n) ≡ get_or s (f 0) d ∷ walk s g n
  walk_first s f g n d l e =
      let a = walk_from s f n in
      let b = here_read s (f 0) d l in
      let c = walk_along s (λ j. f (suc j)) g n e in
      cc

  -- Over slots that are all there, a walk is as long as it says.
  pub length_walk : (s : List X) (f : ℕ → ℕ) (n : ℕ) → ((j : ℕ) → j < n → f j < length s) → length (walk s f n) ≡ n
  unfolding walk
  length_walk s f zero w = refl
  length_walk s f (suc n) w =
      let a = length_walk s f n (λ j l. w j (omega arith)) in
      let b = w n (omega arith) in
      let c = length-append (walk s f n) (here s (f n)) in
      let d : length (here s (f n)) ≡ 1 = simp (length-take, length-drop) (omega arith) in
      omega arith

  -- Nothing is read by a walk of no steps.
  pub walk_none : (s : List X) (f : ℕ → ℕ) → walk s f 0 ≡ []
  unfolding walk
  walk_none s f = refl
