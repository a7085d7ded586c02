-- Tables with a row for each link.
use Rattle.std.proofs.Common.{◌≡◌, ℕ, ◌<◌, ◌≤◌, ◌≢◌, List, length, get_or, set, ⊎_elim}
use Rattle.std.proofs.lemmas.List.{get_or-set_same, get_or-set_other, set_past}
use Rattle.std.proofs.lemmas.Bool.{cases_eq, cases_lt}

module _ {X : Type 0} where
  -- What holds of each row, and of what is written to one of them, holds of each row afterwards.
  pub table_set : (P : X → Type 0) (t : List X) (n i : ℕ) (v d : X)
      → ((k : ℕ) → k < n → P (get_or t k d)) → P v → (k : ℕ) → k < n → P (get_or (set t i v) k d)
  table_set P t n i v d old new k l =
      ⊎_elim
      (λ (same : k ≡ i). ⊎_elim
      (λ (within : i < length t). rw (same, get_or-set_same) new)
      (λ (past : length t ≤ i). rw set_past (old k l))
      (cases_lt i (length t)))
      (λ (ne : k ≢ i). rw get_or-set_other (old k l))
      (cases_eq k i)
