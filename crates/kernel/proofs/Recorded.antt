-- The history of a process, from a place of the log on.
use Rattle.std.proofs.Common.{◌≡◌, ℕ, ◌+◌, ◌<◌, Bool, true, false, cond, eqb, List, ◌∷◌, length, get_or, drop, ap, ◌∙◌}
use Rattle.std.proofs.lemmas.List.{at_drop_more}
use Rattle.std.proofs.lemmas.Bool.{eq-eqb, ne_eqb}
use Rattle.model.specs.declared.record.Record.{Record}
use Rattle.simulation.specs.View.{history}

module _ (p : ℕ) (xs : List Record) (i : ℕ) (d : Record) (l : i < length xs) where
  chosen : (b : Bool) → eqb (get_or xs i d).process p ≡ b
      → history p (drop i xs) ≡ cond b (get_or xs i d ∷ history p (drop (i + 1) xs)) (history p (drop (i + 1) xs))
  chosen b e =
      at_drop_more (history p) xs i d l
      ∙ ap (λ x. cond x (get_or xs i d ∷ history p (drop (i + 1) xs)) (history p (drop (i + 1) xs))) e

  -- A record of the process is the next of its history.
  pub history_next : (get_or xs i d).process ≡ p → history p (drop i xs) ≡ get_or xs i d ∷ history p (drop (i + 1) xs)
  history_next e = chosen true (eq-eqb (get_or xs i d).process p e)

  -- A record of another is passed over.
  pub history_skips : ((get_or xs i d).process ≡ p → ⊥) → history p (drop i xs) ≡ history p (drop (i + 1) xs)
  history_skips e = chosen false (ne_eqb (get_or xs i d).process p e)
