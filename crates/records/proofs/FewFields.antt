-- A line has no more fields than bytes and one, and nine fields fill nine places.
use Rattle.std.proofs.Common.{◌≡◌, ℕ, ◌+◌, ◌≤◌, List, ◌∷◌, ◌++◌, length, ◌∙◌, arith, length-append}
use Rattle.std.proofs.lemmas.List.{take_all, drop_all, append-nil}
use Rattle.text.specs.Fields.{Cut, whole, broken, found, onto, filled}
use Rattle.text.specs.Grammar.{Parted, last, more, fault}

one_field : (field : List ℕ) (k : Cut) → length (found (onto field k)) ≤ length (found k) + 1
one_field field (whole fields) = omega arith
one_field field (broken fields) = omega arith

pub few_fields : {line : List ℕ} {k : Cut} → Parted line k → length (found k) ≤ length line + 1
few_fields (last w) = omega arith
few_fields (more {field} {text} {rest} {k} w p) =
    omega (arith, one_field field k, few_fields p, length-append text (44 ∷ rest))
few_fields (fault n) = omega arith

pub nine_held : (after places fields : List (List ℕ)) → after ≡ filled places fields → length fields ≡ 9 → length places ≡ 9 → after ≡ fields
nine_held after places fields e f p =
    e ∙ (λ i. take_all (length places) fields (omega arith) i ++ drop_all (length fields) places (omega arith) i) ∙ append-nil fields
