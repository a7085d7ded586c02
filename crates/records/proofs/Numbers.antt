-- Numbers with commas between, one more at the end.
use Rattle.std.proofs.Common.{◌≡◌, ℕ, zero, suc, ◌+◌, ◌<◌, List, [], ◌∷◌, ◌++◌, length, get_or, take, sym, refl, ap, ◌∙◌, append_assoc, arith}
use Rattle.std.proofs.lemmas.List.{take_more}
use Rattle.text.specs.Decimal.{digits}
use Rattle.records.specs.LogText.{comma, between_commas}

one_more : (x : ℕ) (xs : List ℕ) (y : ℕ) → between_commas ((x ∷ xs) ++ y ∷ []) ≡ between_commas (x ∷ xs) ++ comma ++ digits y
one_more x [] y = refl
one_more x (z ∷ zs) y =
    ap (λ (w : List ℕ). digits x ++ comma ++ w) (one_more z zs y)
    ∙ sym (append_assoc (digits x ++ comma) (between_commas (z ∷ zs) ++ comma) (digits y))
    ∙ ap (λ (w : List ℕ). w ++ digits y) (sym (append_assoc (digits x ++ comma) (between_commas (z ∷ zs)) comma))

pub first_number : (ns : List ℕ) (i : ℕ) → i ≡ 0 → i < length ns → between_commas (take (i + 1) ns) ≡ digits (get_or ns i 0)
first_number [] i e l = absurd (omega arith)
first_number (n ∷ ns) i e l = ap (λ k. between_commas (take (k + 1) (n ∷ ns))) e ∙ sym (ap (λ k. digits (get_or (n ∷ ns) k 0)) e)

pub next_number : (ns : List ℕ) (i : ℕ) → 0 < i → i < length ns
    → between_commas (take (i + 1) ns) ≡ between_commas (take i ns) ++ comma ++ digits (get_or ns i 0)
next_number [] i p l = absurd (omega arith)
next_number (n ∷ ns) zero p l = absurd (omega arith)
next_number (n ∷ ns) (suc i) p l =
    ap between_commas (take_more (n ∷ ns) (suc i) 0 l) ∙ one_more n (take i ns) (get_or (n ∷ ns) (suc i) 0)
