-- The nine fields of a record, as a slice pattern binds them.
use Rattle.std.proofs.Common.{◌≡◌, ℕ, zero, suc, cond, List, [], ◌∷◌, map, length, get_or, Ok, Err, Result, sym, refl, ap, ◌∙◌, Bor, eq-eqb, arith}
use Rattle.model.specs.declared.reading.RecordFault.{RecordFault}
use Rattle.model.specs.declared.reading.RecordFault.TheVariants.{NotNineFields}
use Rattle.text.specs.Fields.{Cut, whole, found}
use Rattle.records.specs.Rows.{Row, row_of, row_cut}

abbrev none : Bor (List ℕ)
none = record { ref_ptr = (0, 0); now = [] }

at : (xs : List (Bor (List ℕ))) (k : ℕ) → get_or (map (λ x. x.now) xs) k [] ≡ (get_or xs k none).now
at [] k = refl
at (x ∷ xs) zero = refl
at (x ∷ xs) (suc k) = at xs k

-- Field k, from 0.
abbrev pub field : List (Bor (List ℕ)) → ℕ → Bor (List ℕ)
field xs k = get_or xs k none

abbrev pub bound : ℕ → List (Bor (List ℕ)) → Row
bound line xs = record {
  line = line;
  kind = (field xs 0).now;
  number = (field xs 1).now;
  rest = map (λ x. x.now) (field xs 2 ∷ field xs 3 ∷ field xs 4 ∷ field xs 5 ∷ field xs 6 ∷ field xs 7 ∷ field xs 8 ∷ []);
}

-- They are the record that a list of nine makes.
pub nine : (line : ℕ) (xs : List (Bor (List ℕ))) → length xs ≡ 9 → bound line xs ≡ row_of line (map (λ x. x.now) xs)
nine line [] n = absurd (omega arith)
nine line (a ∷ []) n = absurd (omega arith)
nine line (a ∷ b ∷ []) n = absurd (omega arith)
nine line (a ∷ b ∷ c ∷ []) n = absurd (omega arith)
nine line (a ∷ b ∷ c ∷ d ∷ []) n = absurd (omega arith)
nine line (a ∷ b ∷ c ∷ d ∷ e ∷ []) n = absurd (omega arith)
nine line (a ∷ b ∷ c ∷ d ∷ e ∷ f ∷ []) n = absurd (omega arith)
nine line (a ∷ b ∷ c ∷ d ∷ e ∷ f ∷ g ∷ []) n = absurd (omega arith)
nine line (a ∷ b ∷ c ∷ d ∷ e ∷ f ∷ g ∷ h ∷ []) n = absurd (omega arith)
nine line (a ∷ b ∷ c ∷ d ∷ e ∷ f ∷ g ∷ h ∷ i ∷ []) n = refl
nine line (a ∷ b ∷ c ∷ d ∷ e ∷ f ∷ g ∷ h ∷ i ∷ j ∷ more) n = absurd (omega arith)

-- Nine fields that were cut are the record.
pub nine_cut : (line : ℕ) (k : Cut) (fields : List (List ℕ)) → k ≡ whole (found k) → length (found k) ≡ 9 → fields ≡ found k
    → ◌≡◌ {A = Result Row RecordFault} (Ok (row_of line fields)) (row_cut line k)
nine_cut line k fields is n e =
    ap (λ x. Ok (row_of line x)) e
    ∙ sym (ap (row_cut line) is ∙ ap (λ b. cond b (Ok (row_of line (found k))) (Err (NotNineFields line))) (eq-eqb (length (found k)) 9 n))
