-- What the fields of a line are, said without a reader: 34 is the quote, 44 the comma.
use Rattle.std.specs.Prelude.{◌≡◌, ℕ, ◌≤◌, List, [], ◌∷◌, ◌++◌, ◌≢◌}
use Rattle.std.specs.List.{AllByRecursion}
use Rattle.text.specs.Fields.{Cut, whole, broken, cut_line, onto}

-- a byte that may stand in quotes
abbrev pub Quotable : ℕ → Type 0
Quotable b = (32 ≤ b) × (b ≤ 126) × (b ≢ 34)

-- a byte that may stand without quotes
abbrev pub Bare : ℕ → Type 0
Bare b = Quotable b × (b ≢ 44)

-- how a field is written: as it is, or in quotes
pub data Written : List ℕ → List ℕ → Type 0 where
  bare : {field : List ℕ} → AllByRecursion Bare field → Written field field
  quoted : {field : List ℕ} → AllByRecursion Quotable field → Written field (34 ∷ field ++ 34 ∷ [])

-- bytes that begin with no field: none reaches to their end or to a comma
abbrev pub NoField : List ℕ → Type 0
NoField bytes = (field text rest : List ℕ) → Written field text → (bytes ≢ text) × (bytes ≢ text ++ 44 ∷ rest)

-- a line is its fields with a comma between two; a broken one has a malformed field behind the last comma that is reached
pub data Parted : List ℕ → Cut → Type 0 where
  last : {field text : List ℕ} → Written field text → Parted text (whole (field ∷ []))
  more : {field text rest : List ℕ} {k : Cut} → Written field text → Parted rest k
      → Parted (text ++ 44 ∷ rest) (onto field k)
  fault : {bytes : List ℕ} → NoField bytes → Parted bytes (broken [])

-- a line is parted as it is cut, and in no other way
pub record Grammar (line : List ℕ) : Type 0 where
  pub parted : Parted line (cut_line line)
  pub only : (k : Cut) → Parted line k → k ≡ cut_line line
