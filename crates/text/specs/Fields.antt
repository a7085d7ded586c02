-- The fields of a line: 34 is the quote, 44 the comma.
use Rattle.std.specs.Prelude.{◌≡◌, ℕ, ◌+◌, Bool, cond, ◌&&◌, List, [], ◌∷◌, ◌++◌, length, take, drop, Ok, Err, Result, ◌==◌, nat_le}
use Rattle.text.specs.declared.fields.Malformed.{Malformed}
use Rattle.text.specs.declared.fields.State.{State}
use Rattle.text.specs.declared.fields.State.TheVariants.{Start, Plain, Quoted, AfterQuote}

-- a byte that a line may hold, from 32 to 126
abbrev pub printable : ℕ → Bool
printable b = nat_le 32 b && nat_le b 126

-- what a byte does to the field that it stands in
pub data Step : Type 0 where
  opens : Step
  keeps : State → Step
  closes : Step
  ends : Step
  breaks : Step

-- where the reader stands and the byte to come decide it
abbrev pub step : State → ℕ → Step
step Start b = cond (b == 34) opens (cond (b == 44) ends (cond (printable b) (keeps Plain) breaks))
step Plain b = cond (b == 34) breaks (cond (b == 44) ends (cond (printable b) (keeps Plain) breaks))
step Quoted b = cond (b == 34) closes (cond (printable b) (keeps Quoted) breaks)
step AfterQuote b = cond (b == 44) ends breaks

-- a line's fields, or those before the first that is malformed
pub data Cut : Type 0 where
  whole : List (List ℕ) → Cut
  broken : List (List ℕ) → Cut

-- the fields before the end, or before the malformed one
abbrev pub found : Cut → List (List ℕ)
found (whole fields) = fields
found (broken fields) = fields

-- one more field at the front
abbrev pub onto : List ℕ → Cut → Cut
onto field (whole fields) = whole (field ∷ fields)
onto field (broken fields) = broken (field ∷ fields)

-- at the end of the line only an open quote is wrong
abbrev pub finish : State → List ℕ → Cut
finish Start field = whole (field ∷ [])
finish Plain field = whole (field ∷ [])
finish Quoted field = broken []
finish AfterQuote field = whole (field ∷ [])

-- the fields from a state, the field so far and the bytes to come
abbrev pub cut : State → List ℕ → List ℕ → Cut
cut s field [] = finish s field
cut s field (b ∷ bs) =
    elim (step s b) [
      | opens ↦ cut Quoted [] bs
      | keeps t ↦ cut t (field ++ b ∷ []) bs
      | closes ↦ cut AfterQuote field bs
      | ends ↦ onto field (cut Start [] bs)
      | breaks ↦ broken []
    ]

-- a line is cut from the start of its first field on
abbrev pub cut_line : List ℕ → Cut
cut_line line = cut Start [] line

-- the answer is how many fields there are, or the number of the first malformed one, counted from 1
abbrev pub Answer : Cut → Result ℕ Malformed → Type 0
Answer k (Ok n) = (k ≡ whole (found k)) × (n ≡ length (found k))
Answer k (Err e) = (k ≡ broken (found k)) × (e.field ≡ length (found k) + 1)

-- places with fields at their front, as far as there is room
abbrev pub filled : List (List ℕ) → List (List ℕ) → List (List ℕ)
filled places fields = take (length places) fields ++ drop (length fields) places
