-- The lines of a text: 10 is LF, 13 is CR.
use Rattle.std.specs.Prelude.{◌≡◌, ℕ, ◌<◌, Bool, false, cond, ◌&&◌, ◌⊎◌, List, [], ◌∷◌, ◌++◌, length, ◌==◌}
use Rattle.text.specs.declared.lines.SplitLines.{SplitLines}

-- whether the bytes begin with LF
abbrev pub begins_lf : List ℕ → Bool
begins_lf [] = false
begins_lf (b ∷ bs) = b == 10

-- one more byte at the front of the first line
abbrev pub onto : ℕ → List (List ℕ) → List (List ℕ)
onto b [] = (b ∷ []) ∷ []
onto b (line ∷ lines) = (b ∷ line) ∷ lines

-- each line ends with CR LF or LF, and the last end may be missing; a CR without LF is a byte of its line
abbrev pub lines_of : List ℕ → List (List ℕ)
lines_of [] = []
lines_of (b ∷ bs) = cond (b == 10) ([] ∷ lines_of bs) (cond (b == 13 && begins_lf bs) (lines_of bs) (onto b (lines_of bs)))

-- a text is its first line, that line's end and the rest, or one line without an end
abbrev pub Split : List ℕ → List ℕ → List ℕ → Type 0
Split text line rest = (text ≡ line ++ (10 ∷ rest)) ⊎ ((text ≡ line ++ (13 ∷ 10 ∷ rest)) ⊎ ((text ≡ line) × (rest ≡ [])))

-- the lines that an iterator still gives
abbrev pub lines_left : SplitLines → List (List ℕ)
lines_left l = lines_of l.rest.now

-- the first line of a text, and what follows
pub record FirstLine (text line rest : List ℕ) : Type 0 where
  pub lines : lines_of text ≡ line ∷ lines_of rest
  pub split : Split text line rest
  pub shorter : length rest < length text
