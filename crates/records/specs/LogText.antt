-- The bytes of a log and of a refusal: 13 is CR, 10 is LF, 44 is the comma.
use Rattle.std.specs.Prelude.{◌≡◌, ℕ, ◌<◌, List, [], ◌∷◌, ◌++◌, length, drop, Ok, Err, codes, Option, Result}
use Rattle.exit.specs.Limits.{made_if}
use Rattle.model.specs.declared.record.Record.{Record}
use Rattle.model.specs.declared.reading.LineFault.{LineFault}
use Rattle.model.specs.declared.reading.LineFault.TheVariants.{ShortBuffer}
use Rattle.text.specs.Decimal.{digits}
use Rattle.records.specs.Limits.{line_within}
use Rattle.records.specs.declared.log.LogLine.{LogLine}

-- Every line ends with CR LF.
abbrev pub line_end : List ℕ
line_end = 13 ∷ 10 ∷ []

abbrev pub comma : List ℕ
comma = 44 ∷ []

-- The heading of a log.
abbrev pub heading : List ℕ
heading = codes "process,n,time,link,cargo" ++ line_end

-- Numbers in decimal, with commas between.
abbrev pub between_commas : List ℕ → List ℕ
between_commas [] = []
between_commas (n ∷ []) = digits n
between_commas (n ∷ m ∷ ms) = digits n ++ comma ++ between_commas (m ∷ ms)

-- A line of numbers.
abbrev pub number_line : List ℕ → List ℕ
number_line ns = between_commas ns ++ line_end

-- What the line of a record holds: the process, the record's place in its history, the time, the link, the cargo's code.
abbrev pub line_numbers : Record → ℕ → List ℕ
line_numbers r n = r.process ∷ n ∷ r.time ∷ r.link ∷ r.code ∷ []

-- The line of a record within the limits. There is no other.
abbrev pub line_of : Record → ℕ → Option LogLine
line_of r n = made_if (line_within r n) (λ ok. record { event = r; n = n; limits = ok })

-- The bytes of a line.
abbrev pub bytes_of : LogLine → List ℕ
bytes_of l = number_line (line_numbers l.event l.n)

-- A line written: it stands at the beginning of the buffer, and the rest is as before.
-- A buffer of fewer than 32 bytes, and no other, is refused and stays as it is.
abbrev pub Written : List ℕ → LogLine → Result ℕ LineFault → List ℕ → Type 0
Written before l (Ok end) after =
    (length before < 32 → ⊥) × (end ≡ length (bytes_of l)) × (after ≡ bytes_of l ++ drop end before)
Written before l (Err ShortBuffer) after = (length before < 32) × (after ≡ before)
