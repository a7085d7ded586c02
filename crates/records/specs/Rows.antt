-- A record of a plan, taken apart: its kind, its number and the rest of its fields.
use Rattle.std.specs.Prelude.{ℕ, ◌+◌, ◌-◌, cond, List, [], length, drop, Ok, Err, Result, ◌==◌, slice_index_or}
use Rattle.model.specs.declared.reading.Problem.{Problem}
use Rattle.model.specs.declared.reading.Problem.TheVariants.{Malformed}
use Rattle.model.specs.declared.reading.FieldFault.{FieldFault}
use Rattle.model.specs.declared.reading.RecordFault.{RecordFault}
use Rattle.model.specs.declared.reading.RecordFault.TheVariants.{InField, NotNineFields}
use Rattle.text.specs.Fields.{Cut, whole, broken}

-- A field, and where it stands: line and field count from 1.
pub record Cell : Type 0 where
  pub line : ℕ
  pub field : ℕ
  pub bytes : List ℕ

-- A faulty field.
abbrev pub faulty : Cell → Problem → FieldFault
faulty c problem = record { line = c.line; field = c.field; problem = problem }

-- A record of a line: the rest begins with field 3.
pub record Row : Type 0 where
  pub line : ℕ
  pub kind : List ℕ
  pub number : List ℕ
  pub rest : List (List ℕ)

-- Field 1: the word that names the kind.
abbrev pub kind_of : Row → Cell
kind_of r = record { line = r.line; field = 1; bytes = r.kind }

-- Field 2.
abbrev pub number_of : Row → Cell
number_of r = record { line = r.line; field = 2; bytes = r.number }

-- A field from 3 on. Below 3 it has the bytes of field 3.
abbrev pub cell : Row → ℕ → Cell
cell r k = record { line = r.line; field = k; bytes = slice_index_or r.rest (k - 3) [] }

-- The record of a line of nine fields.
abbrev pub row_of : ℕ → List (List ℕ) → Row
row_of line fs = record { line = line; kind = slice_index_or fs 0 []; number = slice_index_or fs 1 []; rest = drop 2 fs }

-- A line that was cut: a malformed field comes before all else, and there must be nine.
abbrev pub row_cut : ℕ → Cut → Result Row RecordFault
row_cut line (whole fs) = cond (length fs == 9) (Ok (row_of line fs)) (Err (NotNineFields line))
row_cut line (broken fs) = Err (InField (record { line = line; field = length fs + 1; problem = Malformed }))
