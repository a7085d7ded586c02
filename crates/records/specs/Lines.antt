-- What the lines behind the net record add to the lists.
use Rattle.std.specs.Prelude.{ℕ, ◌+◌, cond, List, [], ◌∷◌, length, drop, Ok, Err, Result, ◌==◌}
use Rattle.model.specs.declared.reading.PlanFault.{PlanFault}
use Rattle.model.specs.declared.reading.PlanFault.TheVariants.{InRecord, NoProcess}
use Rattle.text.specs.Fields.{cut_line}
use Rattle.records.specs.Families.{ProcessReading, CargoReading}
use Rattle.records.specs.Filling.{Held, Room}
use Rattle.records.specs.Adding.{line_taken}
use Rattle.records.specs.declared.reading.lists.Starts.{Starts}

-- What the lists hold when all is read or a record is refused, and the answer.
abbrev pub AllTaken : Type 0 → Type 0 → Type 0
AllTaken P C = Held P C × Result (Unit {0}) PlanFault

-- Line by line; what the records before a refused one gave stays. At the end there must be a process.
abbrev pub lines_taken : {P C : Type 0} → ProcessReading P → CargoReading C → Room → Starts → ℕ → List (List ℕ)
    → Held P C → AllTaken P C
lines_taken reads loads room from line [] x = (x, cond (length (drop from.processes x.processes) == 0) (Err NoProcess) (Ok tt))
lines_taken reads loads room from line (bytes ∷ more) x =
    let q = line_taken reads loads room from line (cut_line bytes) x in
    elim q.1 [
      | Err e ↦ (q.0, Err (InRecord e))
      | Ok u ↦ lines_taken reads loads room from (line + 1) more q.0
    ]
