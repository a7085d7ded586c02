-- The lines of a plan: how long they are, and one more taken.
use Rattle.std.proofs.Common.{◌≡◌, ℕ, suc, ◌+◌, ◌≤◌, cond, ◌&&◌, ◌==◌, List, [], ◌∷◌, length, Ok, Err, Result, sym, ap, ◌∙◌, arith}
use Rattle.std.proofs.lemmas.Bool.{cond_both}
use Rattle.model.specs.declared.reading.RecordFault.{RecordFault}
use Rattle.model.specs.declared.reading.PlanFault.TheVariants.{InRecord}
use Rattle.text.specs.Fields.{cut_line}
use Rattle.text.specs.Lines.{begins_lf, lines_of, onto}
use Rattle.records.specs.Families.{ProcessReading, CargoReading}
use Rattle.records.specs.Filling.{Held, Room}
use Rattle.records.specs.Adding.{Taken, line_taken}
use Rattle.records.specs.Lines.{AllTaken, lines_taken}
use Rattle.records.specs.declared.reading.lists.Starts.{Starts}

-- No line is longer than so many bytes.
abbrev pub Short : ℕ → List (List ℕ) → Type 0
Short n [] = Unit {0}
Short n (line ∷ lines) = (length line ≤ n) × Short n lines

pub longer : (n m : ℕ) (lines : List (List ℕ)) → n ≤ m → Short n lines → Short m lines
longer n m [] l s = tt
longer n m (line ∷ lines) l s = (omega (arith, s.0), longer n m lines l s.1)

onto_short : (n b : ℕ) (lines : List (List ℕ)) → Short n lines → Short (suc n) (onto b lines)
onto_short n b [] s = (omega arith, tt)
onto_short n b (line ∷ lines) s = (omega (arith, s.0), longer n (suc n) lines (omega arith) s.1)

-- A line is no longer than its text.
pub lines_short : (bytes : List ℕ) → Short (length bytes) (lines_of bytes)
lines_short [] = tt
lines_short (b ∷ bs) =
    let s = lines_short bs in
    let t = longer (length bs) (suc (length bs)) (lines_of bs) (omega arith) s in
    cond_both (b == 10) ([] ∷ lines_of bs) (cond (b == 13 && begins_lf bs) (lines_of bs) (onto b (lines_of bs)))
    (Short (suc (length bs))) (λ _. (omega arith, t))
    (λ _. cond_both (b == 13 && begins_lf bs) (lines_of bs) (onto b (lines_of bs)) (Short (suc (length bs)))
    (λ _. t) (λ _. onto_short (length bs) b (lines_of bs) s))

module _ {P C : Type 0} (reads : ProcessReading P) (loads : CargoReading C) (from : Starts) where
  -- Goes on with the lines behind one that was taken.
  abbrev after : Room → ℕ → List (List ℕ) → Taken P C → AllTaken P C
  after room line more q = elim q.1 [ Err e ↦ (q.0, Err (InRecord e)) | Ok u ↦ lines_taken reads loads room from (line + 1) more q.0 ]

  pub one_line : {room known : Room} {start line next : ℕ} {lines more : List (List ℕ)} {bytes : List ℕ}
      (x y : Held P C) {r : Result (Unit {0}) RecordFault} {u : Unit {0}}
      → ◌≡◌ {A = Taken P C} (y, r) (line_taken reads loads known from line (cut_line bytes) x) → r ≡ Ok u → known ≡ room
      → lines ≡ bytes ∷ more → line ≡ start → next ≡ line + 1
      → lines_taken reads loads room from next more y ≡ lines_taken reads loads room from start lines x
  one_line {room} {known} {start} {line} {next} {lines} {more} {bytes} x y {r} {u} e o k l s n =
      let taken : ◌≡◌ {A = Taken P C} (y, Ok u) (line_taken reads loads room from line (cut_line bytes) x) =
      ap (λ z. (y, z)) (sym o) ∙ e ∙ ap (λ z. line_taken reads loads z from line (cut_line bytes) x) k in
      ap (λ z. lines_taken reads loads room from z more y) n
      ∙ ap (after room line more) taken
      ∙ ap (λ z. lines_taken reads loads room from z (bytes ∷ more) x) s
      ∙ sym (ap (λ z. lines_taken reads loads room from start z x) l)
