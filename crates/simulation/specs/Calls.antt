-- The calls of a run, and what each answers and leaves.
use Rattle.std.specs.Prelude.{◌≡◌, ℕ, suc, ◌≤◌, Bool, true, false, cond, ◌&&◌, length, Some, None, Ok, Err, Option, Result, ◌==◌, nat_eq}
use Rattle.model.specs.declared.answer.Stepped.{Stepped}
use Rattle.model.specs.declared.answer.Passed.{Passed}
use Rattle.model.specs.declared.event.Event.{Event}
use Rattle.model.specs.declared.record.Record.{Record}
use Rattle.model.specs.declared.refusal.Refusal.{Refusal}
use Rattle.model.specs.declared.refusal.Refusal.TheVariants.{NoSuch}
use Rattle.model.specs.Lists.{at, each}
use Rattle.simulation.specs.Net.{Program}
use Rattle.simulation.specs.View.{View, history, clock, as_prepared, has}
use Rattle.simulation.specs.Step.{Step}

pub data Call : Type 0 where
  step : ℕ → Call  -- of a process
  run : ℕ → Call  -- so many passes at most
  ask_clock : ℕ → Call  -- of a process
  ask_count : ℕ → Call  -- of the records in a process's history
  ask_record : ℕ → ℕ → Call  -- of a process, the record at a place of its history
  ask_rounds : Call
  ask_done : Call

-- What each call answers.
abbrev pub Answer : Type 0 → Call → Type 0
Answer C (step p) = Result (Stepped C) Refusal
Answer C (run n) = Passed
Answer C (ask_clock p) = Result ℕ Refusal
Answer C (ask_count p) = Result ℕ Refusal
Answer C (ask_record p n) = Result Record Refusal
Answer C ask_rounds = ℕ
Answer C ask_done = Bool

-- Whether no event was taken and no null was put.
abbrev pub nothing_done : {C : Type 0} → Option (Event C) → ℕ → Bool
nothing_done None nulls = nulls == 0
nothing_done (Some e) nulls = false

-- Whether a step was quiet. A refused one is.
abbrev pub quiet : {C : Type 0} → Result (Stepped C) Refusal → Bool
quiet (Ok a) = nothing_done a.taken a.nulls
quiet (Err f) = true

-- The record, or that there is none.
abbrev pub found : Option Record → Result Record Refusal
found None = Err NoSuch
found (Some r) = Ok r

module _ {C P : Type 0} (v : View C P) where
  -- The clock of p.
  abbrev pub clock_answer : ℕ → Result ℕ Refusal
  clock_answer p = cond (has v p) (Ok (clock v.plan v.links p)) (Err NoSuch)

  -- How many records the history of p has.
  abbrev pub count_answer : ℕ → Result ℕ Refusal
  count_answer p = cond (has v p) (Ok (length (history p v.log))) (Err NoSuch)

  -- The record at place n of the history of p.
  abbrev pub record_answer : ℕ → ℕ → Result Record Refusal
  record_answer p n = cond (has v p) (found (at (history p v.log) n)) (Err NoSuch)

  -- Whether the run is finished: it is as prepared, and the clock of every process is the horizon.
  abbrev pub done : Bool
  done = as_prepared v && each v.plan.processes (λ p. nat_eq (clock v.plan v.links p) v.plan.horizon)

module _ {C P : Type 0} (g : Program C P) where
  -- The processes below a number have stepped once each, rising, refused or not; and whether all these steps were quiet.
  pub data Pass (v : View C P) : ℕ → Bool → View C P → Type 0 where
    begins : Pass v 0 true v
    steps : {p : ℕ} {q : Bool} {w u : View C P} {r : Result (Stepped C) Refusal} → Pass v p q w → Step g w p r u → Pass v (suc p) (q && quiet r) u

  -- So many passes, of which only the last may be quiet; and whether it is.
  pub data Passes (v : View C P) : ℕ → Bool → View C P → Type 0 where
    none : Passes v 0 false v
    another : {n : ℕ} {q : Bool} {w u : View C P} → Passes v n false w → Pass w w.plan.processes q u → Passes v (suc n) q u

  -- Passes until one is quiet or n are made.
  pub record Runs (v : View C P) (n : ℕ) (a : Passed) (w : View C P) : Type 0 where
    pub passes : Passes v a.passes a.quiet w
    pub most : a.passes ≤ n
    pub all : a.quiet ≡ false → a.passes ≡ n

  -- One call in the run v: its answer, and the run after it. No question changes anything.
  abbrev pub Does : (c : Call) → View C P → Answer C c → View C P → Type 0
  Does (step p) v a w = Step g v p a w
  Does (run n) v a w = Runs v n a w
  Does (ask_clock p) v a w = (a ≡ clock_answer v p) × (w ≡ v)
  Does (ask_count p) v a w = (a ≡ count_answer v p) × (w ≡ v)
  Does (ask_record p n) v a w = (a ≡ record_answer v p n) × (w ≡ v)
  Does ask_rounds v a w = (a ≡ v.rounds) × (w ≡ v)
  Does ask_done v a w = (a ≡ done v) × (w ≡ v)
