-- What becomes of a net that is run until quiet.
use Rattle.std.specs.Prelude.{◌≡◌, ℕ, suc, true, false, List, [], ◌∷◌, ◌++◌, Ok, Err, vec_items}
use Rattle.model.specs.declared.answer.Passed.{Passed}
use Rattle.model.specs.declared.answer.Stepped.{Stepped}
use Rattle.model.specs.declared.refusal.Refusal.{Refusal}
use Rattle.model.specs.Numbers.{unprepared_numbers}
use Rattle.model.specs.Pile.{Pile}
use Rattle.model.specs.Sums.{largest}
use Rattle.records.specs.LogText.{number_line}
use Rattle.simulation.specs.Net.{Program, Net}
use Rattle.simulation.specs.View.{View}
use Rattle.simulation.specs.Step.{Step}
use Rattle.simulation.specs.Calls.{Runs, clock_answer, done}
use Rattle.simulation.specs.Prepare.{Prepares}
use Rattle.simulation.specs.Law.{Follows}
use Rattle.plan_to_log.specs.declared.output.Standing.{Standing}
use Rattle.plan_to_log.specs.declared.output.Ending.{Ending}
use Rattle.plan_to_log.specs.declared.output.Ending.TheVariants.{NotRead, NotPrepared, Finished, Unfinished}
use Rattle.plan_to_log.specs.Histories.{log_text}

-- The log of a run has room for so many records.
abbrev pub log_size : ℕ
log_size = 4096

module _ {C P : Type 0} (g : Program C P) where
  -- The processes below a number step once more, rising: those that are refused, with their clocks. One that is not there is passed over.
  pub data Refusals (v : View C P) : ℕ → List Standing → View C P → Type 0 where
    begins : Refusals v 0 [] v
    passes : {p : ℕ} {ss : List Standing} {w : View C P} {f : Refusal} → Refusals v p ss w → clock_answer w p ≡ Err f → Refusals v (suc p) ss w
    goes : {p : ℕ} {ss : List Standing} {w u : View C P} {a : Stepped C} → Refusals v p ss w → Step g w p (Ok a) u → Refusals v (suc p) ss u
    stands : {p t : ℕ} {ss : List Standing} {w u : View C P} {f : Refusal} → Refusals v p ss w → clock_answer w p ≡ Ok t → Step g w p (Err f) u
        → Refusals v (suc p) (ss ++ record { process = p; clock = t; why = f } ∷ []) u

  -- How a quiet run of so many processes is told: whether it is finished and, if not, whose steps are refused.
  abbrev pub Ended : View C P → ℕ → Ending → Type 0
  Ended run processes (NotRead fault) = ⊥
  Ended run processes (NotPrepared why) = ⊥
  Ended run processes Finished = done run ≡ true
  Ended run processes (Unfinished standing) = (done run ≡ false) × ((last : View C P) × Refusals run processes (vec_items standing) last)

  -- A run was run until quiet; these are the bytes of its log, and how it is told.
  pub record RanOut (begun : View C P) (processes : ℕ) (text : List ℕ) (ending : Ending) : Type 0 where
    pub passed : Passed
    pub run : View C P  -- as it stands then
    pub runs : Runs g begun largest passed run
    pub bytes : text ≡ log_text processes run.log
    pub ended : Ended run processes ending

  -- A net was prepared over the links m and run until quiet; these are the bytes of its log, and how it is told.
  pub record Logged (net : Net C P) (m : Pile C) (text : List ℕ) (ending : Ending) : Type 0 where
    pub begun : View C P
    pub prepared : Prepares net m log_size (Ok begun) begun.links
    pub ran : RanOut begun net.plan.processes text ending
    pub quiet : ran.passed.quiet ≡ true
    -- Each history is a beginning of the simulation's, and whole where the run is finished.
    pub follows : Follows g net ran.run

  -- What becomes of a net over the links m: its log, or the line of the refusal.
  abbrev pub Ran : Net C P → Pile C → List ℕ → Ending → Type 0
  Ran net m text (NotRead fault) = ⊥
  Ran net m text (NotPrepared why) = ((n : Pile C) × Prepares net m log_size (Err why) n) × (text ≡ number_line (unprepared_numbers why))
  Ran net m text Finished = Logged net m text Finished
  Ran net m text (Unfinished standing) = Logged net m text (Unfinished standing)
