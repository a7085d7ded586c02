-- A net that is prepared and run until quiet follows the simulation.
use Rattle.std.proofs.Common.{◌≡◌, ℕ, List, [], Ok, subst}
use Rattle.model.specs.declared.opening.Opening.{Opening}
use Rattle.model.specs.Pile.{Pile}
use Rattle.model.specs.Shape.{Shape}
use Rattle.model.specs.Sums.{largest}
use Rattle.simulation.specs.Net.{Program, Net}
use Rattle.simulation.specs.View.{View}
use Rattle.simulation.specs.Calls.{Call}
use Rattle.simulation.specs.Prepare.{Prepares, After}
use Rattle.simulation.specs.Law.{Law}
use Rattle.simulation.specs.Rest.{Rests}
use Rattle.plan_to_log.specs.declared.output.Ending.{Ending}
use Rattle.plan_to_log.specs.declared.output.Ending.TheVariants.{NotRead, NotPrepared, Finished, Unfinished}
use Rattle.plan_to_log.specs.Running.{log_size, RanOut, Logged, Ran}

module _ {C P : Type 0} (g : Program C P) (law : Law g) (rests : Rests g) (net : Net C P) (m : Pile C) where
  logged : {begun : View C P} {text : List ℕ} {ending : Ending} → Prepares net m log_size (Ok begun) begun.links → After g net [] begun
      → RanOut g begun net.plan.processes text ending → Logged g net m text ending
  logged {begun} prepared first out =
      let after = After.called (Call.run largest) out.passed first out.runs in
      record {
        begun = begun;
        prepared = prepared;
        ran = out;
        quiet = rests net [] begun out.run out.passed first out.runs;
        follows = (law net out.run out.run _ _ after after).1;
      }

  ran_so : {begun : View C P} {text : List ℕ} (ending : Ending) → Prepares net m log_size (Ok begun) begun.links → After g net [] begun
      → RanOut g begun net.plan.processes text ending → Ran g net m text ending
  ran_so (NotRead fault) prepared first out = out.ended
  ran_so (NotPrepared why) prepared first out = absurd out.ended
  ran_so Finished prepared first out = logged prepared first out
  ran_so (Unfinished standing) prepared first out = logged prepared first out

  -- However it ends.
  pub ran : {begun : View C P} {text : List ℕ} {processes : ℕ} (ending : Ending) → processes ≡ net.plan.processes
      → Prepares net m log_size (Ok begun) begun.links → After g net [] begun
      → RanOut g begun processes text ending → Ran g net m text ending
  ran {begun} {text} ending as_many prepared first out = ran_so ending prepared first (subst (λ n. RanOut g begun n text ending) as_many out)

-- The same net over the same links, by other names.
pub ran_alike : {C P : Type 0} (g : Program C P) (ps : List P) (text : List ℕ) (ending : Ending) {s t : Shape} {os qs : List (Opening C)} {m n : Pile C}
    → s ≡ t → os ≡ qs → m ≡ n → Ran g (record { plan = s; processes = ps; opening = os }) m text ending
    → Ran g (record { plan = t; processes = ps; opening = qs }) n text ending
ran_alike g ps text ending {s} {t} {os} {qs} {m} {n} e f h r =
    subst (λ x. Ran g (record { plan = x; processes = ps; opening = qs }) n text ending) e
    (subst (λ x. Ran g (record { plan = s; processes = ps; opening = x }) n text ending) f
    (subst (λ x. Ran g (record { plan = s; processes = ps; opening = os }) x text ending) h r))

-- Over the same links, by another name.
pub ran_over : {C P : Type 0} (g : Program C P) (net : Net C P) (text : List ℕ) (ending : Ending) {m n : Pile C}
    → m ≡ n → Ran g net m text ending → Ran g net n text ending
ran_over g net text ending e r = subst (λ x. Ran g net x text ending) e r
