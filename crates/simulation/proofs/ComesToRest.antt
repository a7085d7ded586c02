-- A run that may make enough passes ends quiet: its patience does not last for as many that are not.
use Rattle.std.proofs.Common.{◌≡◌, ℕ, ◌≤◌, Bool, true, false, List, refl, arith}
use Rattle.model.specs.Sums.{largest}
use Rattle.model.proofs.Limits as model
use Rattle.simulation.specs.Net.{Program, Net}
use Rattle.simulation.specs.View.{View}
use Rattle.simulation.specs.Calls.{Call, Passes}
use Rattle.simulation.specs.Prepare.{Prepared, After}
use Rattle.simulation.specs.Rest.{Rests}
use Rattle.simulation.proofs.PlanLimits.{delay_below}
use Rattle.simulation.proofs.PreparedRun.{prepared_shows}
use Rattle.simulation.proofs.KeptByCalls.{kept_after}
use Rattle.simulation.proofs.Patience.{Limited, patience_most, step_wears, passes_wear}

module _ {C P : Type 0} (g : Program C P) (short : (s : P) → g.lookahead s ≤ 10000) where
  -- A run just prepared is within the limits of its plan.
  prepared_limited : (net : Net C P) (v : View C P) → Prepared net v → Limited v
  prepared_limited net v pd =
      let s = prepared_shows g net v pd in
      let n = model.limits net.plan pd.limits.within in
      let c = s.links.count in
      let few = n.few_links in
      record {
        near = record {
          few = omega arith;
          delays = λ k l. let d = s.links.delays k (omega arith) in let b = delay_below net.plan pd.limits.within k in omega arith;
        };
        horizon = rw s.plan n.near;
        room = pd.room;
      }

  -- So it is after any calls.
  after_limited : {net : Net C P} {cs : List Call} {v : View C P} → After g net cs v → Limited v
  after_limited {net = net} = kept_after g Limited (λ v w p r l s. (step_wears g short v w p r l s).limited) net (prepared_limited net)

  -- No run makes more passes than this without a quiet one.
  pub passes_most : {net : Net C P} {cs : List Call} {v w : View C P} {n : ℕ} → After g net cs v → Passes g v n false w → n ≤ 130625536
  passes_most {v = v} a x =
      let l = after_limited a in
      let b = (passes_wear g short l x refl).1 in
      let m = patience_most v l in
      omega arith

  -- So a run that may make more ends quiet.
  pub rests : Rests g
  rests net cs v w a after runs = go a.quiet runs.passes runs.all
    where
      go : (q : Bool) → Passes g v a.passes q w → (q ≡ false → a.passes ≡ largest) → q ≡ true
      go true x all = refl
      go false x all = let m = passes_most after x in let e = all refl in absurd (omega arith)
