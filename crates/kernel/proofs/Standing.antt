-- A run is as it was prepared.
use Rattle.std.proofs.Common.{◌≡◌, ℕ, ◌<◌, true, ◌&&◌, ltb, length, Some, sym, ap, ◌∙◌, arith, rules}
use Rattle.std.proofs.lemmas.Bool.{eq-eqb, lt-ltb, ltb-true, le-leb}
use Rattle.model.specs.declared.cargo.Cargo as Cargo
use Rattle.model.specs.declared.links.Links as Links
use Rattle.model.specs.declared.process.Process as Process
use Rattle.model.specs.Lists.{at}
use Rattle.simulation.specs.View.{View, has, as_prepared}
use Rattle.simulation.specs.Step.{Ready}
use Rattle.kernel.specs.declared.run.Run.{Run}
use Rattle.kernel.specs.OfRun.{view_of}

module _ {C P L : Type 0} {c : Cargo.Ghosts C} {p : Process.Ghosts P C} {l : Links.Ghosts L C} (r : Run C P L c p l) where
  abbrev v : View C P
  v = view_of r

  pub prepared_is : as_prepared v ≡ true
  prepared_is =
      let a = eq-eqb (length v.processes) v.plan.processes (sym r.processes.ok.0 ∙ r.peopled) in
      let b = eq-eqb v.links.count (length v.plan.links) r.joined in
      let c = le-leb (length v.log) v.room (omega (arith, r.log.ok.0, r.logged)) in
      search rules

  -- So what a test of a process tests is its number.
  pub has_is : (q : ℕ) → has v q ≡ ltb q v.plan.processes
  has_is q = ap (λ b. b && ltb q v.plan.processes) prepared_is

  pub has_there : (q : ℕ) → has v q ≡ true → q < v.plan.processes
  has_there q e = ltb-true q v.plan.processes (sym (has_is q) ∙ e)

  pub ready : (q : ℕ) (s : P) → q < v.plan.processes → at v.processes q ≡ Some s → Ready v q s
  ready q s h is = record { there = has_is q ∙ lt-ltb q v.plan.processes h; state = is }
