-- A run just prepared is where the kernel of histories begins.
use Rattle.std.proofs.Common.{◌≡◌, ℕ, ◌+◌, ◌<◌, max, false, cond, [], ◌++◌, reverse, length, Option, sym, ap, ◌∙◌, ap₂, ⊎_elim, arith}
use mathlib.Core.List.{reverse-reverse}
use mathlib.Core.Logic.{if_pos, if_neg}
use native.Mathlib.Decide.{dec_lt}
use Rattle.model.specs.Lists.{at, is_none}
use Rattle.model.specs.Shape.{source, delay}
use Rattle.simulation.specs.Net.{Program, Net}
use Rattle.simulation.specs.Simulation.{last_arrival, opening_on}
use Rattle.simulation.specs.View.{View, history}
use Rattle.simulation.specs.Prepare.{Prepared}
use Rattle.simulation.proofs.Places.{elem_numbers}
use Rattle.simulation.proofs.System.{System, Rising, newest, taken, state, sent}
use Rattle.simulation.proofs.Kernel.{opened_floor, nulled_floor, first_floor, boot}
use Rattle.simulation.proofs.PlanLimits.{source_cases}
use Rattle.simulation.proofs.OfNet.{or_outside, system}
use Rattle.simulation.proofs.SimulationCourse.{last_newest}
use Rattle.simulation.proofs.NullsAndOpenings.{told, Opened, opened}
use Rattle.simulation.proofs.LinksOfRun.{Holds}
use Rattle.simulation.proofs.StepsOfRun.{Shows}

module _ {C P : Type 0} (g : Program C P) (net : Net C P) (v : View C P) (pd : Prepared net v) where
  -- The net as a system.
  abbrev N : System C (Option P)
  N = system g net

  -- What the opening events made of the links.
  abbrev op : Opened net net.opening pd.fresh pd.opened
  op = opened net (λ j l. (pd.fits j l).delay) pd.opens

  -- The floor of a link once the null is put where it comes from outside.
  floor_there : (k : ℕ) → k < length net.plan.links → (f : ℕ) → f ≡ opened_floor N k → (d : ℕ) → d ≡ delay net.plan k
      → cond (is_none (source net.plan k)) (max f (net.plan.horizon + d)) f ≡ first_floor N k
  unfolding first_floor
  floor_there k l f e d i = ⊎_elim
      (λ s. let n : N.source k ≡ net.plan.processes = ap (or_outside g net) s in
      ap (λ (z : Option ℕ). cond (is_none z) (max f (net.plan.horizon + d)) f) s
      ∙ ap₂ (λ (a b : ℕ). max a (net.plan.horizon + b)) e i
      ∙ sym (if_neg (dec_lt (N.source k) net.plan.processes) (λ j. omega arith) (opened_floor N k) (nulled_floor N k)))
      (λ s. let n : N.source k ≡ s.0 = ap (or_outside g net) s.1 in
      let j = s.2 in
      ap (λ (z : Option ℕ). cond (is_none z) (max f (net.plan.horizon + d)) f) s.1
      ∙ e
      ∙ sym (if_pos (dec_lt (N.source k) net.plan.processes) (omega arith) (opened_floor N k) (nulled_floor N k)))
      (source_cases net.plan pd.limits.within k l)

  -- The links hold what a kernel says that has just been prepared.
  prepared_holds : Holds g net v.links (boot N)
  unfolding taken sent newest
  prepared_holds =
      let t = told pd.tell in
      let c0 = pd.count in
      let c1 = op.count in
      record {
        count = t.count ∙ op.count ∙ pd.count;
        delays = λ k l. t.delay k (omega arith) ∙ op.delays k (omega arith);
        queues = λ k l. t.waiting k (omega arith) ∙ op.waiting k (omega arith)
            ∙ ap (λ xs. xs ++ opening_on net k net.opening) (pd.fits k (omega arith)).fresh.empty
            ∙ sym (reverse-reverse (opening_on net k net.opening));
        floors = λ k l.
            let f : pd.opened.floor k ≡ opened_floor N k =
            op.floor k (omega arith)
            ∙ ap (λ (n : ℕ). last_arrival n (opening_on net k net.opening)) ((pd.fits k (omega arith)).fresh.floor ∙ (pd.fits k (omega arith)).delay)
            ∙ last_newest (delay net.plan k) (opening_on net k net.opening) [] in
            t.floor k (omega arith)
            ∙ ap (λ b. cond b (max (pd.opened.floor k) (net.plan.horizon + pd.opened.delay k)) (pd.opened.floor k))
            (elem_numbers (length net.plan.links) (λ j. is_none (source net.plan j)) k l)
            ∙ floor_there k l (pd.opened.floor k) f (pd.opened.delay k) (op.delays k (omega arith));
      }

  -- The opening events of a link, as they were put, rise.
  pub opening_rising : (k : ℕ) → k < length net.plan.links → Rising (reverse (opening_on net k net.opening))
  opening_rising k l = let c = pd.count in op.rising k (omega arith) [] (unfold Rising in tt) (unfold newest in omega arith)

  -- And the run is where it is.
  pub prepared_shows : Shows g net v (record { kernel = boot N; marked = λ (q : ℕ). false; rounds = 0 })
  unfolding state
  prepared_shows = let r = pd.rounds in record {
    plan = pd.plan;
    links = prepared_holds;
    states = λ p. ap (λ xs. at xs p) pd.processes;
    histories = λ p. ap (history p) pd.log;
    marked = pd.marked;
    rounds = omega arith;
  }
