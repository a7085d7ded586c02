-- The smallest reach of a net is no larger than any, and 1 or more.
use Rattle.std.proofs.Common.{◌≡◌, ℕ, zero, suc, ◌+◌, ◌<◌, ◌≤◌, length, Some, None, Option, ap, ◌∙◌, ⊎_elim, arith}
use mathlib.Core.Logic.{by_cases}
use native.Mathlib.Decide.{ℕ_discrete}
use Rattle.model.specs.Shape.{source, delay}
use Rattle.simulation.specs.Net.{Program, Net}
use Rattle.simulation.specs.Simulation.{lesser, reach, with_reach, least_reach}
use Rattle.simulation.specs.Prepare.{Limits}
use Rattle.simulation.proofs.System.{System}
use Rattle.simulation.proofs.Rounds.{Bounds, Positive}
use Rattle.simulation.proofs.PlanLimits.{source_cases}
use Rattle.simulation.proofs.OfNet.{Reaching, or_outside, system}

-- The smaller of two is no larger than the one.
lesser_one : (r : ℕ) (o : Option ℕ) → lesser r o ≤ r
lesser_one r None = omega arith
lesser_one r (Some q) = omega arith

-- Nor than the other.
lesser_other : (r : ℕ) (o : Option ℕ) (b : ℕ) → Bounds o b → lesser r o ≤ b
lesser_other r None b l = absurd l
lesser_other r (Some q) b l = omega arith

-- If both are 1 or more, so is the smaller.
lesser_positive : (r : ℕ) (o : Option ℕ) → 1 ≤ r → Positive o → 1 ≤ lesser r o
lesser_positive r None l p = l
lesser_positive r (Some q) l p = omega arith

module _ {C P : Type 0} (g : Program C P) (net : Net C P) (limits : Limits net) where
  -- The net as a system.
  abbrev N : System C (Option P)
  N = system g net

  -- A link from outside leaves the smallest reach.
  with_outside : (m : ℕ) → source net.plan m ≡ None → least_reach g net (suc m) ≡ least_reach g net m
  with_outside m e = ap (λ (o : Option ℕ). with_reach g net m o (least_reach g net m)) e

  -- A link from a process may have a smaller one.
  with_inside : (m p : ℕ) → source net.plan m ≡ Some p → least_reach g net (suc m) ≡ Some (lesser (reach g net p m) (least_reach g net m))
  with_inside m p e = ap (λ (o : Option ℕ). with_reach g net m o (least_reach g net m)) e

  -- No link from a process has a smaller reach.
  pub reach_bounds : (m k : ℕ) → m ≤ length net.plan.links → k < m → N.source k < net.plan.processes
      → Bounds (least_reach g net m) (N.lookahead (N.source k) + delay net.plan k)
  reach_bounds zero k i l q = absurd (omega arith)
  reach_bounds (suc m) k i l q = ⊎_elim
      (λ s. rw (with_outside m s) (by_cases (ℕ_discrete k m)
      (λ e. let z : N.source k ≡ net.plan.processes = ap (λ (j : ℕ). N.source j) e ∙ ap (or_outside g net) s in absurd (omega arith))
      (λ d. reach_bounds m k (omega arith) (omega arith) q)))
      (λ s. rw (with_inside m s.0 s.1) (by_cases (ℕ_discrete k m)
      (λ e. let z : N.source k ≡ s.0 = ap (λ (j : ℕ). N.source j) e ∙ ap (or_outside g net) s.1 in
      rw (z, e) (lesser_one (reach g net s.0 m) (least_reach g net m)))
      (λ d. lesser_other (reach g net s.0 m) (least_reach g net m) (N.lookahead (N.source k) + delay net.plan k)
      (reach_bounds m k (omega arith) (omega arith) q))))
      (source_cases net.plan limits.within m (omega arith))

  -- The smallest reach is 1 or more.
  pub reach_positive : Reaching g net → (m : ℕ) → m ≤ length net.plan.links → Positive (least_reach g net m)
  reach_positive far zero l = tt
  reach_positive far (suc m) l = ⊎_elim
      (λ s. rw (with_outside m s) (reach_positive far m (omega arith)))
      (λ s. rw (with_inside m s.0 s.1) (lesser_positive (reach g net s.0 m) (least_reach g net m) (far m s.0 s.1 s.2) (reach_positive far m (omega arith))))
      (source_cases net.plan limits.within m (omega arith))
