-- The safe events of the worked rows, link by link.
use Rattle.std.proofs.Common.{◌≡◌, ℕ, zero, suc, ◌<◌, ◌≢◌, ◌⊎◌, List, Some, Err, refl, inl, inr, arith, lit<}
use Rattle.model.specs.declared.event.Event.{Event}
use Rattle.model.specs.declared.refusal.Refusal.TheVariants.{Held}
use Rattle.model.specs.Shape.{target}
use Rattle.road.specs.Kinds.{RoadProcess}
use Rattle.road.specs.declared.vehicle.Vehicle.{Vehicle}
use Rattle.simulation.specs.Step.{Step}
use Rattle.simulation.specs.View.{View, Safe, link_clock}
use Rattle.simulation.proofs.Tests.{none_is_some}
use Rattle.layers.specs.Rationed.{rationed}
use Rattle.worked_rows.specs.Plan.{road_program, worked_plan}
use Rattle.worked_rows.specs.Safety.{three_in, one_waits_on, at_seven}
use Rattle.worked_rows.specs.Quotas.{store, arriving_at, one_waits, run_over}

-- The links 4 and 5 stand behind the event of the link 3.
behind_three : (j : ℕ) → target three_in j ≡ Some 1 → j ≢ 3
    → (7 < link_clock (one_waits_on 3) j) ⊎ ((link_clock (one_waits_on 3) j ≡ 7) × (3 < j))
behind_three zero e n = let z : ◌≡◌ {A = ℕ} 0 1 = cc in absurd (omega arith)
behind_three (suc zero) e n = let z : ◌≡◌ {A = ℕ} 0 1 = cc in absurd (omega arith)
behind_three (suc (suc zero)) e n = let z : ◌≡◌ {A = ℕ} 0 1 = cc in absurd (omega arith)
behind_three (suc (suc (suc zero))) e n = absurd (n refl)
behind_three (suc (suc (suc (suc zero)))) e n = inr (refl, lit< tt)
behind_three (suc (suc (suc (suc (suc zero))))) e n = inl (lit< tt)
behind_three (suc (suc (suc (suc (suc (suc j)))))) e n = none_is_some e

pub safe_on_three : Safe three_in (one_waits_on 3) 1 3 at_seven
safe_on_three = record { leads = refl; first = refl; soon = lit< tt; sure = behind_three }

-- At 7 the link 4 goes before the link 5.
pub not_on_five : ¬ (Safe three_in (one_waits_on 5) 1 5 at_seven)
not_on_five s =
    let none : (7 < 7) ⊎ ((◌≡◌ {A = ℕ} 7 7) × (5 < 4)) = s.sure 4 refl (λ e. absurd (omega (arith, e))) in
    omega (arith, none)

-- The junction has one in-link.
only_first : (j : ℕ) → target worked_plan j ≡ Some 0 → j ≡ 0
only_first zero e = refl
only_first (suc zero) e = let z : ◌≡◌ {A = ℕ} 1 0 = cc in absurd (omega arith)
only_first (suc (suc j)) e = none_is_some e

-- So its event is safe, whatever waits on its out-link and whatever is left of the quotas.
pub junction_safe : (sent : List (Event Vehicle)) (left : List ℕ)
    → Safe worked_plan (rationed (store sent) left) 0 0 (arriving_at 12)
junction_safe sent left = record { leads = refl; first = refl; soon = lit< tt; sure = λ j to n. absurd (n (only_first j to)) }

-- With a place free, no step is held.
pub not_held : (k : ℕ) (w : View Vehicle RoadProcess) → ¬ (Step road_program (run_over one_waits) 0 (Err (Held k)) w)
not_held k w (Step.held ready safe full) = none_is_some full
