-- A sender is held while the quota of its out-link is used up.
use Rattle.std.specs.Prelude.{◌≡◌, ℕ, ◌-◌, false, cond, List, [], ◌∷◌, length, Some, None, Err, ◌==◌}
use Rattle.model.specs.declared.event.Event.{Event}
use Rattle.model.specs.declared.refusal.Refusal.TheVariants.{Held}
use Rattle.model.specs.Pile.{Pile}
use Rattle.model.specs.Shape.{out_links}
use Rattle.road.specs.Kinds.{RoadProcess}
use Rattle.road.specs.declared.vehicle.Vehicle.{Vehicle}
use Rattle.simulation.specs.Step.{Step, first_full}
use Rattle.simulation.specs.View.{View, Safe}
use Rattle.layers.specs.Rationed.{rationed, quota_of}
use Rattle.worked_rows.specs.Plan.{road_program, worked_plan, worked_net, vehicle}

-- The vehicle, arriving at a time.
abbrev pub arriving_at : ℕ → Event Vehicle
arriving_at time = record { time = time; cargo = vehicle }

-- The links of the worked plan, with eight places each: one vehicle waits at the junction, and these wait on its out-link.
abbrev pub store : List (Event Vehicle) → Pile Vehicle
store sent = record {
  count = 2;
  waiting = λ k. cond (k == 0) (arriving_at 12 ∷ []) sent;
  floor = λ k. cond (k == 0) 100 37;
  delay = λ k. cond (k == 0) 0 20;
  free = λ k. cond (k == 0) 7 (8 - length sent);
  capacity = λ k. 8;
  quotas = λ k. [];
}

-- What waits on the out-link: two vehicles, or only the second.
abbrev pub both : List (Event Vehicle)
both = arriving_at 35 ∷ arriving_at 37 ∷ []

abbrev pub second : List (Event Vehicle)
second = arriving_at 37 ∷ []

-- What is left of each quota then: on the out-link nothing, or one.
abbrev pub left_with_both : List ℕ
left_with_both = 7 ∷ 0 ∷ []

abbrev pub left_with_second : List ℕ
left_with_second = 7 ∷ 1 ∷ []

-- The links under their quotas.
abbrev pub two_wait : Pile Vehicle
two_wait = rationed (store both) left_with_both

abbrev pub one_waits : Pile Vehicle
one_waits = rationed (store second) left_with_second

-- A run of the worked plan over such links, with nothing in its log.
abbrev pub run_over : Pile Vehicle → View Vehicle RoadProcess
run_over links = record {
  plan = worked_plan;
  processes = worked_net.processes;
  links = links;
  log = [];
  room = 16;
  marked = λ p. false;
  rounds = 0;
}

-- The quota of the out-link is 2 both times, and the junction has a safe event both times.
pub record Holding : Type 0 where
  pub quota_with_two : quota_of (store both) left_with_both 1 ≡ 2
  pub quota_with_one : quota_of (store second) left_with_second 1 ≡ 2
  pub safe_with_two : Safe worked_plan two_wait 0 0 (arriving_at 12)
  pub safe_with_one : Safe worked_plan one_waits 0 0 (arriving_at 12)
  pub full_with_two : first_full two_wait (out_links worked_plan 0) ≡ Some 1
  pub free_with_one : first_full one_waits (out_links worked_plan 0) ≡ None
  pub held_with_two : Step road_program (run_over two_wait) 0 (Err (Held 1)) (run_over two_wait)
  pub not_held_with_one : (k : ℕ) (w : View Vehicle RoadProcess) → ¬ (Step road_program (run_over one_waits) 0 (Err (Held k)) w)
