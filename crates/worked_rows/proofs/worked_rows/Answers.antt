use Rattle.std.proofs.Common.{refl}
use Rattle.simulation.specs.Step.{Step}
use Rattle.worked_rows.specs.Quotas.{both, second, left_with_both, left_with_second}
use Rattle.worked_rows.proofs.SafeEvents.{safe_on_three, not_on_five, junction_safe, not_held}
use Rattle.worked_rows.proofs.worked_rows.Goals as goal

pub returns : goal.returns
returns c = record {
  made_as_settled = record {
    vehicle_made = refl;
    junction_made = refl;
    way_out_made = refl;
    plan_within = record { within = refl; as_many = refl };
  };
  plan_simulated = record {
    nothing_left = refl;
    none_pending_at_junction = refl;
    none_pending_at_way_out = refl;
    none_stopped = λ p l. refl;
    junction_history = refl;
    way_out_history = refl;
    four_events = refl;
    smallest_reach = refl;
    round_figure_eight = refl;
  };
  starts = record { last_of_green = refl; first_of_red = refl; ten_ahead = refl };
  routes = record { last_turn_goes = refl; zero_route = refl };
  served = record { below_a_cell = refl; one_cell = refl };
  at_the_floor = record { lower_link_safe = safe_on_three; higher_link_not = not_on_five };
  sendings = record { one_too_soon = refl; just_in_time = refl };
  holding = record {
    quota_with_two = refl;
    quota_with_one = refl;
    safe_with_two = junction_safe both left_with_both;
    safe_with_one = junction_safe second left_with_second;
    full_with_two = refl;
    free_with_one = refl;
    held_with_two = Step.held (record { there = refl; state = refl }) (junction_safe both left_with_both) refl;
    not_held_with_one = not_held;
  };
}
