-- Which events are safe, and which sendings are early.
use Rattle.std.specs.Prelude.{◌≡◌, ℕ, ◌+◌, cond, [], ◌∷◌, Some, None, ◌==◌}
use Rattle.model.specs.declared.event.Event.{Event}
use Rattle.model.specs.declared.link.Link.{Link}
use Rattle.model.specs.declared.refusal.Cause.TheVariants.{Early}
use Rattle.model.specs.Pile.{Pile}
use Rattle.model.specs.Shape.{Shape}
use Rattle.road.specs.Signals.{signal_lookahead}
use Rattle.simulation.specs.Net.{cause_of}
use Rattle.simulation.specs.View.{Safe}
use Rattle.worked_rows.specs.Plan.{junction}

-- A link from outside to the process 0 or 1.
abbrev pub leading_to : ℕ → Link
leading_to p = record { from = None; to = p; delay = 0 }

-- The links 3, 4 and 5 lead to the process 1, and the others to the process 0.
abbrev pub three_in : Shape
three_in = record {
  horizon = 100;
  processes = 2;
  links = leading_to 0 ∷ leading_to 0 ∷ leading_to 0 ∷ leading_to 1 ∷ leading_to 1 ∷ leading_to 1 ∷ [];
}

-- The cargo is a number.
abbrev pub at_seven : Event ℕ
at_seven = record { time = 7; cargo = 0 }

-- An event at 7 waits on the link k alone. The floor of the link 4 is 7, and that of every other 20.
abbrev pub one_waits_on : ℕ → Pile ℕ
one_waits_on k = record {
  count = 6;
  waiting = λ j. cond (j == k) (at_seven ∷ []) [];
  floor = λ j. cond (j == 4) 7 20;
  delay = λ j. 0;
  free = λ j. 8;
  capacity = λ j. 9;
  quotas = λ j. [];
}

-- The link 4 is empty: at its floor an event of a lower link is safe, and one of a higher link is not.
pub record AtTheFloor : Type 0 where
  pub lower_link_safe : Safe three_in (one_waits_on 3) 1 3 at_seven
  pub higher_link_not : ¬ (Safe three_in (one_waits_on 5) 1 5 at_seven)

-- The junction, whose lookahead is 5, handles an event at 10 and sends on a link without delay that nothing was put on.
pub record Sendings : Type 0 where
  pub one_too_soon : cause_of (10 + signal_lookahead junction) 14 14 0 ≡ Some Early
  pub just_in_time : cause_of (10 + signal_lookahead junction) 15 15 0 ≡ None
