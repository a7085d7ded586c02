-- What a ring means.
use Rattle.std.specs.Prelude.{◌≡◌, ℕ, ◌-◌, ◌/◌, ◌<◌, cond, List, [], Ok, Err, Result}
use Rattle.model.specs.declared.event.Event.{Event}
use Rattle.model.specs.declared.fault.LinkFault.{LinkFault}
use Rattle.model.specs.Pile.{Pile}
use Rattle.model.specs.Linking.{Timely, AskFails, NullFails}
use Rattle.slots.specs.Walk.{walk}
use Rattle.slots.specs.Empty.{suitable, empty}
use Rattle.ring.specs.declared.lane.Lane.{Lane}
use Rattle.ring.specs.declared.store.Ring.{Ring}
use Rattle.ring.specs.Shape.{row, spot}

module _ {C : Type 0} where
  -- On each link wait the events in its slots from its head on, as many as its length says.
  abbrev pub pile_of : ℕ → ℕ → List (Event C) → List Lane → Pile C
  pile_of links size slots lanes = record {
    count = links;
    waiting = λ k. walk slots (spot size k (row lanes k).head) (row lanes k).len;
    floor = λ k. (row lanes k).floor;
    delay = λ k. 0;
    free = λ k. size - (row lanes k).len;
    capacity = λ k. size;
    quotas = λ k. [];
  }

  abbrev pub meaning_of : Ring C → Pile C
  meaning_of r = pile_of r.links r.size r.slots.now r.lanes

  -- A ring just made of n slots: they are shared out evenly among the links, or there are no links.
  abbrev pub opened : ℕ → ℕ → Pile C
  opened links n = cond (suitable links n) (empty links (n / links)) (empty 0 0)

  -- The lane of the link k is looked up.
  abbrev pub Looked : Ring C → ℕ → Result Lane LinkFault → Type 0
  Looked r k (Ok lane) = (k < r.links) × (lane ≡ row r.lanes k)
  Looked r k (Err fault) = AskFails (meaning_of r) k fault

  -- The lane of the link k is looked up, to put something there at time t.
  abbrev pub LookedAt : Ring C → ℕ → ℕ → Result Lane LinkFault → Type 0
  LookedAt r k t (Ok lane) = Timely (meaning_of r) k t × (lane ≡ row r.lanes k)
  LookedAt r k t (Err fault) = NullFails (meaning_of r) k t fault
