-- The net and the links that stand for what was read of a plan.
use Rattle.std.specs.Prelude.{ℕ, ◌*◌, List, length, vec_items}
use Rattle.model.specs.declared.link.Link.{Link}
use Rattle.model.specs.declared.opening.Opening.{Opening}
use Rattle.model.specs.Pile.{Pile}
use Rattle.ring.specs.Meaning as ring
use Rattle.records.specs.declared.reading.kinds.Net as header
use Rattle.records.specs.declared.reading.kinds.PlannedLink.{PlannedLink}
use Rattle.records.specs.declared.reading.words.Store.{Store}
use Rattle.records.specs.declared.reading.words.Store.TheVariants.{Ring, Pool}
use Rattle.simulation.specs.Net.{Net}
use Rattle.plan_to_log.specs.declared.reading.Reading.{Reading}
use Rattle.plan_to_log.specs.Sensible.{shaped}
use Rattle.plan_to_log.specs.Stack.{links_in, stack_of}

-- The net of these processes, links and opening events.
abbrev pub net_of : {C P : Type 0} → header.Net → List P → List Link → List (Opening C) → Net C P
net_of h processes links opening = record { plan = shaped h.horizon (length processes) links; processes = processes; opening = opening }

-- The store that a plan gets, with so many places for each of so many links: for now a ring, whichever it names.
abbrev pub store_of : {C : Type 0} → Store → ℕ → ℕ → Pile C
store_of Ring links places = ring.opened links (links * places)
store_of Pool links places = ring.opened links (links * places)

-- Delay over quota over that store, set as planned.
abbrev pub links_of : {C : Type 0} → header.Net → List PlannedLink → Pile C
links_of h planned = stack_of (store_of h.store (length planned) h.places) planned

module _ {C P : Type 0} (r : Reading C P) where
  abbrev pub reading_net : Net C P
  reading_net = net_of r.net (vec_items r.processes) (links_in (vec_items r.links)) (vec_items r.opening)

  -- Delay over quota over this store, set as planned.
  abbrev pub reading_over : Pile C → Pile C
  reading_over store = stack_of store (vec_items r.links)
