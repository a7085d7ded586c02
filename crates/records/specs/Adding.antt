-- What one record adds to the lists, and why it may be refused then.
use Rattle.std.specs.Prelude.{ℕ, ◌+◌, ◌*◌, Bool, cond, ◌&&◌, List, [], ◌∷◌, ◌++◌, map, length, drop, Some, None, Ok, Err, fold, Option, Result, ◌==◌, nat_le, nat_lt}
use Rattle.model.specs.Shape.{leaving}
use Rattle.model.specs.declared.link.Link as link
use Rattle.model.specs.declared.opening.Opening.{Opening}
use Rattle.model.specs.declared.reading.RecordFault.{RecordFault}
use Rattle.model.specs.declared.reading.RecordFault.TheVariants.{InField, TooMany, BackInTime}
use Rattle.text.specs.Fields.{Cut}
use Rattle.records.specs.Rows.{Row, kind_of, row_cut}
use Rattle.records.specs.Words.{word_of}
use Rattle.records.specs.Cells.{spelt}
use Rattle.records.specs.Kinds.{link_of}
use Rattle.records.specs.Families.{ProcessReading, CargoReading, misplaced, event_of}
use Rattle.records.specs.Filling.{Held, Room}
use Rattle.records.specs.declared.reading.kinds.PlannedLink.{PlannedLink}
use Rattle.records.specs.declared.reading.lists.Starts.{Starts}
use Rattle.records.specs.declared.reading.words.Word.{Word}
use Rattle.records.specs.declared.reading.words.Word.TheVariants.{Net, Signal, Switch, Exit, Link, Event}

-- What the lists hold after a record, and the answer to it.
abbrev pub Taken : Type 0 → Type 0 → Type 0
Taken P C = Held P C × Result (Unit {0}) RecordFault

-- Goes on with what was read; a fault leaves the lists as they are.
abbrev pub taking : {P C T E : Type 0} → (E → RecordFault) → Result T E → Held P C → (T → Taken P C) → Taken P C
taking up (Ok t) x go = go t
taking up (Err e) x go = (x, Err (up e))

-- The time of the last of these events on a link; 0 if there is none.
abbrev pub former : {C : Type 0} → ℕ → List (Opening C) → ℕ
former k os = fold (λ t o. cond (o.link == k) o.time t) 0 os

-- How many of these links lead from the same process; from outside any number may.
abbrev pub from_same : List PlannedLink → Option ℕ → ℕ
from_same links None = 0
from_same links (Some p) = length (leaving (map (λ planned. planned.link) links) p)

-- At most 128 links, 8 of them from one process, and 4,096 places in all.
abbrev pub link_fits : ℕ → List PlannedLink → link.Link → Bool
link_fits places links l =
    nat_lt (length links) 128 && (nat_lt (from_same links l.from) 8 && nat_le ((length links + 1) * places) 4096)

module _ {P C : Type 0} (room : Room) (from : Starts) where
  -- A process goes behind the others: 64 at most, and as many as the list has room for.
  abbrev pub process_added : ℕ → P → Held P C → Taken P C
  process_added line p x =
      cond (nat_lt (length (drop from.processes x.processes)) 64 && nat_lt (length x.processes) room.processes)
      (record { processes = x.processes ++ p ∷ []; links = x.links; openings = x.openings }, Ok tt)
      (x, Err (TooMany line))

  -- A link goes behind the others if it fits and the list has room.
  abbrev pub link_added : ℕ → PlannedLink → Held P C → Taken P C
  link_added line p x =
      cond (link_fits from.places (drop from.links x.links) p.link && nat_lt (length x.links) room.links)
      (record { processes = x.processes; links = x.links ++ p ∷ []; openings = x.openings }, Ok tt)
      (x, Err (TooMany line))

  -- An event goes behind the others if the list has room, and it is not before the former one on its link.
  abbrev pub event_added : ℕ → Opening C → Held P C → Taken P C
  event_added line o x =
      cond (nat_lt (length x.openings) room.openings)
      (cond (nat_le (former o.link (drop from.openings x.openings)) o.time)
      (record { processes = x.processes; links = x.links; openings = x.openings ++ o ∷ [] }, Ok tt)
      (x, Err (BackInTime line)))
      (x, Err (TooMany line))

  -- A process record: out of order behind a link or an event.
  abbrev pub process_taken : ProcessReading P → Word → Row → Held P C → Taken P C
  process_taken reads w r x =
      cond (length (drop from.links x.links) == 0 && length (drop from.openings x.openings) == 0)
      (taking (λ e. e) (reads (length (drop from.processes x.processes)) w r) x (λ p. process_added r.line p x))
      (x, misplaced r)

  -- A link record: out of order behind an event.
  abbrev pub link_taken : Row → Held P C → Taken P C
  link_taken r x =
      cond (length (drop from.openings x.openings) == 0)
      (taking (λ e. e) (link_of (length (drop from.links x.links)) (length (drop from.processes x.processes)) r) x (λ p. link_added r.line p x))
      (x, misplaced r)

  -- An event record.
  abbrev pub event_taken : CargoReading C → Row → Held P C → Taken P C
  event_taken loads r x = taking (λ e. e) (event_of loads (drop from.links x.links) r) x (λ o. event_added r.line o x)

module _ {P C : Type 0} (reads : ProcessReading P) (loads : CargoReading C) (room : Room) (from : Starts) where
  -- One record by its word. A second net record is out of order.
  abbrev pub word_taken : Word → Row → Held P C → Taken P C
  word_taken Net r x = (x, misplaced r)
  word_taken Signal r x = process_taken room from reads Signal r x
  word_taken Switch r x = process_taken room from reads Switch r x
  word_taken Exit r x = process_taken room from reads Exit r x
  word_taken Link r x = link_taken room from r x
  word_taken Event r x = event_taken room from loads r x

  -- One record: its word comes first.
  abbrev pub record_taken : Row → Held P C → Taken P C
  record_taken r x = taking InField (spelt word_of (kind_of r)) x (λ w. word_taken w r x)

  -- One line that was cut into fields.
  abbrev pub line_taken : ℕ → Cut → Held P C → Taken P C
  line_taken line k x = taking (λ e. e) (row_cut line k) x (λ r. record_taken r x)
