-- What a plan's text gives.
use Rattle.std.specs.Prelude.{ℕ, cond, List, [], ◌∷◌, length, Ok, Err, Result, nat_lt, vec_items, vec_capacity}
use Rattle.std.specs.Result.{result_map_both}
use Rattle.model.specs.declared.reading.RecordFault.{RecordFault}
use Rattle.model.specs.declared.reading.RecordFault.TheVariants.{InField}
use Rattle.model.specs.declared.reading.PlanFault.{PlanFault}
use Rattle.model.specs.declared.reading.PlanFault.TheVariants.{InRecord, TooLong, NoProcess}
use Rattle.road.specs.Kinds.{RoadProcess}
use Rattle.road.specs.declared.vehicle.Vehicle.{Vehicle}
use Rattle.packet.specs.Kinds.{PacketProcess}
use Rattle.packet.specs.declared.frame.Frame.{Frame}
use Rattle.text.specs.Fields.{Cut, cut_line}
use Rattle.text.specs.Lines.{lines_of}
use Rattle.records.specs.Binding.{and_then}
use Rattle.records.specs.Rows.{Row, kind_of, row_cut}
use Rattle.records.specs.Words.{word_of}
use Rattle.records.specs.Cells.{spelt}
use Rattle.records.specs.Kinds.{net_of}
use Rattle.records.specs.Families.{ProcessReading, CargoReading, misplaced, road_process, road_cargo, switch_process, switch_cargo}
use Rattle.records.specs.Filling.{Held, Room}
use Rattle.records.specs.Lines.{lines_taken}
use Rattle.records.specs.declared.reading.kinds.Net as net
use Rattle.records.specs.declared.reading.kinds.PlannedLink.{PlannedLink}
use Rattle.records.specs.declared.reading.lists.FamilyLists.{FamilyLists}
use Rattle.records.specs.declared.reading.lists.PlanLists.{PlanLists}
use Rattle.model.specs.declared.opening.Opening.{Opening}
use Rattle.records.specs.declared.reading.words.Family as words
use Rattle.records.specs.declared.reading.words.Family.TheVariants as family
use Rattle.records.specs.declared.reading.words.Word.{Word}
use Rattle.records.specs.declared.reading.words.Word.TheVariants.{Net, Signal, Switch, Exit, Link, Event}

-- The first record is a net record.
abbrev pub first_word : Word → Row → Result net.Net RecordFault
first_word Net r = net_of r
first_word Signal r = misplaced r
first_word Switch r = misplaced r
first_word Exit r = misplaced r
first_word Link r = misplaced r
first_word Event r = misplaced r

-- The first line, cut into fields.
abbrev pub first_cut : Cut → Result net.Net RecordFault
first_cut k =
    and_then (λ e. e) (row_cut 1 k) (λ r.
    and_then InField (spelt word_of (kind_of r)) (λ w.
    first_word w r))

-- What the lines behind the net record give in a family: the lists, and the net record if all is well.
abbrev pub FamilyRead : Type 0 → Type 0 → Type 0
FamilyRead P C = Held P C × Result net.Net PlanFault

abbrev pub family_taken : {P C : Type 0} → ProcessReading P → CargoReading C → Room → net.Net → List (List ℕ)
    → Held P C → FamilyRead P C
family_taken reads loads room header lines x =
    let q = lines_taken reads loads room
    (record { processes = length x.processes; links = length x.links; openings = length x.openings; places = header.places })
    2 lines x in
    (q.0, result_map_both (λ _. header) (λ e. e) q.1)

-- What the lists of one family hold, and how many items they have room for.
pub record Own (P C : Type 0) : Type 0 where
  pub processes : List P
  pub openings : List (Opening C)

pub record OwnRoom : Type 0 where
  pub processes : ℕ
  pub openings : ℕ

module _ {C P : Type 0} (x : FamilyLists C P) where
  abbrev pub own : Own P C
  own = record { processes = vec_items x.processes; openings = vec_items x.openings }

  abbrev pub own_room : OwnRoom
  own_room = record { processes = vec_capacity x.processes; openings = vec_capacity x.openings }

-- With the links.
abbrev pub with_links : {P C : Type 0} → Own P C → List PlannedLink → Held P C
with_links x links = record { processes = x.processes; links = links; openings = x.openings }

abbrev pub room_for : OwnRoom → ℕ → Room
room_for x links = record { processes = x.processes; links = links; openings = x.openings }

-- Without them.
abbrev pub own_of : {P C : Type 0} → Held P C → Own P C
own_of x = record { processes = x.processes; openings = x.openings }

-- What all of the caller's lists hold.
pub record AllHeld : Type 0 where
  pub roads : Own RoadProcess Vehicle
  pub switches : Own PacketProcess Frame
  pub links : List PlannedLink

-- How many items they have room for.
pub record AllRooms : Type 0 where
  pub roads : OwnRoom
  pub switches : OwnRoom
  pub links : ℕ

module _ (x : PlanLists) where
  abbrev pub all_held : AllHeld
  all_held = record { roads = own x.roads; switches = own x.switches; links = vec_items x.links }

  abbrev pub all_rooms : AllRooms
  all_rooms = record { roads = own_room x.roads; switches = own_room x.switches; links = vec_capacity x.links }

-- What the lists hold, and the answer: what the net record says, or a fault.
abbrev pub PlanRead : Type 0
PlanRead = AllHeld × Result net.Net PlanFault

-- The family decides which lists are filled.
abbrev pub in_family : words.Family → AllRooms → net.Net → List (List ℕ) → AllHeld → PlanRead
in_family family.Road room header lines x =
    let q = family_taken road_process road_cargo (room_for room.roads room.links) header lines (with_links x.roads x.links) in
    (record { roads = own_of q.0; switches = x.switches; links = q.0.links }, q.1)
in_family family.Switch room header lines x =
    let q = family_taken switch_process switch_cargo (room_for room.switches room.links) header lines (with_links x.switches x.links) in
    (record { roads = x.roads; switches = own_of q.0; links = q.0.links }, q.1)

-- The net record, and then the lines behind it.
abbrev pub after_first : Result net.Net RecordFault → AllRooms → List (List ℕ) → AllHeld → PlanRead
after_first (Err e) room lines x = (x, Err (InRecord e))
after_first (Ok header) room lines x = in_family header.family room header lines x

-- The lines of a plan. Without a line there is no process.
abbrev pub plan_lines : AllRooms → List (List ℕ) → AllHeld → PlanRead
plan_lines room [] x = (x, Err NoProcess)
plan_lines room (bytes ∷ lines) x = after_first (first_cut (cut_line bytes)) room lines x

-- A text of at most 65,536 bytes.
abbrev pub plan_of : AllRooms → List ℕ → AllHeld → PlanRead
plan_of room text x = cond (nat_lt 65536 (length text)) (x, Err TooLong) (plan_lines room (lines_of text) x)
