-- What differs between the families: their kinds of process, and their cargo.
use Rattle.std.specs.Prelude.{ℕ, Bool, true, false, cond, List, Ok, Err, Result}
use Rattle.std.specs.Result.{result_map_both}
use Rattle.road.specs.Kinds.{RoadProcess}
use Rattle.exit.specs.declared.kind.Kind.{Kind}
use Rattle.exit.specs.declared.kind.Kind.TheVariants as kind
use Rattle.road.specs.declared.vehicle.Vehicle.{Vehicle}
use Rattle.road.specs.Vehicles.{vehicle_of}
use Rattle.packet.specs.Kinds.{PacketProcess}
use Rattle.packet.specs.declared.frame.Frame.{Frame}
use Rattle.packet.specs.Frames.{frame_of}
use Rattle.model.specs.declared.opening.Opening.{Opening}
use Rattle.model.specs.declared.reading.Problem.TheVariants.{OutOfRange, UnknownWord}
use Rattle.model.specs.declared.reading.RecordFault.{RecordFault}
use Rattle.model.specs.declared.reading.RecordFault.TheVariants.{InField}
use Rattle.records.specs.Binding.{and_then}
use Rattle.records.specs.Rows.{Row, kind_of, number_of, cell, faulty}
use Rattle.records.specs.Cells.{made, ranged, unused_from, outside_of}
use Rattle.records.specs.Kinds.{signal_record, switch_record, exit_record}
use Rattle.records.specs.declared.reading.kinds.PlannedLink.{PlannedLink}
use Rattle.records.specs.declared.reading.words.Word.{Word}
use Rattle.records.specs.declared.reading.words.Word.TheVariants.{Signal, Switch, Exit}

-- How a family reads a process of its word as the next, and the cargo of an event.
abbrev pub ProcessReading : Type 0 → Type 0
ProcessReading P = ℕ → Word → Row → Result P RecordFault

abbrev pub CargoReading : Type 0 → Type 0
CargoReading C = Row → Result C RecordFault

-- A word that is out of order or of the other family.
abbrev pub misplaced_word : Row → RecordFault
misplaced_word r = InField (faulty (kind_of r) UnknownWord)

abbrev pub misplaced : {A : Type 0} → Row → Result A RecordFault
misplaced r = Err (misplaced_word r)

-- The processes of a family: exits, and nodes of a word of their own.
abbrev pub process_of : {J : Type 0} → (Word → Bool) → (ℕ → Row → Result J RecordFault) → ProcessReading (Kind J)
process_of named recorded next Exit r = result_map_both kind.Exit (λ e. e) (exit_record next r)
process_of named recorded next w r = cond (named w) (result_map_both kind.Node (λ e. e) (recorded next r)) (misplaced r)

-- Whether a word is that of a signal.
abbrev pub is_signal : Word → Bool
is_signal Signal = true
is_signal w = false

-- Whether a word is that of a switch.
abbrev pub is_switch : Word → Bool
is_switch Switch = true
is_switch w = false

-- Road: signals and exits.
abbrev pub road_process : ProcessReading RoadProcess
road_process = process_of is_signal signal_record

-- Switch: switches and exits.
abbrev pub switch_process : ProcessReading PacketProcess
switch_process = process_of is_switch switch_record

-- Vehicles: class, route. Two fields in range make one, so the last fault is for show only.
abbrev pub road_cargo : CargoReading Vehicle
road_cargo r =
    and_then InField (ranged 0 3 (cell r 4)) (λ class.
    and_then InField (ranged 0 65535 (cell r 5)) (λ route.
    and_then InField (made OutOfRange (cell r 4) (vehicle_of class route)) Ok))

-- Frames: destination, length. Two fields in range make one, so the last fault is for show only.
abbrev pub switch_cargo : CargoReading Frame
switch_cargo r =
    and_then InField (ranged 0 255 (cell r 4)) (λ destination.
    and_then InField (ranged 1 9000 (cell r 5)) (λ size.
    and_then InField (made OutOfRange (cell r 4) (frame_of destination size)) Ok))

-- event: link, time, cargo
abbrev pub event_of : {C : Type 0} → CargoReading C → List PlannedLink → Row → Result (Opening C) RecordFault
event_of loads links r =
    and_then InField (outside_of links (number_of r)) (λ k.
    and_then InField (ranged 0 1000000 (cell r 3)) (λ time.
    and_then (λ fault. fault) (loads r) (λ cargo.
    and_then InField (unused_from 6 r) (λ _.
    Ok (record { link = k; time = time; cargo = cargo })))))
