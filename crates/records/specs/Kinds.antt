-- The kinds of record: their fields behind the word, from the left, and the first fault is the answer.
use Rattle.std.specs.Prelude.{ℕ, ◌-◌, Ok, Result}
use Rattle.exit.specs.declared.Exit.{Exit}
use Rattle.exit.specs.Exits.{exit_of}
use Rattle.road.specs.declared.signal.Signal.{Signal}
use Rattle.road.specs.Signals.{signal_of}
use Rattle.packet.specs.declared.switch.Switch.{Switch}
use Rattle.packet.specs.Switches.{switch_of}
use Rattle.model.specs.declared.reading.Problem.TheVariants.{OutOfRange}
use Rattle.model.specs.declared.reading.RecordFault.{RecordFault}
use Rattle.model.specs.declared.reading.RecordFault.TheVariants.{InField}
use Rattle.records.specs.Binding.{and_then}
use Rattle.records.specs.Rows.{Row, number_of, cell}
use Rattle.records.specs.Words.{family_of, store_of}
use Rattle.records.specs.Cells.{made, spelt, ranged, next_of, unused_from, existing_of, source_of, quota_of}
use Rattle.records.specs.declared.reading.kinds.Net.{Net}
use Rattle.records.specs.declared.reading.kinds.PlannedLink.{PlannedLink}

-- net: family, horizon, places for each link, store
abbrev pub net_of : Row → Result Net RecordFault
net_of r =
    and_then InField (spelt family_of (number_of r)) (λ fam.
    and_then InField (ranged 1 1000000 (cell r 3)) (λ horizon.
    and_then InField (ranged 4 1024 (cell r 4)) (λ places.
    and_then InField (spelt store_of (cell r 5)) (λ store.
    and_then InField (unused_from 6 r) (λ _.
    Ok (record { family = fam; horizon = horizon; places = places; store = store }))))))

-- signal: number, lookahead, cycle, green, offset, headway, crossing.
-- Where its fields are in range there is one, so the last fault is for show only.
abbrev pub signal_record : ℕ → Row → Result Signal RecordFault
signal_record next r =
    and_then InField (next_of next (number_of r)) (λ _.
    and_then InField (ranged 1 10000 (cell r 3)) (λ lookahead.
    and_then InField (ranged 1 10000 (cell r 4)) (λ cycle.
    and_then InField (ranged 1 cycle (cell r 5)) (λ green.
    and_then InField (ranged 0 (cycle - 1) (cell r 6)) (λ offset.
    and_then InField (ranged 1 10000 (cell r 7)) (λ headway.
    and_then InField (ranged 1 10000 (cell r 8)) (λ crossing.
    and_then InField (unused_from 9 r) (λ _.
    and_then InField (made OutOfRange (cell r 3) (signal_of (record {
      lookahead = lookahead;
      cycle = cycle;
      green = green;
      offset = offset;
      headway = headway;
      crossing = crossing;
    }))) Ok))))))))

-- switch: number, lookahead, service. The last fault is for show only.
abbrev pub switch_record : ℕ → Row → Result Switch RecordFault
switch_record next r =
    and_then InField (next_of next (number_of r)) (λ _.
    and_then InField (ranged 1 10000 (cell r 3)) (λ lookahead.
    and_then InField (ranged 1 10000 (cell r 4)) (λ service.
    and_then InField (unused_from 5 r) (λ _.
    and_then InField (made OutOfRange (cell r 3) (switch_of lookahead service)) Ok))))

-- exit: number, lookahead. The last fault is for show only.
abbrev pub exit_record : ℕ → Row → Result Exit RecordFault
exit_record next r =
    and_then InField (next_of next (number_of r)) (λ _.
    and_then InField (ranged 1 10000 (cell r 3)) (λ lookahead.
    and_then InField (unused_from 4 r) (λ _.
    and_then InField (made OutOfRange (cell r 3) (exit_of lookahead)) Ok)))

-- link: number, source, target, delay, quota
abbrev pub link_of : ℕ → ℕ → Row → Result PlannedLink RecordFault
link_of next processes r =
    and_then InField (next_of next (number_of r)) (λ _.
    and_then InField (source_of processes (cell r 3)) (λ source.
    and_then InField (existing_of processes (cell r 4)) (λ target.
    and_then InField (ranged 0 10000 (cell r 5)) (λ delay.
    and_then InField (quota_of (cell r 6)) (λ quota.
    and_then InField (unused_from 7 r) (λ _.
    Ok (record { link = record { from = source; to = target; delay = delay }; quota = quota })))))))
