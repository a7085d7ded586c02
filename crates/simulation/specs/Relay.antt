-- A relay and a sink, and a run of them: an instance of the law with nothing left open.
use Rattle.std.specs.Prelude.{◌≡◌, ℕ, ◌+◌, true, List, [], ◌∷◌, Some, None, Option}
use Rattle.model.specs.declared.record.Record.{Record}
use Rattle.model.specs.declared.sending.Sending.{Sending}
use Rattle.model.specs.Shape.{Shape}
use Rattle.simulation.specs.Net.{Program, Net}
use Rattle.simulation.specs.Simulation.{simulated, events, round_figure}
use Rattle.simulation.specs.View.{View}
use Rattle.simulation.specs.Calls.{Call, step, done}
use Rattle.simulation.specs.Prepare.{After}
use Rattle.simulation.specs.Law.{Over, NoneStopped}

-- A relay counts what it has sent on.
pub data Kind : Type 0 where
  relay : ℕ → Kind
  sink : Kind

abbrev pub lookahead : Kind → ℕ
lookahead (relay n) = 5
lookahead sink = 1

-- A relay sends on what comes, 5 later, by its first out-port. A sink sends nothing.
abbrev pub rule : Kind → ℕ → ℕ → ℕ → Kind × Option (Sending ℕ)
rule (relay n) port time cargo = (relay (n + 1), Some (record { port = 0; time = time + 5; cargo = cargo }))
rule sink port time cargo = (sink, None)

-- The cargo is a number, and its own code.
abbrev pub relays : Program ℕ Kind
relays = record { code = λ c. c; lookahead = lookahead; rule = rule }

-- One link from outside to the relay, and one from there to the sink, with a delay of 20.
abbrev pub relay_plan : Shape
relay_plan = record {
  horizon = 36;
  processes = 2;
  links = record { from = None; to = 0; delay = 0 } ∷ record { from = Some 0; to = 1; delay = 20 } ∷ [];
}

-- One opening event, at 10.
abbrev pub relay_net : Net ℕ Kind
relay_net = record {
  plan = relay_plan;
  processes = relay 0 ∷ sink ∷ [];
  opening = record { link = 0; time = 10; cargo = 7 } ∷ [];
}

-- What the relay takes at 10.
abbrev pub relay_record : Record
relay_record = record { process = 0; link = 0; time = 10; code = 7 }

-- It sends that on at 15, and the sink takes it at 35.
abbrev pub sink_record : Record
sink_record = record { process = 1; link = 1; time = 35; code = 7 }

-- The simulation: E is 2; the reach is 25, which goes into 36 twice, rounded up; so R is 4.
pub record RelaySimulated : Type 0 where
  pub over : Over relays relay_net
  pub none_stopped : NoneStopped relays relay_net
  pub relay_history : (simulated relays relay_net).history 0 ≡ relay_record ∷ []
  pub sink_history : (simulated relays relay_net).history 1 ≡ sink_record ∷ []
  pub events : events relays relay_net ≡ 2
  pub figure : round_figure relays relay_net ≡ 4

-- Four rounds of steps, the newest first.
abbrev pub four_rounds : List Call
four_rounds = step 1 ∷ step 0 ∷ step 1 ∷ step 0 ∷ step 1 ∷ step 0 ∷ step 1 ∷ step 0 ∷ []

-- A run may stand after them: finished, with this log and with R rounds.
pub record RelayRun : Type 0 where
  pub v : View ℕ Kind
  pub after : After relays relay_net four_rounds v
  pub log : v.log ≡ relay_record ∷ sink_record ∷ []
  pub finished : done v ≡ true
  pub rounds : v.rounds ≡ round_figure relays relay_net
