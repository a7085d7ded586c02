-- The worked plan: two vehicles come together to a signal, with an exit twenty seconds behind it.
use Rattle.std.specs.declared.clone.Clone as Clone
use Rattle.std.specs.Prelude.{◌≡◌, ℕ, [], ◌∷◌, Some, None, refl}
use Rattle.model.specs.declared.opening.Opening.{Opening}
use Rattle.model.specs.declared.record.Record.{Record}
use Rattle.model.specs.Shape.{Shape}
use Rattle.exit.specs.declared.Exit as exit
use Rattle.exit.specs.declared.kind.Kind.TheVariants.{Node, Exit}
use Rattle.exit.specs.Exits.{exit_of}
use Rattle.exit.specs.contracts.kind.KindProcess.TheImpl as kinds
use Rattle.road.specs.contracts.signal.Signal as signal_type
use Rattle.road.specs.contracts.signal.process.SignalProcessVehicle.TheImpl as process
use Rattle.road.specs.contracts.vehicle.Vehicle as vehicle_type
use Rattle.road.specs.contracts.vehicle.cargo.VehicleCargo.TheImpl as cargo
use Rattle.road.specs.Kinds.{RoadProcess}
use Rattle.road.specs.declared.signal.Signal as signal
use Rattle.road.specs.declared.signal.settings.Settings.{Settings}
use Rattle.road.specs.declared.vehicle.Vehicle.{Vehicle}
use Rattle.road.specs.Signals.{signal_of}
use Rattle.road.specs.Vehicles.{vehicle_of}
use Rattle.simulation.specs.Net.{Program, Net}
use Rattle.simulation.specs.Programs.{program_of}
use Rattle.simulation.specs.Simulation.{simulated, events, least_reach, round_figure}
use Rattle.simulation.specs.Prepare.{Limits}
use Rattle.simulation.specs.Law.{Over, NoneStopped}

-- Vehicles and signals are copied as they are, which the impl for kinds asks of them and states nothing by.
abbrev copied : {A : Type 0} → Clone.Ghosts A
copied = record { is_clone = λ x y. x ≡ y; is_infallible = λ x. Unit {0} }

-- What the impls of cargo and of process state: that of process is the one for kinds, over signals and vehicles.
abbrev pub road_program : Program Vehicle RoadProcess
road_program = program_of cargo.ghosts (kinds.ghosts vehicle_type.the_row signal_type.the_row cargo.ghosts cargo.dict copied cargo.dict process.ghosts process.dict copied process.dict)

-- Green for the first half of each minute.
abbrev pub lights : Settings
lights = record { lookahead = 5; cycle = 60; green = 30; offset = 0; headway = 2; crossing = 5 }

-- The signal with these lights, free from time 0.
abbrev pub junction : signal.Signal
junction = record { settings = lights; free = 0; limits = refl }

-- An exit with a lookahead of 1.
abbrev pub way_out : exit.Exit
way_out = record { lookahead = 1; limits = refl }

-- A vehicle of class 0, whose next turn is 0.
abbrev pub vehicle : Vehicle
vehicle = record { class = 0; route = 65532; limits = refl }

-- One link from outside to the junction, and one from there to the way out, with a delay of 20.
abbrev pub worked_plan : Shape
worked_plan = record {
  horizon = 100;
  processes = 2;
  links = record { from = None; to = 0; delay = 0 } ∷ record { from = Some 0; to = 1; delay = 20 } ∷ [];
}

-- The vehicle comes from outside at 10.
abbrev pub coming : Opening Vehicle
coming = record { link = 0; time = 10; cargo = vehicle }

-- Two of them come.
abbrev pub worked_net : Net Vehicle RoadProcess
worked_net = record {
  plan = worked_plan;
  processes = Node junction ∷ Exit way_out ∷ [];
  opening = coming ∷ coming ∷ [];
}

-- The record of a vehicle that the junction takes.
abbrev pub at_junction : Record
at_junction = record { process = 0; link = 0; time = 10; code = 65532 }

-- The record of a vehicle that leaves by the way out at a time.
abbrev pub leaving_at : ℕ → Record
leaving_at time = record { process = 1; link = 1; time = time; code = 65535 }

-- The vehicle, the junction and the way out are those that the constructors make, and the plan is within its limits.
pub record MadeAsSettled : Type 0 where
  pub vehicle_made : vehicle_of 0 65532 ≡ Some vehicle
  pub junction_made : signal_of lights ≡ Some junction
  pub way_out_made : exit_of 1 ≡ Some way_out
  pub plan_within : Limits worked_net

-- The simulation: E is 4; the smallest reach is 25, which goes into 100 four times; so R is 8.
pub record PlanSimulated : Type 0 where
  pub nothing_left : Over road_program worked_net
  pub none_pending_at_junction : (simulated road_program worked_net).pending 0 ≡ []
  pub none_pending_at_way_out : (simulated road_program worked_net).pending 1 ≡ []
  pub none_stopped : NoneStopped road_program worked_net
  pub junction_history : (simulated road_program worked_net).history 0 ≡ at_junction ∷ at_junction ∷ []
  pub way_out_history : (simulated road_program worked_net).history 1 ≡ leaving_at 35 ∷ leaving_at 37 ∷ []
  pub four_events : events road_program worked_net ≡ 4
  pub smallest_reach : least_reach road_program worked_net 2 ≡ Some 25
  pub round_figure_eight : round_figure road_program worked_net ≡ 8
