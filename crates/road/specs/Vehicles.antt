-- Vehicles: what they are made of, their code, and what a junction makes of them.
use Rattle.std.specs.Prelude.{◌≡◌, ℕ, ◌+◌, ◌*◌, true, Option, nat_lt}
use Rattle.model.specs.Lists.{only_if}
use Rattle.model.specs.declared.sending.Sending.{Sending}
use Rattle.exit.specs.Limits.{made_if}
use Rattle.road.specs.declared.vehicle.Vehicle.{Vehicle}
use Rattle.road.specs.Limits.{vehicle_within}
use Rattle.road.specs.Routes.{turn_of, onward_route, onward_within}

-- The vehicle of a class and a route within the limits.
abbrev pub vehicle_with : (class route : ℕ) → vehicle_within class route ≡ true → Vehicle
vehicle_with class route ok = record { class = class; route = route; limits = ok }

-- The vehicle of a class from 0 to 3 and a route from 0 to 65,535. There is no other.
abbrev pub vehicle_of : ℕ → ℕ → Option Vehicle
vehicle_of class route = made_if (vehicle_within class route) (vehicle_with class route)

-- The number that stands for a vehicle in a log.
abbrev pub vehicle_code : Vehicle → ℕ
vehicle_code v = v.class * 65536 + v.route

-- The vehicle with its next turn behind it. Its class stays.
abbrev pub onward : Vehicle → Vehicle
onward v = vehicle_with v.class (onward_route v.route) (onward_within v.class v.route v.limits)

-- What a junction sends at a time: the vehicle, by the out-port of its turn. At turn 3 nothing is sent.
abbrev pub turned : Vehicle → ℕ → Option (Sending Vehicle)
turned v time = only_if (nat_lt (turn_of v.route) 3) (record { port = turn_of v.route; time = time; cargo = onward v })
