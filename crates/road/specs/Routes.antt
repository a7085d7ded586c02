-- Routes: the turns that a vehicle has to make, as digits of base four, the next one last.
use Rattle.std.specs.Prelude.{◌≡◌, ℕ, ◌+◌, ◌/◌, ◌%◌, true}
use Rattle.std.proofs.Common.{arith}
use Rattle.exit.proofs.Between.{still_between}
use Rattle.exit.specs.Limits.{between}
use Rattle.road.specs.Limits.{vehicle_within}

-- The turn at the next junction.
abbrev pub turn_of : ℕ → ℕ
turn_of route = route % 4

-- The route with that turn behind it. A turn of 3 comes in as its first digit.
abbrev pub onward_route : ℕ → ℕ
onward_route route = route / 4 + 49152

-- It is within the limits again.
pub onward_within : (class route : ℕ) → vehicle_within class route ≡ true → vehicle_within class (onward_route route) ≡ true
onward_within class route h =
    still_between (between 0 3 class) 0 65535 route (onward_route route) h (omega arith) (λ below. omega arith)
