-- Vehicles of one class and route are one vehicle.
use Rattle.std.specs.Prelude.{◌≡◌, ℕ}
use Rattle.exit.proofs.Made.{same_made}
use Rattle.road.specs.declared.vehicle.Vehicle.{Vehicle}
use Rattle.road.specs.Limits.{vehicle_within}
use Rattle.road.specs.Vehicles.{vehicle_with}

pub same_vehicle : (x y : Vehicle) → x.class ≡ y.class → x.route ≡ y.route → x ≡ y
same_vehicle x y class route =
    same_made {F = ℕ × ℕ} (λ f. vehicle_within f.0 f.1) (λ f. vehicle_with f.0 f.1)
    {f = (x.class, x.route)} {g = (y.class, y.route)} x.limits y.limits (λ i. (class i, route i))
