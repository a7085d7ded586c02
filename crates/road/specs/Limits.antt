-- The limits of vehicles and signals.
use Rattle.std.specs.Prelude.{ℕ, Bool, ◌&&◌, nat_lt}
use Rattle.exit.specs.Limits.{between}
use Rattle.road.specs.declared.signal.settings.Settings.{Settings}

-- Whether there is a vehicle of this class and route.
abbrev pub vehicle_within : ℕ → ℕ → Bool
vehicle_within class route = between 0 3 class && between 0 65535 route

-- Whether there is a signal of these settings.
abbrev pub signal_within : Settings → Bool
signal_within s =
    between 1 10000 s.lookahead
    && between 1 10000 s.cycle
    && between 1 s.cycle s.green
    && nat_lt s.offset s.cycle
    && between 1 10000 s.headway
    && between 1 10000 s.crossing
