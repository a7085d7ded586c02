-- Signals: what they are made of, and their rule.
use Rattle.std.specs.Prelude.{◌≡◌, ℕ, true, Option}
use Rattle.model.specs.declared.sending.Sending.{Sending}
use Rattle.exit.specs.Limits.{made_if}
use Rattle.road.specs.declared.signal.settings.Settings.{Settings}
use Rattle.road.specs.declared.signal.Signal.{Signal}
use Rattle.road.specs.declared.vehicle.Vehicle.{Vehicle}
use Rattle.road.specs.Limits.{signal_within}
use Rattle.road.specs.Starting.{free_after, leaves_at}
use Rattle.road.specs.Vehicles.{turned}

-- The signal of settings within the limits, free from a time on.
abbrev pub signal_with : (settings : Settings) → ℕ → signal_within settings ≡ true → Signal
signal_with settings time ok = record { settings = settings; free = time; limits = ok }

-- The signal of settings within the limits, free from time 0. There is no other.
abbrev pub signal_of : Settings → Option Signal
signal_of settings = made_if (signal_within settings) (signal_with settings 0)

-- The lookahead of a signal.
abbrev pub signal_lookahead : Signal → ℕ
signal_lookahead s = s.settings.lookahead

-- The signal, free from another time.
abbrev pub freed : Signal → ℕ → Signal
freed s time = signal_with s.settings time s.limits

-- The rule: it is free a headway after the start, and sends the vehicle a crossing after it. The in-port plays no part.
abbrev pub signal_rule : Signal → ℕ → ℕ → Vehicle → Signal × Option (Sending Vehicle)
signal_rule s port time v =
    (freed s (free_after s.settings s.free time), turned v (leaves_at s.settings s.free time))
