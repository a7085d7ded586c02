-- When a vehicle starts at a signal.
use Rattle.std.specs.Prelude.{ℕ, ◌-◌, ◌%◌, max, cond, nat_lt}
use Rattle.model.specs.Sums.{plus}
use Rattle.road.specs.declared.signal.settings.Settings.{Settings}

-- Of a signal with these settings, free from a time on, and a vehicle that comes at a time:
module _ (s : Settings) (free time : ℕ) where
  -- When it can start at the earliest.
  abbrev pub ready_at : ℕ
  ready_at = max time free

  -- How much of the cycle is over then.
  abbrev pub phase_of : ℕ
  phase_of = plus ready_at s.offset % s.cycle

  -- It starts at once if that is in the green, else as the next cycle begins.
  abbrev pub start_of : ℕ
  start_of = cond (nat_lt phase_of s.green) ready_at (plus ready_at (s.cycle - phase_of))

  -- The next one can start a headway later.
  abbrev pub free_after : ℕ
  free_after = plus start_of s.headway

  -- It leaves a crossing later.
  abbrev pub leaves_at : ℕ
  leaves_at = plus start_of s.crossing
