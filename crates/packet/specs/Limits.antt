-- The limits of frames and switches.
use Rattle.std.specs.Prelude.{ℕ, Bool, ◌&&◌}
use Rattle.exit.specs.Limits.{between}

-- Whether there is a frame of this destination and length.
abbrev pub frame_within : ℕ → ℕ → Bool
frame_within destination length = between 0 255 destination && between 1 9000 length

-- Whether there is a switch of this lookahead and service.
abbrev pub switch_within : ℕ → ℕ → Bool
switch_within lookahead service = between 1 10000 lookahead && between 1 10000 service
