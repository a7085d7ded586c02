-- When and by which port a switch sends a frame.
use Rattle.std.specs.Prelude.{ℕ, ◌/◌, ◌%◌, max}
use Rattle.model.specs.Sums.{plus}

-- What a length adds to the service: one for each whole cell of 64 bytes.
abbrev pub line_time : ℕ → ℕ
line_time length = length / 64

-- The end of the service, of a switch that is free from a time on, and a frame that comes at a time.
abbrev pub end_of : ℕ → ℕ → ℕ → ℕ → ℕ
end_of service free time length = plus (plus (max time free) service) (line_time length)

-- The out-port to a destination.
abbrev pub port_of : ℕ → ℕ
port_of destination = destination % 8
