-- Frames: what they are made of, and their code.
use Rattle.std.specs.Prelude.{◌≡◌, ℕ, ◌+◌, ◌*◌, true, Option}
use Rattle.exit.specs.Limits.{made_if}
use Rattle.packet.specs.declared.frame.Frame.{Frame}
use Rattle.packet.specs.Limits.{frame_within}

-- The frame of a destination and a length within the limits.
abbrev pub frame_with : (destination length : ℕ) → frame_within destination length ≡ true → Frame
frame_with destination length ok = record { destination = destination; length = length; limits = ok }

-- The frame of a destination from 0 to 255 and a length from 1 to 9,000. There is no other.
abbrev pub frame_of : ℕ → ℕ → Option Frame
frame_of destination length = made_if (frame_within destination length) (frame_with destination length)

-- The number that stands for a frame in a log.
abbrev pub frame_code : Frame → ℕ
frame_code f = f.destination * 65536 + f.length
