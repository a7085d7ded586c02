-- Switches: what they are made of, and their rule.
use Rattle.std.specs.Prelude.{◌≡◌, ℕ, true, Some, Option}
use Rattle.model.specs.declared.sending.Sending.{Sending}
use Rattle.exit.specs.Limits.{made_if}
use Rattle.packet.specs.declared.frame.Frame.{Frame}
use Rattle.packet.specs.declared.switch.Switch.{Switch}
use Rattle.packet.specs.Limits.{switch_within}
use Rattle.packet.specs.Serving.{end_of, port_of}

-- The switch of a lookahead and a service within the limits, free from a time on.
abbrev pub switch_with : (lookahead service : ℕ) → ℕ → switch_within lookahead service ≡ true → Switch
switch_with lookahead service time ok = record { lookahead = lookahead; service = service; free = time; limits = ok }

-- The switch of a lookahead and a service from 1 to 10,000, free from time 0. There is no other.
abbrev pub switch_of : ℕ → ℕ → Option Switch
switch_of lookahead service = made_if (switch_within lookahead service) (switch_with lookahead service 0)

-- The lookahead of a switch.
abbrev pub switch_lookahead : Switch → ℕ
switch_lookahead s = s.lookahead

-- The switch, free from another time.
abbrev pub freed : Switch → ℕ → Switch
freed s time = switch_with s.lookahead s.service time s.limits

-- When the switch has served a frame that comes at this time.
abbrev pub served_at : Switch → ℕ → Frame → ℕ
served_at s time f = end_of s.service s.free time f.length

-- What the switch sends at a time: the frame unchanged, by the out-port to its destination.
abbrev pub passed_on : Frame → ℕ → Sending Frame
passed_on f time = record { port = port_of f.destination; time = time; cargo = f }

-- The rule: it is free, and sends the frame, at the end of the service. The in-port plays no part.
abbrev pub switch_rule : Switch → ℕ → ℕ → Frame → Switch × Option (Sending Frame)
switch_rule s port time f = (freed s (served_at s time f), Some (passed_on f (served_at s time f)))
