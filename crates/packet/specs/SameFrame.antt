-- Frames of one destination and length are one frame.
use Rattle.std.specs.Prelude.{◌≡◌, ℕ}
use Rattle.exit.proofs.Made.{same_made}
use Rattle.packet.specs.declared.frame.Frame.{Frame}
use Rattle.packet.specs.Frames.{frame_with}
use Rattle.packet.specs.Limits.{frame_within}

pub same_frame : (x y : Frame) → x.destination ≡ y.destination → x.length ≡ y.length → x ≡ y
same_frame x y to long =
    same_made {F = ℕ × ℕ} (λ f. frame_within f.0 f.1) (λ f. frame_with f.0 f.1)
    {f = (x.destination, x.length)} {g = (y.destination, y.length)} x.limits y.limits (λ i. (to i, long i))
