-- One reading after another: the first fault is the answer.
use Rattle.std.specs.Prelude.{Ok, Err, Result}

-- Goes on with what was read, or hands its fault up whole.
abbrev pub and_then : {T U E F : Type 0} → (E → F) → Result T E → (T → Result U F) → Result U F
and_then up (Ok x) go = go x
and_then up (Err e) go = Err (up e)
