-- Limits: a value outside them is not made.
use Rattle.std.specs.Prelude.{◌≡◌, ℕ, Bool, true, false, ◌&&◌, Some, None, Option, nat_le, refl}

-- Whether a number is from low to high.
abbrev pub between : ℕ → ℕ → ℕ → Bool
between low high n = nat_le low n && nat_le n high

-- What is made where the test of the limits holds, and of its holding.
abbrev pub made_if : {A : Type 0} → (test : Bool) → (test ≡ true → A) → Option A
made_if true make = Some (make refl)
made_if false make = None
