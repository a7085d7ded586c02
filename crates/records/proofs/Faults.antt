-- Faults turned into others.
use Rattle.std.proofs.Common.{◌≡◌, true, is_ok, Ok, Err, Result}
use Rattle.std.specs.Result.{MatchResult}

-- A result whose fault was turned into another one and which is all right was so before.
pub was_ok : {T E : Type 0} (F : Type 0) (Q : E → Type 0) (r : Result T E) (x : T)
    → MatchResult r (λ y. ◌≡◌ {A = Result T F} (Ok x) (Ok y)) Q → true ≡ is_ok r → r ≡ Ok x
was_ok F Q (Ok y) x m t = cc
was_ok F Q (Err e) x m t = cc
