-- What the scan of the in-links keeps.
use Rattle.std.proofs.Common.{◌≡◌, ℕ, ◌≤◌, List, [], ◌∷◌, get_or, Some, None, Option, arith}
use Rattle.model.specs.Pile.{Pile}
use Rattle.simulation.specs.View.{link_clock, least_clock}

-- The clock of the lowest port so far, or the horizon.
abbrev pub Least : {C : Type 0} → Pile C → ℕ → List ℕ → Option ℕ → ℕ → Type 0
Least m horizon ins None n = n ≡ horizon
Least m horizon ins (Some b) n = n ≡ link_clock m (get_or ins b 0)

-- A clock never passes the horizon.
pub least_below : {C : Type 0} (m : Pile C) (horizon : ℕ) (ks : List ℕ) → least_clock m horizon ks ≤ horizon
least_below m horizon [] = omega arith
least_below m horizon (k ∷ ks) = omega (arith, least_below m horizon ks)
