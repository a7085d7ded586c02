-- At most one event of a process is safe.
use Rattle.std.proofs.Common.{◌≡◌, Option, sym, ap, arith}
use mathlib.Core.Logic.{by_cases}
use native.Mathlib.Decide.{ℕ_discrete}
use Rattle.model.specs.declared.event.Event.{Event}
use Rattle.simulation.specs.View.{due, link_clock, OneSafe}
use Rattle.simulation.proofs.Tests.{some_same}

-- On one link it is the first; of two links each would have to come before the other.
pub one_safe : (C : Type 0) → OneSafe C
one_safe C plan m p i j d e a b = by_cases (ℕ_discrete i j)
    (λ q. (q, some_same a.first (rw q b.first)))
    (λ n. let x = a.sure j b.leads (λ q. n (sym q)) in
    let y = b.sure i a.leads n in
    let c : link_clock m j ≡ e.time = ap (λ (o : Option (Event C)). due o (m.floor j)) b.first in
    let f : link_clock m i ≡ d.time = ap (λ (o : Option (Event C)). due o (m.floor i)) a.first in
    absurd (omega arith))
