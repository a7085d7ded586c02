-- The outcome of handling an event, a state and an answer, shown part by part.
use Rattle.std.proofs.Common.{◌≡◌}

pub same_outcome : {S R : Type 0} {s t : S} {a b : R} → s ≡ t → a ≡ b → ◌≡◌ {A = S × R} (s, a) (t, b)
same_outcome state answer = λ i. (state i, answer i)
