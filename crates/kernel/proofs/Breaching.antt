-- A breach that a step reports is the simulation's, by the law of runs.
use Rattle.std.proofs.Common.{ℕ, Err, Result, subst}
use Rattle.model.specs.declared.answer.Stepped.{Stepped}
use Rattle.model.specs.declared.event.Event.{Event}
use Rattle.model.specs.declared.refusal.Breach.{Breach}
use Rattle.model.specs.declared.refusal.Refusal.{Refusal}
use Rattle.model.specs.declared.refusal.Refusal.TheVariants.{Breached}
use Rattle.simulation.specs.Net.{Program, Net}
use Rattle.simulation.specs.View.{View, Safe}
use Rattle.simulation.specs.Step.{Step}
use Rattle.simulation.specs.Law.{Follows, Law}
use Rattle.kernel.specs.Breaching.{Stops, Breaches}

module _ {C P : Type 0} (g : Program C P) where
  -- Where a step reports a breach, an event is safe.
  safe_there : (v w : View C P) (p : ℕ) (b : Breach) → Step g v p (Err (Breached b)) w → (i : ℕ) × (e : Event C) × Safe v.plan v.links p i e
  safe_there v w p b (Step.breached {i = i} {e = e} ready safe free room is) = (i, e, safe)

  module _ (v w : View C P) (p : ℕ) where
    stops : (net : Net C P) (b : Breach) → Follows g net v → Step g v p (Err (Breached b)) w → Stops g net v p b
    stops net b follows step =
        let here = safe_there v w p b step in
        let same = follows.breaches p here.0 here.1 b w here.2 step in
        record { link = here.0; event = here.1; safe = here.2; stopped = same.0; whole = same.1 }

    pub breaches : Law g → (a : Result (Stepped C) Refusal) → Step g v p a w → Breaches g v p a
    breaches law a step net cs b after is =
        stops net b (law net v v cs cs after after).1 (subst (λ (x : Result (Stepped C) Refusal). Step g v p x w) is step)
