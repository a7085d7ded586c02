-- What a breach that a step reports says of the simulation.
use Rattle.std.specs.Prelude.{◌≡◌, ℕ, List, Some, Err, Result}
use Rattle.model.specs.declared.answer.Stepped.{Stepped}
use Rattle.model.specs.declared.event.Event.{Event}
use Rattle.model.specs.declared.refusal.Breach.{Breach}
use Rattle.model.specs.declared.refusal.Refusal.{Refusal}
use Rattle.model.specs.declared.refusal.Refusal.TheVariants.{Breached}
use Rattle.simulation.specs.Net.{Program, Net}
use Rattle.simulation.specs.Simulation.{simulated}
use Rattle.simulation.specs.View.{View, Safe}
use Rattle.simulation.specs.Calls.{Call}
use Rattle.simulation.specs.Prepare.{After}
use Rattle.simulation.specs.Law.{Whole}

module _ {C P : Type 0} (g : Program C P) where
  -- The simulation stops p by the breach b, at the event that is safe in the run v, and the history of p is whole.
  pub record Stops (net : Net C P) (v : View C P) (p : ℕ) (b : Breach) : Type 0 where
    pub link : ℕ
    pub event : Event C
    pub safe : Safe v.plan v.links p link event
    pub stopped : (simulated g net).stopped p ≡ Some (record { choice = record { process = p; link = link; event = event }; breach = b })
    pub whole : Whole g net v p

  -- A step of p in the run v reports a breach only if the simulation stops p there by that breach, whatever the net and the calls after which the run stood.
  abbrev pub Breaches : View C P → ℕ → Result (Stepped C) Refusal → Type 0
  Breaches v p a = (net : Net C P) (cs : List Call) (b : Breach) → After g net cs v → a ≡ Err (Breached b) → Stops net v p b
