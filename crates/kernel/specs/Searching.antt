-- The search for the safe event, by in-port.
use Rattle.std.specs.Prelude.{◌≡◌, ℕ, ◌<◌, ◌≤◌, ◌≢◌, ◌⊎◌, List, length, Some, None, Option, slice_index}
use Rattle.model.specs.declared.event.Event.{Event}
use Rattle.model.specs.Lists.{oldest}
use Rattle.model.specs.Pile.{Pile}
use Rattle.simulation.specs.View.{link_clock}
use Rattle.kernel.specs.declared.safety.Safe.{Safe}

module _ {C : Type 0} (m : Pile C) (horizon : ℕ) (ins : List ℕ) where
  -- The first event e of the in-link at a port is safe.
  pub record SafeAt (port : ℕ) (e : Event C) : Type 0 where
    pub within : port < length ins
    pub first : oldest (m.waiting (slice_index ins port)) ≡ Some e
    pub soon : e.time < horizon
    pub sure : (q : ℕ) → q < length ins → q ≢ port
        → (e.time < link_clock m (slice_index ins q)) ⊎ ((link_clock m (slice_index ins q) ≡ e.time) × (slice_index ins port < slice_index ins q))

  -- The safe event with its port and its link, or none if none is safe.
  abbrev pub SafeOr : Option (Safe C) → Type 0
  SafeOr None = (port : ℕ) (e : Event C) → SafeAt port e → ⊥
  SafeOr (Some s) = SafeAt s.port s.event × (s.link ≡ slice_index ins s.port)

  -- Of the first n ports, the first whose clock is lowest, if that is below the horizon.
  abbrev pub Lowest : ℕ → Option ℕ → Type 0
  Lowest n None = (q : ℕ) → q < n → horizon ≤ link_clock m (slice_index ins q)
  Lowest n (Some b) =
      (b < n)
      × (link_clock m (slice_index ins b) < horizon)
      × ((q : ℕ) → q < n → link_clock m (slice_index ins b) ≤ link_clock m (slice_index ins q))
      × ((q : ℕ) → q < b → link_clock m (slice_index ins b) < link_clock m (slice_index ins q))
