-- What a run is prepared from, and what its processes do with events.
use Rattle.std.specs.Prelude.{ℕ, ◌+◌, cond, List, Some, None, Option, nat_lt}
use Rattle.model.specs.declared.event.Event.{Event}
use Rattle.model.specs.declared.opening.Opening.{Opening}
use Rattle.model.specs.declared.record.Record.{Record}
use Rattle.model.specs.declared.sending.Sending.{Sending}
use Rattle.model.specs.declared.refusal.Cause.{Cause}
use Rattle.model.specs.declared.refusal.Cause.TheVariants.{Early, TooFar, Overtaking}
use Rattle.model.specs.declared.refusal.Breach.{Breach}
use Rattle.model.specs.Lists.{at, place_of, then}
use Rattle.model.specs.Pile.{last_time}
use Rattle.model.specs.Shape.{Shape, in_links, out_links}

-- What the kinds of cargo and of process say.
pub record Program (C P : Type 0) : Type 0 where
  pub code : C → ℕ
  pub lookahead : P → ℕ
  pub rule : P → ℕ → ℕ → C → P × Option (Sending C)  -- from state, in-port, time and cargo

-- What a run is prepared from. Two runs are of one plan if their nets are equal.
pub record Net (C P : Type 0) : Type 0 where
  pub plan : Shape
  pub processes : List P  -- in their first states
  pub opening : List (Opening C)

-- What a process sends on a link.
pub record Outgoing (C : Type 0) : Type 0 where
  pub link : ℕ
  pub time : ℕ
  pub cargo : C

-- A sending of p goes out on the link of its port. By a port without a link it leaves the plan.
abbrev pub outgoing : {C : Type 0} → Shape → ℕ → Option (Sending C) → Option (Outgoing C)
outgoing plan p None = None
outgoing plan p (Some x) = then (at (out_links plan p) x.port) (λ k. Some (record { link = k; time = x.time; cargo = x.cargo }))

-- Why a sending is a breach, if it is: before the earliest time, past the last time, or to arrive below the bound of its link.
abbrev pub cause_of : ℕ → ℕ → ℕ → ℕ → Option Cause
cause_of earliest time arrival bound =
    cond (nat_lt time earliest) (Some Early) (cond (nat_lt last_time time) (Some TooFar) (cond (nat_lt arrival bound) (Some Overtaking) None))

-- The breach of p, which may send nothing before the earliest time, over links with these delays and bounds.
abbrev pub breach_of : {C : Type 0} → ℕ → ℕ → (ℕ → ℕ) → (ℕ → ℕ) → Option (Outgoing C) → Option Breach
breach_of p earliest delays bounds None = None
breach_of p earliest delays bounds (Some x) =
    then (cause_of earliest x.time (x.time + delays x.link) (bounds x.link))
    (λ cause. Some (record { process = p; link = x.link; time = x.time; cause = cause }))

module _ {C P : Type 0} (g : Program C P) where
  -- What p does in the state s with the event e of its in-link i: the next state, and what goes out.
  abbrev pub handle : Shape → ℕ → P → ℕ → Event C → P × Option (Outgoing C)
  handle plan p s i e = let (next, sent) = g.rule s (place_of i (in_links plan p)) e.time e.cargo in (next, outgoing plan p sent)

  -- What the log keeps of the event e of the link i, which p took.
  abbrev pub record_of : ℕ → ℕ → Event C → Record
  record_of p i e = record { process = p; link = i; time = e.time; code = g.code e.cargo }
