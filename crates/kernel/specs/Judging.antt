-- What becomes of a sending, by the list of out-links.
use Rattle.std.specs.Prelude.{◌≡◌, ℕ, ◌+◌, ◌<◌, cond, List, length, Some, None, Ok, Err, Option, Result, nat_lt, slice_index}
use Rattle.model.specs.declared.event.Event.{Event}
use Rattle.model.specs.declared.sending.Sending.{Sending}
use Rattle.model.specs.declared.refusal.Breach.{Breach}
use Rattle.model.specs.declared.refusal.Cause.{Cause}
use Rattle.model.specs.declared.refusal.Cause.TheVariants.{Early, TooFar, Overtaking}
use Rattle.model.specs.Pile.{Pile, last_time}
use Rattle.model.specs.Linking.{Timely, TakeDone, PutDone}
use Rattle.kernel.specs.declared.sending.Going.{Going}

abbrev breach : ℕ → ℕ → ℕ → Cause → Breach
breach p k t c = record { process = p; link = k; time = t; cause = c }

module _ {C : Type 0} (m : Pile C) where
  -- A sending of p on the link k: a breach if it is before the earliest time, else past the last time, else below the floor.
  abbrev pub borne : ℕ → ℕ → ℕ → Sending C → Result (Option (Going C)) Breach
  borne p k earliest x =
      cond (nat_lt x.time earliest) (Err (breach p k x.time Early))
      (cond (nat_lt last_time x.time) (Err (breach p k x.time TooFar))
      (cond (nat_lt (x.time + m.delay k) (m.floor k)) (Err (breach p k x.time Overtaking))
      (Ok (Some (record { link = k; time = x.time; cargo = x.cargo })))))

  -- A sending by a port that has no link leaves the plan.
  abbrev pub judged : ℕ → List ℕ → ℕ → Option (Sending C) → Result (Option (Going C)) Breach
  judged p outs earliest None = Ok None
  judged p outs earliest (Some x) = cond (nat_lt x.port (length outs)) (borne p (slice_index outs x.port) earliest x) (Ok None)

  -- A link takes what goes out on it: it is in time, and a place is free.
  pub record Bears (x : Going C) : Type 0 where
    pub timely : Timely m x.link x.time
    pub room : 0 < m.free x.link

  abbrev pub MayGo : Option (Going C) → Type 0
  MayGo None = Unit {0}
  MayGo (Some x) = Bears x

  -- What goes out is put.
  abbrev pub Gone : Option (Going C) → Pile C → Type 0
  Gone None n = n ≡ m
  Gone (Some x) n = PutDone m x.link x.time x.cargo n

-- The first event e of the link i is taken, and then what goes out is put.
pub record Passed {C : Type 0} (m : Pile C) (i : ℕ) (e : Event C) (x : Option (Going C)) (n : Pile C) : Type 0 where
  pub without : Pile C
  pub take : TakeDone m i e without
  pub put : Gone without x n
