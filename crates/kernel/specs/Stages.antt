-- The stages of a step: the safe event taken or refused, and the end of the step.
use Rattle.std.specs.Prelude.{◌≡◌, ℕ, ◌<◌, [], ◌∷◌, ◌++◌, length, Some, None, Ok, Err, Option, Result, slice_set}
use Rattle.model.specs.declared.event.Event.{Event}
use Rattle.model.specs.declared.refusal.Refusal.{Refusal}
use Rattle.model.specs.Lists.{place_of}
use Rattle.model.specs.Pile.{Pile}
use Rattle.model.specs.Shape.{Shape, in_links, out_links}
use Rattle.model.specs.Linking.{TakeDone}
use Rattle.simulation.specs.Net.{Program, handle, record_of}
use Rattle.simulation.specs.View.{View, Safe}
use Rattle.simulation.specs.Step.{Step, Sent, first_full, sent, breach}
use Rattle.kernel.specs.declared.safety.Safe.{Safe as Found}

module _ {C P : Type 0} (g : Program C P) where
  -- The event e of the link i may be taken in the state s, and was: the links, the state and the log are moved on, and nothing else.
  pub record Took (v : View C P) (p : ℕ) (s : P) (i : ℕ) (e : Event C) (w : View C P) : Type 0 where
    pub free : first_full v.links (out_links v.plan p) ≡ None
    pub room : length v.log < v.room
    pub kept : breach g v p s i e ≡ None
    pub without : Pile C
    pub take : TakeDone v.links i e without
    pub put : Sent without (sent g v p s i e) w.links
    pub count : w.links.count ≡ v.links.count
    pub processes : w.processes ≡ slice_set v.processes p (handle g v.plan p s i e).0
    pub log : w.log ≡ v.log ++ (record_of g p i e ∷ [])
    pub same_plan : w.plan ≡ v.plan
    pub same_room : w.room ≡ v.room
    pub same_marks : w.marked ≡ v.marked
    pub same_rounds : w.rounds ≡ v.rounds

  -- The safe event is taken, or the step is refused.
  abbrev pub Taking : View C P → ℕ → P → Found C → Result (Unit {0}) Refusal → View C P → Type 0
  Taking v p s found (Ok done) w = Took v p s found.link found.event w
  Taking v p s found (Err refusal) w = Step g v p (Err refusal) w

-- The safe event of p with its in-port and its link, or none if none is safe.
abbrev pub Finds : {C : Type 0} → Shape → Pile C → ℕ → Option (Found C) → Type 0
Finds {C} plan m p None = (i : ℕ) (e : Event C) → ¬ (Safe plan m p i e)
Finds plan m p (Some found) =
    Safe plan m p found.link found.event × (found.port ≡ place_of found.link (in_links plan p))
