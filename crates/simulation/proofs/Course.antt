-- The sequential simulation, told by histories.
use Rattle.std.proofs.Common.{◌≡◌, ℕ, ◌<◌, ◌≤◌, List, [], ◌∷◌, Some, None, Option}
use Rattle.model.specs.declared.event.Event.{Event}
use Rattle.model.specs.Lists.{update}
use Rattle.simulation.proofs.System.{System, Entry, entry, next, Fair}

-- How far it has come: the history of each process, and at which event it was stopped, if it was.
pub record Course (C : Type 0) : Type 0 where
  pub h : ℕ → List (Entry C)
  pub stopped : ℕ → Option (Entry C)

-- (t, p, i) comes no later than (u, q, j): by time, then process, then link.
pub record Upto (t p i u q j : ℕ) : Type 0 where
  pub sooner : t ≤ u
  pub tie : u ≤ t → p ≤ q
  pub tie_process : u ≤ t → q ≤ p → i ≤ j

module _ {C S : Type 0} (sys : System C S) where
  -- Nothing has happened.
  abbrev pub begin : Course C
  begin = record { h = λ (p : ℕ). []; stopped = λ (p : ℕ). None }

  -- The event a is the first that waits on the link k, it comes before the horizon, and its process is not stopped.
  pub record Waits (s : Course C) (k : ℕ) (a : Event C) : Type 0 where
    pub is_link : k < sys.links
    pub is_process : sys.target k < sys.processes
    pub goes : s.stopped (sys.target k) ≡ None
    pub is : next sys k (s.h (sys.source k)) (s.h (sys.target k)) ≡ Some a
    pub soon : a.time < sys.horizon

  -- Of all that waits it is the lowest.
  pub record Chosen (s : Course C) (k : ℕ) (a : Event C) : Type 0 where
    pub waits : Waits s k a
    pub lowest : (j : ℕ) (b : Event C) → Waits s j b → Upto a.time (sys.target k) k b.time (sys.target j) j

  -- The histories once the event a of the link k is taken.
  abbrev pub grown : (ℕ → List (Entry C)) → ℕ → Event C → ℕ → List (Entry C)
  grown h k a = update h (sys.target k) (entry k a ∷ h (sys.target k))

  -- One turn: the chosen event is taken, or stops its process.
  pub data Turn (s : Course C) : Course C → Type 0 where
    takes : {k : ℕ} {a : Event C} → Chosen s k a → Fair sys (sys.target k) (s.h (sys.target k)) (entry k a)
        → Turn s (record { h = grown s.h k a; stopped = s.stopped })
    stops : {k : ℕ} {a : Event C} → Chosen s k a → ¬ (Fair sys (sys.target k) (s.h (sys.target k)) (entry k a))
        → Turn s (record { h = s.h; stopped = update s.stopped (sys.target k) (Some (entry k a)) })

  -- The simulation comes to s.
  pub data Comes : Course C → Type 0 where
    starts : Comes begin
    goes_on : {s s' : Course C} → Comes s → Turn s s' → Comes s'

  -- And it ends there.
  pub record Ends (s : Course C) : Type 0 where
    pub comes : Comes s
    pub over : (k : ℕ) (a : Event C) → ¬ (Waits s k a)
