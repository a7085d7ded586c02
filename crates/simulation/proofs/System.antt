-- What the histories of the processes determine: states, what was sent on each link, and what still waits there.
use Rattle.std.proofs.Common.{◌≡◌, ℕ, suc, ◌+◌, ◌<◌, ◌≤◌, cond, eqb, ◌≢◌, List, [], ◌∷◌, ◌++◌, reverse, drop, Some, None, Option}
use mathlib.Core.List.{tail}
use Rattle.model.specs.declared.event.Event.{Event}
use Rattle.simulation.specs.Net.{Outgoing}
use Rattle.simulation.proofs.Breaches.{Keeps}
use Rattle.simulation.proofs.Histories.{nth}

-- An entry of a history: an event, and the link on which it came.
pub record Entry (C : Type 0) : Type 0 where
  pub link : ℕ
  pub event : Event C

-- A net without its lists: processes and links are numbers, and a link from outside has a source that is no process.
pub record System (C S : Type 0) : Type 0 where
  pub horizon : ℕ
  pub processes : ℕ  -- they are the numbers below it
  pub links : ℕ  -- they are the numbers below it
  pub source : ℕ → ℕ
  pub target : ℕ → ℕ
  pub delay : ℕ → ℕ  -- of a link
  pub lookahead : ℕ → ℕ  -- of a process
  pub opening : ℕ → List (Event C)  -- on each link, as they arrive, newest first
  pub first : ℕ → S
  pub rule : ℕ → S → Entry C → S × Option (Outgoing C)

-- The arrival of the newest of these events, or d where there is none.
unfoldable pub newest : {C : Type 0} → ℕ → List (Event C) → ℕ
newest d [] = d
newest d (a ∷ r) = a.time

-- Arrivals never fall.
unfoldable pub Rising : {C : Type 0} → List (Event C) → Type 0
Rising [] = Unit {0}
Rising (a ∷ r) = (newest 0 r ≤ a.time) × Rising r

-- (t, i) comes before (u, j): the time decides, and between equal times the link.
pub record Before (t i u j : ℕ) : Type 0 where
  pub sooner : t ≤ u
  pub tie : u ≤ t → i < j

-- How many events of a history came on the link k.
unfoldable pub taken : {C : Type 0} → ℕ → List (Entry C) → ℕ
taken k [] = 0
taken k (e ∷ hs) = cond (eqb e.link k) (suc (taken k hs)) (taken k hs)

-- The entry of the event a, which came on the link k.
abbrev pub entry : {C : Type 0} → ℕ → Event C → Entry C
entry k a = record { link = k; event = a }

-- What waits on the link k, without its first if e came on k.
abbrev pub without : {C : Type 0} → ℕ → Entry C → List (Event C) → List (Event C)
without k e q = cond (eqb e.link k) (tail q) q

module _ {C S : Type 0} (sys : System C S) where
  -- The state of the process p after its history.
  unfoldable pub state : ℕ → List (Entry C) → S
  state p [] = sys.first p
  state p (e ∷ hs) = (sys.rule p (state p hs) e).0

  -- What p sends as it handles e after hs.
  unfoldable pub answer : ℕ → List (Entry C) → Entry C → Option (Outgoing C)
  answer p hs e = (sys.rule p (state p hs) e).1

  -- What was sent as x, as it arrives on the link k.
  abbrev pub arrives : ℕ → Outgoing C → Event C
  arrives k x = record { time = x.time + sys.delay k; cargo = x.cargo }

  -- All events of the link k, newest first, with what was sent if it was sent on k.
  unfoldable pub post : ℕ → Option (Outgoing C) → List (Event C) → List (Event C)
  post k None ms = ms
  post k (Some x) ms = cond (eqb x.link k) (arrives k x ∷ ms) ms

  -- The same, oldest first.
  unfoldable pub put_last : ℕ → Option (Outgoing C) → List (Event C) → List (Event C)
  put_last k None q = q
  put_last k (Some x) q = cond (eqb x.link k) (q ++ arrives k x ∷ []) q

  -- All events ever put on the link k, newest first, by the history of its source.
  unfoldable pub sent : ℕ → List (Entry C) → List (Event C)
  sent k [] = sys.opening k
  sent k (e ∷ hs) = post k (answer (sys.source k) hs e) (sent k hs)

  -- The last arrival put on k.
  abbrev pub last : ℕ → List (Entry C) → ℕ
  last k theirs = newest (sys.delay k) (sent k theirs)

  -- The first event on k that its target has not taken, by the histories of its source and its target.
  abbrev pub next : ℕ → List (Entry C) → List (Entry C) → Option (Event C)
  next k theirs ours = nth (sent k theirs) (taken k ours)

  -- All that its target has not taken, oldest first.
  abbrev pub queue : (ℕ → List (Entry C)) → ℕ → List (Event C)
  queue h k = drop (taken k (h (sys.target k))) (reverse (sent k (h (sys.source k))))

  -- What p sends as it handles e after hs is no breach, where nothing may arrive on a link below its bound.
  abbrev pub Fine : ℕ → List (Entry C) → Entry C → (ℕ → ℕ) → Type 0
  Fine p hs e bound = (x : Outgoing C) → answer p hs e ≡ Some x → Keeps (e.event.time + sys.lookahead p) sys.delay bound x

  -- It is no breach where nothing may overtake the last arrival of its link.
  abbrev pub Fair : ℕ → List (Entry C) → Entry C → Type 0
  Fair p hs e = Fine p hs e (λ k. last k hs)

  -- With the histories h, of which p has come as far as hs, e is p's lowest waiting event, and before the horizon.
  pub record Lowest (h : ℕ → List (Entry C)) (p : ℕ) (hs : List (Entry C)) (e : Entry C) : Type 0 where
    pub is_link : e.link < sys.links
    pub is_process : p < sys.processes
    pub mine : sys.target e.link ≡ p
    pub waits : next e.link (h (sys.source e.link)) hs ≡ Some e.event
    pub soon : e.event.time < sys.horizon
    pub least : (j : ℕ) (b : Event C) → j < sys.links → sys.target j ≡ p → j ≢ e.link
        → next j (h (sys.source j)) hs ≡ Some b → Before e.event.time e.link b.time j

  -- Nothing waits at p before the horizon.
  abbrev pub Quiet : (ℕ → List (Entry C)) → ℕ → Type 0
  Quiet h p = (j : ℕ) (b : Event C) → j < sys.links → sys.target j ≡ p → next j (h (sys.source j)) (h p) ≡ Some b → sys.horizon ≤ b.time

  -- The lowest event that waits at p breaches.
  pub record Stuck (h : ℕ → List (Entry C)) (p : ℕ) (e : Entry C) : Type 0 where
    pub lowest : Lowest h p (h p) e
    pub unfair : ¬ (Fair p (h p) e)

  -- What the argument asks of a system: a process sends on its own links, every reach is 1 or more, and opening events rise.
  pub record Proper : Type 0 where
    pub own : (p : ℕ) → p < sys.processes → (hs : List (Entry C)) (e : Entry C) (x : Outgoing C) → answer p hs e ≡ Some x
        → (x.link < sys.links) × (sys.source x.link ≡ p)
    pub reach : (k : ℕ) → k < sys.links → sys.source k < sys.processes → 1 ≤ sys.lookahead (sys.source k) + sys.delay k
    pub rising : (k : ℕ) → k < sys.links → Rising (sys.opening k)
