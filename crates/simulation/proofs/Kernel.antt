-- A conservative kernel, told by histories: processes step in any order, each by what its own links say.
use Rattle.std.proofs.Common.{◌≡◌, ℕ, zero, suc, ◌+◌, ◌<◌, min, max, Bool, true, false, cond, eqb, ◌≢◌, List, [], ◌∷◌, length, Some, None, Option}
use mathlib.Core.Logic.{ite}
use native.Mathlib.Decide.{dec_lt}
use Rattle.model.specs.declared.event.Event.{Event}
use Rattle.model.specs.Lists.{update, total}
use Rattle.simulation.specs.Net.{Outgoing}
use Rattle.simulation.specs.View.{due}
use Rattle.simulation.proofs.System.{System, Entry, Before, newest, next, answer, Fine}

-- How far a kernel has come: the history of each process, and the floor of each link.
pub record Kernel (C : Type 0) : Type 0 where
  pub h : ℕ → List (Entry C)
  pub floor : ℕ → ℕ

-- A kernel, which processes have stepped in this round, and how many rounds are over.
pub record Counted (C : Type 0) : Type 0 where
  pub kernel : Kernel C
  pub marked : ℕ → Bool
  pub rounds : ℕ

-- How many events the processes below n took.
abbrev pub events : {A : Type 0} → ℕ → (ℕ → List A) → ℕ
events n h = total n (λ p. length (h p))

module _ {C S : Type 0} (sys : System C S) where
  -- The last arrival of a link at first.
  abbrev pub opened_floor : ℕ → ℕ
  opened_floor k = newest (sys.delay k) (sys.opening k)

  -- And with the null at the horizon.
  abbrev pub nulled_floor : ℕ → ℕ
  nulled_floor k = max (opened_floor k) (sys.horizon + sys.delay k)

  -- The floor of a link at first: only on a link from outside is there that null.
  unfoldable pub first_floor : ℕ → ℕ
  first_floor k = ite (dec_lt (sys.source k) sys.processes) (opened_floor k) (nulled_floor k)

  -- A kernel that has just been prepared.
  abbrev pub boot : Kernel C
  boot = record { h = λ (p : ℕ). []; floor = first_floor }

  -- The first event that waits on a link.
  abbrev pub waiting : Kernel C → ℕ → Option (Event C)
  waiting s k = next sys k (s.h (sys.source k)) (s.h (sys.target k))

  -- The clock of a link.
  abbrev pub link_clock : Kernel C → ℕ → ℕ
  link_clock s k = due (waiting s k) (s.floor k)

  -- The smallest of the horizon and the clocks of those links below a number that lead to p.
  unfoldable pub clock_below : Kernel C → ℕ → ℕ → ℕ
  clock_below s p zero = sys.horizon
  clock_below s p (suc k) = cond (eqb (sys.target k) p) (min (link_clock s k) (clock_below s p k)) (clock_below s p k)

  -- The clock of p.
  abbrev pub clock : Kernel C → ℕ → ℕ
  clock s p = clock_below s p sys.links

  -- The event e waits at p, and nothing that may still come to p comes before it.
  pub record Safe (s : Kernel C) (p : ℕ) (e : Entry C) : Type 0 where
    pub is_link : e.link < sys.links
    pub is_process : p < sys.processes
    pub mine : sys.target e.link ≡ p
    pub waits : waiting s e.link ≡ Some e.event
    pub soon : e.event.time < sys.horizon
    pub sure : (j : ℕ) → j < sys.links → sys.target j ≡ p → j ≢ e.link → Before e.event.time e.link (link_clock s j) j

  -- The floors, with that of the link sent on at the arrival.
  unfoldable pub raised : Option (Outgoing C) → (ℕ → ℕ) → ℕ → ℕ
  raised None f k = f k
  raised (Some x) f k = update f x.link (x.time + sys.delay x.link) k

  -- p takes e.
  abbrev pub take_event : Kernel C → ℕ → Entry C → Kernel C
  take_event s p e = record { h = update s.h p (e ∷ s.h p); floor = raised (answer sys p (s.h p) e) s.floor }

  -- From when on something may still come on the link k of p.
  abbrev pub promise : Kernel C → ℕ → ℕ → ℕ
  promise s p k = clock s p + sys.lookahead p + sys.delay k

  -- p puts nulls that say so on all its links.
  abbrev pub tell : Kernel C → ℕ → Kernel C
  tell s p = record { h = s.h; floor = λ (k : ℕ). cond (eqb (sys.source k) p) (max (s.floor k) (promise s p k)) (s.floor k) }

  -- A step of p: it takes a safe event that breaches nothing, or none is safe; and then it tells.
  pub data Act (s : Kernel C) (p : ℕ) : Kernel C → Type 0 where
    idle : p < sys.processes → ((e : Entry C) → ¬ (Safe s p e)) → Act s p (tell s p)
    takes : (e : Entry C) → Safe s p e → Fine sys p (s.h p) e s.floor → Act s p (tell (take_event s p e) p)

  -- Every process is marked.
  abbrev pub Everyone : (ℕ → Bool) → Type 0
  Everyone marked = (q : ℕ) → q < sys.processes → marked q ≡ true

  -- A step that is refused changes nothing; any other marks its process, and may end the round.
  pub data Tick (c : Counted C) : Counted C → Type 0 where
    refused : Tick c c
    marks : {p : ℕ} {s : Kernel C} → Act c.kernel p s → ¬ (Everyone (update c.marked p true))
        → Tick c (record { kernel = s; marked = update c.marked p true; rounds = c.rounds })
    rounds_up : {p : ℕ} {s : Kernel C} → Act c.kernel p s → Everyone (update c.marked p true)
        → Tick c (record { kernel = s; marked = λ (q : ℕ). false; rounds = suc c.rounds })

  -- A kernel gets to c by steps.
  pub data Gets : Counted C → Type 0 where
    boots : Gets (record { kernel = boot; marked = λ (q : ℕ). false; rounds = 0 })
    ticks : {c d : Counted C} → Gets c → Tick c d → Gets d
