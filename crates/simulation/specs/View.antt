-- A run as its reader sees it: its parts, histories, clocks and safe events.
use Rattle.std.specs.Prelude.{◌≡◌, ℕ, ◌<◌, min, Bool, cond, ◌&&◌, ◌≢◌, ◌⊎◌, List, [], ◌∷◌, length, Some, None, Option, ◌==◌, nat_le, nat_lt}
use Rattle.model.specs.declared.event.Event.{Event}
use Rattle.model.specs.declared.record.Record.{Record}
use Rattle.model.specs.Lists.{oldest}
use Rattle.model.specs.Pile.{Pile}
use Rattle.model.specs.Shape.{Shape, target, in_links}

pub record View (C P : Type 0) : Type 0 where
  pub plan : Shape
  pub processes : List P
  pub links : Pile C
  pub log : List Record  -- oldest first
  pub room : ℕ  -- the log is full with so many records
  pub marked : ℕ → Bool  -- which processes have stepped in this round
  pub rounds : ℕ  -- the round count

-- The history of the process p: its records of a log.
abbrev pub history : ℕ → List Record → List Record
history p [] = []
history p (r ∷ rs) = cond (r.process == p) (r ∷ history p rs) (history p rs)

module _ {C : Type 0} where
  -- When a first event arrives, or the floor where there is none.
  abbrev pub due : Option (Event C) → ℕ → ℕ
  due None floor = floor
  due (Some e) floor = e.time

  -- The clock of a link: the arrival of its first waiting event; if nothing waits, the floor.
  abbrev pub link_clock : Pile C → ℕ → ℕ
  link_clock m k = due (oldest (m.waiting k)) (m.floor k)

  -- The smallest of the horizon and the clocks of these links.
  abbrev pub least_clock : Pile C → ℕ → List ℕ → ℕ
  least_clock m horizon [] = horizon
  least_clock m horizon (k ∷ ks) = min (link_clock m k) (least_clock m horizon ks)

  -- The clock of the process p: the smallest of the horizon and the clocks of its in-links.
  abbrev pub clock : Shape → Pile C → ℕ → ℕ
  clock plan m p = least_clock m plan.horizon (in_links plan p)

  -- The first event e of p's in-link i is safe: the clock of each other in-link is later, or equal with a higher number.
  pub record Safe (plan : Shape) (m : Pile C) (p i : ℕ) (e : Event C) : Type 0 where
    pub leads : target plan i ≡ Some p
    pub first : oldest (m.waiting i) ≡ Some e
    pub soon : e.time < plan.horizon
    pub sure : (j : ℕ) → target plan j ≡ Some p → j ≢ i → (e.time < link_clock m j) ⊎ ((link_clock m j ≡ e.time) × (i < j))

-- At most one event of a process is safe.
abbrev pub OneSafe : Type 0 → Type 0
OneSafe C = (plan : Shape) (m : Pile C) (p i j : ℕ) (d e : Event C) → Safe plan m p i d → Safe plan m p j e → (i ≡ j) × (d ≡ e)

module _ {C P : Type 0} (v : View C P) where
  -- There are as many processes and links as planned, and no more records than the log has room for.
  abbrev pub as_prepared : Bool
  as_prepared = length v.processes == v.plan.processes && v.links.count == length v.plan.links && nat_le (length v.log) v.room

  -- And p is one of the processes.
  abbrev pub has : ℕ → Bool
  has p = as_prepared && nat_lt p v.plan.processes
