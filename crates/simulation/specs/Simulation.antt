-- The sequential simulation of a net: one event after the other, the lowest first.
use Rattle.std.specs.Prelude.{ℕ, zero, suc, ◌+◌, ◌-◌, ◌*◌, ◌/◌, min, Bool, cond, ◌&&◌, ◌||◌, List, [], ◌∷◌, ◌++◌, length, Some, None, Option, ◌==◌, nat_lt}
use mathlib.Core.List.{tail}
use Rattle.model.specs.declared.event.Event.{Event}
use Rattle.model.specs.declared.opening.Opening.{Opening}
use Rattle.model.specs.declared.record.Record.{Record}
use Rattle.model.specs.declared.refusal.Breach.{Breach}
use Rattle.model.specs.Lists.{at, oldest, update, only_if, is_none, then, total}
use Rattle.model.specs.Shape.{Shape, source, target, delay}
use Rattle.simulation.specs.Net.{Program, Net, Outgoing, breach_of, handle, record_of}

-- The first pending event of a link, and the process to which it comes.
pub record Choice (C : Type 0) : Type 0 where
  pub process : ℕ
  pub link : ℕ
  pub event : Event C

-- At which event a process was stopped, and by which breach.
pub record Stop (C : Type 0) : Type 0 where
  pub choice : Choice C
  pub breach : Breach

-- How far a simulation has come.
pub record Sim (C P : Type 0) : Type 0 where
  pub state : ℕ → Option P  -- of each process that there is
  pub pending : ℕ → List (Event C)  -- on each link, oldest first
  pub last : ℕ → ℕ  -- the last arrival put on each link, or its delay before any
  pub stopped : ℕ → Option (Stop C)  -- of each process that is stopped
  pub history : ℕ → List Record  -- of each process, oldest first

-- What is put on the link k at a time, as it arrives there.
abbrev pub arriving : {C : Type 0} → Shape → ℕ → ℕ → C → Event C
arriving plan k time cargo = record { time = time + delay plan k; cargo = cargo }

-- The arrival of the last of these events, or t where there is none.
abbrev pub last_arrival : {C : Type 0} → ℕ → List (Event C) → ℕ
last_arrival t [] = t
last_arrival t (e ∷ es) = last_arrival e.time es

module _ {C : Type 0} where
  -- Whether a comes before b: by arrival, among equals by process, among equals by link.
  abbrev pub before : Choice C → Choice C → Bool
  before a b =
      nat_lt a.event.time b.event.time
      || (a.event.time == b.event.time
      && (nat_lt a.process b.process
      || (a.process == b.process && nat_lt a.link b.link)))

  -- The lower of two, as far as they are there.
  abbrev pub lower : Option (Choice C) → Option (Choice C) → Option (Choice C)
  lower None b = b
  lower (Some a) None = Some a
  lower (Some a) (Some b) = cond (before b a) (Some b) (Some a)

  -- What goes out is appended to what is pending on its link.
  abbrev pub pending_with : Shape → Option (Outgoing C) → (ℕ → List (Event C)) → ℕ → List (Event C)
  pending_with plan None pending = pending
  pending_with plan (Some x) pending = update pending x.link (pending x.link ++ (arriving plan x.link x.time x.cargo ∷ []))

  -- Its arrival is the last one there.
  abbrev pub last_with : Shape → Option (Outgoing C) → (ℕ → ℕ) → ℕ → ℕ
  last_with plan None last = last
  last_with plan (Some x) last = update last x.link (x.time + delay plan x.link)

module _ {C P : Type 0} (net : Net C P) where
  -- The opening events of the link k, in their order, as they arrive.
  abbrev pub opening_on : ℕ → List (Opening C) → List (Event C)
  opening_on k [] = []
  opening_on k (o ∷ os) = cond (o.link == k) (arriving net.plan k o.time o.cargo ∷ opening_on k os) (opening_on k os)

  -- The start: first states and opening events.
  abbrev pub start : Sim C P
  start = record {
    state = at net.processes;
    pending = λ k. opening_on k net.opening;
    last = λ k. last_arrival (delay net.plan k) (opening_on k net.opening);
    stopped = λ _. None;
    history = λ _. [];
  }

  -- The first pending event of the link k, if it arrives before the horizon at a process that is not stopped.
  abbrev pub candidate : Sim C P → ℕ → Option (Choice C)
  candidate s k =
      then (target net.plan k) (λ p. then (oldest (s.pending k)) (λ e.
      only_if (nat_lt e.time net.plan.horizon && is_none (s.stopped p)) (record { process = p; link = k; event = e })))

  -- The lowest of those of the links below a number.
  abbrev pub lowest_below : ℕ → Sim C P → Option (Choice C)
  lowest_below zero s = None
  lowest_below (suc k) s = lower (lowest_below k s) (candidate s k)

  -- The lowest of them all, if any is left.
  abbrev pub lowest : Sim C P → Option (Choice C)
  lowest s = lowest_below (length net.plan.links) s

module _ {C P : Type 0} where
  -- A breach stops the process: the event stays pending, the state stays, and nothing is sent.
  abbrev pub stop_process : Sim C P → Choice C → Breach → Sim C P
  stop_process s c b = record {
    state = s.state;
    pending = s.pending;
    last = s.last;
    stopped = update s.stopped c.process (Some (record { choice = c; breach = b }));
    history = s.history;
  }

module _ {C P : Type 0} (g : Program C P) (net : Net C P) where
  -- The event is taken: the state changes, what goes out is appended, and the history grows.
  abbrev pub take_event : Sim C P → Choice C → P → Option (Outgoing C) → Sim C P
  take_event s c next sent = record {
    state = update s.state c.process (Some next);
    pending = pending_with net.plan sent (update s.pending c.link (tail (s.pending c.link)));
    last = last_with net.plan sent s.last;
    stopped = s.stopped;
    history = update s.history c.process (s.history c.process ++ (record_of g c.process c.link c.event ∷ []));
  }

  -- A breach stops the process; without one the event is taken.
  abbrev pub settle : Sim C P → Choice C → P × Option (Outgoing C) → Option Breach → Sim C P
  settle s c (next, sent) None = take_event s c next sent
  settle s c (next, sent) (Some b) = stop_process s c b

  -- The process of c, in its state, does with the event what its rule says.
  abbrev pub act : Sim C P → Choice C → Option P → Sim C P
  act s c None = s
  act s c (Some x) =
      let done = handle g net.plan c.process x c.link c.event in
      settle s c done (breach_of c.process (c.event.time + g.lookahead x) (delay net.plan) s.last done.1)

  -- One turn, with the choice if there is one.
  abbrev pub turn : Sim C P → Option (Choice C) → Sim C P
  turn s None = s
  turn s (Some c) = act s c (s.state c.process)

  -- So many turns.
  abbrev pub turns : ℕ → Sim C P → Sim C P
  turns zero s = s
  turns (suc n) s = turns n (turn s (lowest net s))

  -- Turns that leave nothing to choose: each event makes at most one more, which is later, and a process stops once.
  abbrev pub enough : ℕ
  enough = length net.opening * net.plan.horizon + net.plan.processes

  -- The end of the simulation.
  abbrev pub simulated : Sim C P
  simulated = turns enough (start net)

  -- E: how many events are taken in all.
  abbrev pub events : ℕ
  events = total net.plan.processes (λ p. length (simulated.history p))

-- The smaller of r and the other number, if there is one.
abbrev pub lesser : ℕ → Option ℕ → ℕ
lesser r None = r
lesser r (Some q) = min r q

-- How often r, if there is one, goes into the horizon, rounded up.
abbrev pub crossings : ℕ → Option ℕ → ℕ
crossings horizon None = 0
crossings horizon (Some r) = (horizon + (r - 1)) / r

-- The lookahead of a process that is there.
abbrev pub lookahead_of : {C P : Type 0} → Program C P → Option P → ℕ
lookahead_of g None = 0
lookahead_of g (Some x) = g.lookahead x

module _ {C P : Type 0} (g : Program C P) (net : Net C P) where
  -- The reach of the link k, which leads from p.
  abbrev pub reach : ℕ → ℕ → ℕ
  reach p k = lookahead_of g (at net.processes p) + delay net.plan k

  -- The smallest reach with that of one link more, if it leads from a process.
  abbrev pub with_reach : ℕ → Option ℕ → Option ℕ → Option ℕ
  with_reach k None r = r
  with_reach k (Some p) r = Some (lesser (reach p k) r)

  -- The smallest reach of the links below a number, if one of them leads from a process.
  abbrev pub least_reach : ℕ → Option ℕ
  least_reach zero = None
  least_reach (suc k) = with_reach k (source net.plan k) (least_reach k)

  -- R, the round figure: E, and the horizon divided by the smallest reach, rounded up.
  abbrev pub round_figure : ℕ
  round_figure = events g net + crossings net.plan.horizon (least_reach (length net.plan.links))
