-- How a run begins, and the runs that calls lead to.
use Rattle.std.specs.Prelude.{◌≡◌, ℕ, ◌<◌, ◌≤◌, min, true, false, List, [], ◌∷◌, length, None, Ok, Err, Result}
use Rattle.model.specs.declared.fault.LinkFault.{LinkFault}
use Rattle.model.specs.declared.opening.Opening.{Opening}
use Rattle.model.specs.declared.refusal.Unprepared.{Unprepared}
use Rattle.model.specs.declared.refusal.Unprepared.TheVariants.{WrongNumbers, NotFresh, NotOutside, LinkRefused, NoMemory}
use Rattle.model.specs.Linking.{PutDone, PutFails}
use Rattle.model.specs.Pile.{Pile, Fresh}
use Rattle.model.specs.Shape.{Shape, source, delay, outside_links, within}
use Rattle.simulation.specs.Net.{Program, Net}
use Rattle.simulation.specs.View.{View}
use Rattle.simulation.specs.Step.{Nulls}
use Rattle.simulation.specs.Calls.{Call, Answer, Does}

-- The link k is there and comes from outside.
abbrev pub Outside : Shape → ℕ → Type 0
Outside plan k = (k < length plan.links) × (source plan k ≡ None)

module _ {C : Type 0} (plan : Shape) where
  -- The link k is fresh and has the delay that the plan gives it.
  pub record Fits (m : Pile C) (k : ℕ) : Type 0 where
    pub fresh : Fresh m k
    pub delay : m.delay k ≡ delay plan k

  -- Each link does.
  abbrev pub AllFit : Pile C → Type 0
  AllFit m = (k : ℕ) → k < m.count → Fits m k

  -- These opening events are put, in order, each on a link from outside.
  pub data Opens : List (Opening C) → Pile C → Pile C → Type 0 where
    no_more : {m : Pile C} → Opens [] m m
    puts : {o : Opening C} {os : List (Opening C)} {m l n : Pile C} → Outside plan o.link → PutDone m o.link o.time o.cargo l → Opens os l n
        → Opens (o ∷ os) m n

  -- One of them is not put: the first whose link does not come from outside, or refuses it.
  pub data OpeningFails : List (Opening C) → Pile C → Unprepared → Pile C → Type 0 where
    inside : {o : Opening C} {os : List (Opening C)} {m : Pile C} → ¬ (Outside plan o.link) → OpeningFails (o ∷ os) m (NotOutside o.link) m
    refused : {o : Opening C} {os : List (Opening C)} {m : Pile C} {f : LinkFault} → Outside plan o.link → PutFails m o.link o.time f
        → OpeningFails (o ∷ os) m (LinkRefused o.link f) m
    later : {o : Opening C} {os : List (Opening C)} {m l n : Pile C} {r : Unprepared} → Outside plan o.link → PutDone m o.link o.time o.cargo l
        → OpeningFails os l r n → OpeningFails (o ∷ os) m r n

module _ {C P : Type 0} (net : Net C P) where
  -- The plan is within its limits, and there are as many processes as planned.
  pub record Limits : Type 0 where
    pub within : within net.plan ≡ true
    pub as_many : length net.processes ≡ net.plan.processes

  -- There are as many processes and links as planned.
  pub record AsPlanned (m : Pile C) : Type 0 where
    pub processes : length net.processes ≡ net.plan.processes
    pub links : m.count ≡ length net.plan.links

  -- A run just prepared: the opening events are put on fresh links, and then a null at the horizon on each link from outside.
  pub record Prepared (v : View C P) : Type 0 where
    pub limits : Limits
    pub fresh : Pile C  -- the links at first
    pub opened : Pile C  -- and with the opening events
    pub nulls : ℕ
    pub count : fresh.count ≡ length net.plan.links
    pub fits : AllFit net.plan fresh
    pub opens : Opens net.plan net.opening fresh opened
    pub tell : Nulls net.plan.horizon (outside_links net.plan) opened nulls v.links
    pub plan : v.plan ≡ net.plan
    pub processes : v.processes ≡ net.processes
    pub log : v.log ≡ []
    pub room : v.room ≤ 65536
    pub marked : (p : ℕ) → v.marked p ≡ false
    pub rounds : v.rounds ≡ 0

  -- Prepare, on the links m and with a log of this size: its answer, and the links after it. Want of memory, which is not told of here, may refuse before anything is put.
  pub data Prepares (m : Pile C) (size : ℕ) : Result (View C P) Unprepared → Pile C → Type 0 where
    wrong_numbers : ¬ (AsPlanned m) → Prepares m size (Err WrongNumbers) m
    not_fresh : {k : ℕ} → AsPlanned m → k < m.count → ¬ (Fits net.plan m k) → ((j : ℕ) → j < k → Fits net.plan m j)
        → Prepares m size (Err (NotFresh k)) m
    not_opened : {r : Unprepared} {n : Pile C} → AsPlanned m → AllFit net.plan m → OpeningFails net.plan net.opening m r n
        → Prepares m size (Err r) n
    ready : {v : View C P} (p : Prepared v) → p.fresh ≡ m → v.room ≡ min size 65536 → Prepares m size (Ok v) v.links
    no_memory : AsPlanned m → AllFit net.plan m → Prepares m size (Err NoMemory) m

module _ {C P : Type 0} (g : Program C P) (net : Net C P) where
  -- The run v stands after these calls, the newest first.
  pub data After : List Call → View C P → Type 0 where
    prepared : {v : View C P} → Prepared net v → After [] v
    called : {cs : List Call} {v w : View C P} (c : Call) (a : Answer C c) → After cs v → Does g c v a w → After (c ∷ cs) w
