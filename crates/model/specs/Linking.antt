-- What each call of the links does: the meaning before, the arguments, the answer, and the meaning after.
use Rattle.std.specs.Prelude.{◌≡◌, ℕ, ◌+◌, ◌<◌, ◌≤◌, ◌≢◌, [], ◌∷◌, ◌++◌, length, Ok, Err, Option, Result}
use Rattle.model.specs.declared.event.Event.{Event}
use Rattle.model.specs.declared.fault.LinkFault.{LinkFault}
use Rattle.model.specs.declared.fault.LinkFault.TheVariants.{NoSuchLink, PastLastTime, BelowFloor, Full, NothingWaits}
use Rattle.model.specs.Lists.{oldest}
use Rattle.model.specs.Pile.{Pile, last_time, spent_layer}

module _ {C : Type 0} where
  -- What no call changes on the link j: its delay, its capacity and its quotas.
  pub record Settled (m n : Pile C) (j : ℕ) : Type 0 where
    pub delay : n.delay j ≡ m.delay j
    pub capacity : n.capacity j ≡ m.capacity j
    pub quotas : n.quotas j ≡ m.quotas j

  -- What no call changes anywhere: how many links there are, and their settings.
  pub record Steady (m n : Pile C) : Type 0 where
    pub count : n.count ≡ m.count
    pub settled : (j : ℕ) → j < m.count → Settled m n j

  -- A call on the link k changes no other link j, but perhaps its free places.
  pub record Apart (m n : Pile C) (k : ℕ) : Type 0 where
    pub waiting : (j : ℕ) → j < m.count → j ≢ k → n.waiting j ≡ m.waiting j
    pub floor : (j : ℕ) → j < m.count → j ≢ k → n.floor j ≡ m.floor j

  -- The link k is there, and an event or a null may be put on it at time t.
  pub record Timely (m : Pile C) (k t : ℕ) : Type 0 where
    pub there : k < m.count
    pub soon : t ≤ last_time
    pub behind : m.floor k ≤ t + m.delay k

  -- An event was put on the link k at time t: it waits last. Elsewhere free places may fall, by one at most.
  pub record PutDone (m : Pile C) (k t : ℕ) (c : C) (n : Pile C) : Type 0 where
    pub timely : Timely m k t
    pub steady : Steady m n
    pub apart : Apart m n k
    pub waiting : n.waiting k ≡ m.waiting k ++ (record { time = t + m.delay k; cargo = c } ∷ [])
    pub floor : n.floor k ≡ t + m.delay k
    pub free : n.free k + 1 ≡ m.free k
    pub falls : (j : ℕ) → j < m.count → j ≢ k → (n.free j ≤ m.free j) × (m.free j ≤ n.free j + 1)

  -- A null was put on the link k at time t: its floor is raised, and nothing else changes anywhere.
  pub record NullDone (m : Pile C) (k t : ℕ) (n : Pile C) : Type 0 where
    pub timely : Timely m k t
    pub steady : Steady m n
    pub apart : Apart m n k
    pub waiting : n.waiting k ≡ m.waiting k
    pub floor : n.floor k ≡ t + m.delay k
    pub free : (j : ℕ) → j < m.count → n.free j ≡ m.free j

  -- The oldest event e of the link k was taken. Elsewhere free places may rise.
  pub record TakeDone (m : Pile C) (k : ℕ) (e : Event C) (n : Pile C) : Type 0 where
    pub there : k < m.count
    pub steady : Steady m n
    pub apart : Apart m n k
    pub waiting : m.waiting k ≡ e ∷ n.waiting k
    pub floor : n.floor k ≡ m.floor k
    pub free : n.free k ≡ m.free k + 1
    pub rises : (j : ℕ) → j < m.count → j ≢ k → m.free j ≤ n.free j

  -- Why a null is refused: the first reason counts.
  abbrev pub NullFails : Pile C → ℕ → ℕ → LinkFault → Type 0
  NullFails m k t NoSuchLink = m.count ≤ k
  NullFails m k t PastLastTime = (k < m.count) × (last_time < t)
  NullFails m k t BelowFloor = (k < m.count) × (t ≤ last_time) × (t + m.delay k < m.floor k)
  NullFails m k t (Full layer) = ⊥
  NullFails m k t NothingWaits = ⊥

  -- Why a put is refused: as a null, or for want of a place, which the topmost spent quota answers for, else the store.
  abbrev pub PutFails : Pile C → ℕ → ℕ → LinkFault → Type 0
  PutFails m k t NoSuchLink = NullFails m k t NoSuchLink
  PutFails m k t PastLastTime = NullFails m k t PastLastTime
  PutFails m k t BelowFloor = NullFails m k t BelowFloor
  PutFails m k t (Full layer) = Timely m k t × (m.free k ≡ 0) × (layer ≡ spent_layer (m.quotas k) (length (m.waiting k)))
  PutFails m k t NothingWaits = ⊥

  -- Why a take is refused.
  abbrev pub TakeFails : Pile C → ℕ → LinkFault → Type 0
  TakeFails m k NoSuchLink = m.count ≤ k
  TakeFails m k PastLastTime = ⊥
  TakeFails m k BelowFloor = ⊥
  TakeFails m k (Full layer) = ⊥
  TakeFails m k NothingWaits = (k < m.count) × (m.waiting k ≡ [])

  -- Why a question is refused.
  abbrev pub AskFails : Pile C → ℕ → LinkFault → Type 0
  AskFails m k NoSuchLink = m.count ≤ k
  AskFails m k PastLastTime = ⊥
  AskFails m k BelowFloor = ⊥
  AskFails m k (Full layer) = ⊥
  AskFails m k NothingWaits = ⊥

  -- A put. A refusal changes nothing, here and below.
  abbrev pub Put : Pile C → ℕ → ℕ → C → Result (Unit {0}) LinkFault → Pile C → Type 0
  Put m k t c (Ok done) n = PutDone m k t c n
  Put m k t c (Err fault) n = PutFails m k t fault × (n ≡ m)

  -- A null.
  abbrev pub Null : Pile C → ℕ → ℕ → Result (Unit {0}) LinkFault → Pile C → Type 0
  Null m k t (Ok done) n = NullDone m k t n
  Null m k t (Err fault) n = NullFails m k t fault × (n ≡ m)

  -- A take.
  abbrev pub Take : Pile C → ℕ → Result (Event C) LinkFault → Pile C → Type 0
  Take m k (Ok e) n = TakeDone m k e n
  Take m k (Err fault) n = TakeFails m k fault × (n ≡ m)

  -- The first event of the link k, or none.
  abbrev pub First : Pile C → ℕ → Result (Option (Event C)) LinkFault → Type 0
  First m k (Ok first) = (k < m.count) × (first ≡ oldest (m.waiting k))
  First m k (Err fault) = AskFails m k fault

  -- A question about the link k, to which x is the answer.
  abbrev pub Asked : Pile C → ℕ → ℕ → Result ℕ LinkFault → Type 0
  Asked m k x (Ok y) = (k < m.count) × (y ≡ x)
  Asked m k x (Err fault) = AskFails m k fault
