-- What the links of a run mean, whatever holds them.
use Rattle.std.specs.Prelude.{◌≡◌, ℕ, ◌+◌, ◌<◌, ◌≤◌, Bool, false, cond, List, [], ◌∷◌, length, Some, None, Option, nat_le}
use Rattle.model.specs.declared.event.Event.{Event}
use Rattle.model.specs.Sums.{plus}

-- Nothing is put at a later time.
abbrev pub last_time : ℕ
last_time = 1000000000

pub record Pile (C : Type 0) : Type 0 where
  pub count : ℕ  -- the links are the numbers below it
  pub waiting : ℕ → List (Event C)  -- on each link, oldest first
  pub floor : ℕ → ℕ  -- nothing will be put to arrive below it
  pub delay : ℕ → ℕ  -- from the time of a put to its arrival
  pub free : ℕ → ℕ  -- the places left
  pub capacity : ℕ → ℕ  -- the places in all
  pub quotas : ℕ → List (Option ℕ)  -- of the layers above the store, from the top down; none where a layer sets none

-- Whether a layer's quota is used up by n events.
abbrev pub used_up : Option ℕ → ℕ → Bool
used_up None n = false
used_up (Some quota) n = nat_le quota n

-- The topmost layer whose quota is used up by n events, counted from 0; if there is none, the store below them all.
abbrev pub spent_layer : List (Option ℕ) → ℕ → ℕ
spent_layer [] n = 0
spent_layer (q ∷ qs) n = cond (used_up q n) 0 (plus (spent_layer qs n) 1)

module _ {C : Type 0} (m : Pile C) where
  -- Nothing waits on any link.
  abbrev pub AllEmpty : Type 0
  AllEmpty = (k : ℕ) → k < m.count → m.waiting k ≡ []

  -- Nothing waits on the link k, and its floor is its delay.
  pub record Fresh (k : ℕ) : Type 0 where
    pub empty : m.waiting k ≡ []
    pub floor : m.floor k ≡ m.delay k

  -- What every pile keeps.
  pub record Sound : Type 0 where
    pub few : m.count ≤ 128
    pub near : (k : ℕ) → k < m.count → m.delay k ≤ 1000000
    pub low : (k : ℕ) → k < m.count → m.floor k ≤ last_time + m.delay k
    pub not_none : (k : ℕ) → k < m.count → 1 ≤ m.capacity k
    pub wide : (k : ℕ) → k < m.count → m.capacity k ≤ 65535
    pub room : (k : ℕ) → k < m.count → m.free k + length (m.waiting k) ≤ m.capacity k
    pub clear : AllEmpty → (k : ℕ) → k < m.count → m.free k ≡ m.capacity k
