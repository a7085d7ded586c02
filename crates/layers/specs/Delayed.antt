-- Links with a delay added to each.
use Rattle.std.specs.Prelude.{◌≡◌, ℕ, ◌+◌, ◌-◌, ◌<◌, ◌≤◌, min, ◌≢◌, List, ◌∷◌, map, None, Ok, Err, Result, slice_index}
use Rattle.model.specs.declared.event.Event.{Event}
use Rattle.model.specs.declared.fault.SettingFault.{SettingFault}
use Rattle.model.specs.Sums.{largest}
use Rattle.model.specs.Pile.{Pile, Fresh}
use Rattle.model.specs.Linking.{Apart}
use Rattle.layers.specs.Layer.{Setting}

-- The longest delay of a link.
abbrev pub longest_delay : ℕ
longest_delay = 1000000

-- So much later, but not past the largest number. That stop is never reached: nothing is put past the last time, and
-- no delay is longer than the longest.
abbrev pub raised : ℕ → ℕ → ℕ
raised by time = time + min by (largest - time)

module _ {C : Type 0} where
  -- The event, arriving so much later.
  abbrev pub later : ℕ → Event C → Event C
  later by e = record { time = raised by e.time; cargo = e.cargo }

  -- What the layer adds on the link k: its setting, so far as the longest delay leaves room above the links below.
  -- A setting that was taken has that room, since the links below keep their delays.
  abbrev pub added : Pile C → List ℕ → ℕ → ℕ
  added m extra k = min (slice_index extra k) (longest_delay - m.delay k)

  -- The links m, with what the layer adds to each.
  abbrev pub delayed : Pile C → List ℕ → Pile C
  delayed m extra = record {
    count = m.count;
    waiting = λ k. map (later (added m extra k)) (m.waiting k);
    floor = λ k. m.floor k + added m extra k;
    delay = λ k. m.delay k + added m extra k;
    free = m.free;
    capacity = m.capacity;
    quotas = λ k. None ∷ m.quotas k;
  }

  -- The delay d suits the link k of the layer: the link is fresh, and the links below leave room for d.
  pub record DelaySuits (m : Pile C) (extra : List ℕ) (k d : ℕ) : Type 0 where
    pub fresh : Fresh (delayed m extra) k
    pub near : m.delay k + d ≤ longest_delay

  -- What the table of the layer holds after the link k was to be set to the delay d.
  abbrev pub DelayTable : Pile C → List ℕ → ℕ → ℕ → Result (Unit {0}) SettingFault → List ℕ → Type 0
  DelayTable m extra k d r after = Setting m.count (DelaySuits m extra k d) extra k d r after

  -- A layer p over the links m has become n: the link k is fresh, and has the delay d above the one below. Nothing else
  -- has changed.
  pub record DelayDone (m p : Pile C) (k d : ℕ) (n : Pile C) : Type 0 where
    pub count : n.count ≡ p.count
    pub delay : n.delay k ≡ m.delay k + d
    pub fresh : Fresh n k
    pub apart : Apart p n k
    pub delays : (j : ℕ) → j < p.count → j ≢ k → n.delay j ≡ p.delay j
    pub free : (j : ℕ) → j < p.count → n.free j ≡ p.free j
    pub capacity : (j : ℕ) → j < p.count → n.capacity j ≡ p.capacity j
    pub quotas : (j : ℕ) → j < p.count → n.quotas j ≡ p.quotas j

  -- What the layer means after the link k was to be set to the delay d. A refusal changes nothing.
  abbrev pub DelaySet : Pile C → List ℕ → ℕ → ℕ → Result (Unit {0}) SettingFault → Pile C → Type 0
  DelaySet m extra k d (Ok done) n = DelayDone m (delayed m extra) k d n
  DelaySet m extra k d (Err fault) n = n ≡ delayed m extra
