-- Links of which each holds no more events than its quota.
use Rattle.std.specs.Prelude.{◌≡◌, ℕ, ◌+◌, ◌-◌, ◌<◌, ◌≤◌, min, max, ◌≢◌, List, ◌∷◌, length, Some, Ok, Err, Result, slice_index}
use Rattle.model.specs.declared.fault.LinkFault.{LinkFault}
use Rattle.model.specs.declared.fault.SettingFault.{SettingFault}
use Rattle.model.specs.Pile.{Pile, Fresh}
use Rattle.model.specs.Linking.{Timely, NullFails}
use Rattle.layers.specs.Layer.{Setting}

-- The largest quota of a link.
abbrev pub largest_quota : ℕ
largest_quota = 65535

module _ {C : Type 0} where
  -- The quota of the link k: what is left of it, and what waits. That is the setting as long as only the layer puts and
  -- takes, and then it is always from 1 to the largest quota.
  abbrev pub quota_of : Pile C → List ℕ → ℕ → ℕ
  quota_of m left k = max 1 (min (slice_index left k + length (m.waiting k)) largest_quota)

  -- How many more events the quota of the link k lets wait.
  abbrev pub unused : Pile C → List ℕ → ℕ → ℕ
  unused m left k = quota_of m left k - length (m.waiting k)

  -- The links m, with so much left of the quota of each.
  abbrev pub rationed : Pile C → List ℕ → Pile C
  rationed m left = record {
    count = m.count;
    waiting = m.waiting;
    floor = m.floor;
    delay = m.delay;
    free = λ k. min (m.free k) (unused m left k);
    capacity = λ k. min (quota_of m left k) (m.capacity k);
    quotas = λ k. Some (quota_of m left k) ∷ m.quotas k;
  }

  -- Whether an event or a null may be put on the link k at time t, as far as time goes.
  abbrev pub TimeChecked : Pile C → ℕ → ℕ → Result (Unit {0}) LinkFault → Type 0
  TimeChecked m k t (Ok done) = Timely m k t
  TimeChecked m k t (Err fault) = NullFails m k t fault

  -- The quota q suits the link k of the layer: the link is fresh, and the quota is within its limits.
  pub record QuotaSuits (m : Pile C) (left : List ℕ) (k q : ℕ) : Type 0 where
    pub fresh : Fresh (rationed m left) k
    pub some : 1 ≤ q
    pub small : q ≤ largest_quota

  -- What the table of the layer holds after the link k was to be set to the quota q: nothing waits there, so all is left.
  abbrev pub QuotaTable : Pile C → List ℕ → ℕ → ℕ → Result (Unit {0}) SettingFault → List ℕ → Type 0
  QuotaTable m left k q r after = Setting m.count (QuotaSuits m left k q) left k q r after

  -- A layer p over the links m has become n: the link k has the quota q. Nothing else has changed.
  pub record QuotaDone (m p : Pile C) (k q : ℕ) (n : Pile C) : Type 0 where
    pub count : n.count ≡ p.count
    pub waiting : (j : ℕ) → j < p.count → n.waiting j ≡ p.waiting j
    pub floor : (j : ℕ) → j < p.count → n.floor j ≡ p.floor j
    pub delay : (j : ℕ) → j < p.count → n.delay j ≡ p.delay j
    pub free : n.free k ≡ min (m.free k) q
    pub capacity : n.capacity k ≡ min q (m.capacity k)
    pub quotas : n.quotas k ≡ Some q ∷ m.quotas k
    pub other_free : (j : ℕ) → j < p.count → j ≢ k → n.free j ≡ p.free j
    pub other_capacity : (j : ℕ) → j < p.count → j ≢ k → n.capacity j ≡ p.capacity j
    pub other_quotas : (j : ℕ) → j < p.count → j ≢ k → n.quotas j ≡ p.quotas j

  -- What the layer means after the link k was to be set to the quota q. A refusal changes nothing.
  abbrev pub QuotaSet : Pile C → List ℕ → ℕ → ℕ → Result (Unit {0}) SettingFault → Pile C → Type 0
  QuotaSet m left k q (Ok done) n = QuotaDone m (rationed m left) k q n
  QuotaSet m left k q (Err fault) n = n ≡ rationed m left
