-- What the layers share: the faults that they pass on, how they begin, and how they take a setting.
use Rattle.std.specs.Prelude.{◌≡◌, ℕ, ◌<◌, ◌≤◌, Bool, true, false, List, ◌∷◌, Ok, Err, Option, Result, slice_set}
use Rattle.model.specs.declared.fault.LinkFault.{LinkFault}
use Rattle.model.specs.declared.fault.LinkFault.TheVariants as link
use Rattle.model.specs.declared.fault.SettingFault.{SettingFault}
use Rattle.model.specs.declared.fault.SettingFault.TheVariants.{NoSuchLink, Unsuitable}
use Rattle.model.specs.Sums.{plus}
use Rattle.model.specs.Pile.{Pile, Fresh}
use Rattle.model.specs.Linking.{AskFails}

-- A fault of the links below, one layer further up: the layer that it names stands one lower there.
abbrev pub lowered : LinkFault → LinkFault
lowered link.NoSuchLink = link.NoSuchLink
lowered link.PastLastTime = link.PastLastTime
lowered link.BelowFloor = link.BelowFloor
lowered (link.Full layer) = link.Full (plus layer 1)
lowered link.NothingWaits = link.NothingWaits

-- A new layer n over the links m leaves each link as it is. Its own quota, if it has one, stands on top.
pub record Laid {C : Type 0} (quota : Option ℕ) (m n : Pile C) : Type 0 where
  pub count : n.count ≡ m.count
  pub waiting : (k : ℕ) → k < m.count → n.waiting k ≡ m.waiting k
  pub floor : (k : ℕ) → k < m.count → n.floor k ≡ m.floor k
  pub delay : (k : ℕ) → k < m.count → n.delay k ≡ m.delay k
  pub free : (k : ℕ) → k < m.count → n.free k ≡ m.free k
  pub capacity : (k : ℕ) → k < m.count → n.capacity k ≡ m.capacity k
  pub quotas : (k : ℕ) → k < m.count → n.quotas k ≡ quota ∷ m.quotas k

-- Whether the link k is fresh, if it is there.
abbrev pub Freshness : {C : Type 0} → Pile C → ℕ → Result Bool LinkFault → Type 0
Freshness m k (Ok true) = (k < m.count) × Fresh m k
Freshness m k (Ok false) = (k < m.count) × (Fresh m k → ⊥)
Freshness m k (Err fault) = AskFails m k fault

-- A layer over so many links is asked to set the link k to x. It does if the link is there and x suits it; else its table stays.
abbrev pub Setting : ℕ → Type 0 → List ℕ → ℕ → ℕ → Result (Unit {0}) SettingFault → List ℕ → Type 0
Setting count suits table k x (Ok done) after = (k < count) × suits × (after ≡ slice_set table k x)
Setting count suits table k x (Err NoSuchLink) after = (count ≤ k) × (after ≡ table)
Setting count suits table k x (Err Unsuitable) after = (k < count) × (suits → ⊥) × (after ≡ table)
