-- The links of a run: delay over quota over a store, each link set as planned.
use Rattle.std.specs.Prelude.{◌≡◌, ℕ, ◌+◌, ◌<◌, ◌≤◌, List, [], ◌∷◌, map, length, get_or, replicate, Some, None, Option, slice_set}
use Rattle.std.specs.Option.{ForSome}
use Rattle.model.specs.declared.link.Link.{Link}
use Rattle.model.specs.Pile.{Pile, Fresh}
use Rattle.layers.specs.Delayed.{delayed}
use Rattle.layers.specs.Rationed.{rationed}
use Rattle.records.specs.declared.reading.kinds.PlannedLink.{PlannedLink}

-- The links that are planned, without their quotas.
abbrev pub links_in : List PlannedLink → List Link
links_in planned = map (λ p. p.link) planned

-- A table of delays, with those of these links from the link k on.
abbrev pub delays_from : ℕ → List PlannedLink → List ℕ → List ℕ
delays_from k [] table = table
delays_from k (p ∷ ps) table = delays_from (k + 1) ps (slice_set table k p.link.delay)

-- A table of quotas, with that of the link k, if it is to be set.
abbrev pub quota_at : ℕ → Option ℕ → List ℕ → List ℕ
quota_at k None table = table
quota_at k (Some q) table = slice_set table k q

-- A table of quotas, with those of these links from the link k on.
abbrev pub quotas_from : ℕ → List PlannedLink → List ℕ → List ℕ
quotas_from k [] table = table
quotas_from k (p ∷ ps) table = quotas_from (k + 1) ps (quota_at k p.quota table)

-- The largest quotas, but those that are set.
abbrev pub quota_table : List PlannedLink → List ℕ
quota_table planned = quotas_from 0 planned (replicate 128 65535)

-- No delays, but those of the links.
abbrev pub delay_table : List PlannedLink → List ℕ
delay_table planned = delays_from 0 planned (replicate 128 0)

-- Delay over quota over a store, set as planned.
abbrev pub stack_of : {C : Type 0} → Pile C → List PlannedLink → Pile C
stack_of store planned = delayed (rationed store (quota_table planned)) (delay_table planned)

-- So many links, each fresh and without a delay.
pub record Unset {C : Type 0} (links : ℕ) (m : Pile C) : Type 0 where
  pub count : m.count ≡ links
  pub fresh : (k : ℕ) → k < links → Fresh m k
  pub delay : (k : ℕ) → k < links → m.delay k ≡ 0

-- A quota that is to be set is from 1 to 65,535.
abbrev pub QuotaWithin : Option ℕ → Type 0
QuotaWithin quota = ForSome quota (λ q. (1 ≤ q) × (q ≤ 65535))

abbrev pub QuotasWithin : List PlannedLink → Type 0
QuotasWithin planned = (k : ℕ) (d : PlannedLink) → k < length planned → QuotaWithin (get_or planned k d).quota

-- No delay is longer than 10,000.
abbrev pub DelaysWithin : List PlannedLink → Type 0
DelaysWithin planned = (k : ℕ) (d : PlannedLink) → k < length planned → (get_or planned k d).link.delay ≤ 10000
