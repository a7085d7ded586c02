-- The lists that the records of a family fill.
use Rattle.std.specs.Prelude.{ℕ, List, vec_items, vec_capacity}
use Rattle.model.specs.declared.opening.Opening.{Opening}
use Rattle.records.specs.declared.reading.kinds.PlannedLink.{PlannedLink}
use Rattle.records.specs.declared.reading.lists.Lists.{Lists}

-- What they hold.
pub record Held (P C : Type 0) : Type 0 where
  pub processes : List P
  pub links : List PlannedLink
  pub openings : List (Opening C)

-- How many items each has room for.
pub record Room : Type 0 where
  pub processes : ℕ
  pub links : ℕ
  pub openings : ℕ

module _ {C P : Type 0} (x : Lists C P) where
  abbrev pub held : Held P C
  held = record { processes = vec_items x.processes; links = vec_items x.links; openings = vec_items x.openings }

  abbrev pub rooms : Room
  rooms = record { processes = vec_capacity x.processes; links = vec_capacity x.links; openings = vec_capacity x.openings }
