-- The limits of what was read of a plan.
use Rattle.std.specs.Prelude.{◌≡◌, ℕ, ◌*◌, ◌≤◌, true, List, length}
use Rattle.model.specs.declared.link.Link.{Link}
use Rattle.model.specs.Shape.{Shape, within}
use Rattle.records.specs.declared.reading.kinds.Net as header
use Rattle.records.specs.declared.reading.kinds.PlannedLink.{PlannedLink}
use Rattle.plan_to_log.specs.Stack.{links_in, QuotasWithin}

-- A plan with this horizon, so many processes, and these links.
abbrev pub shaped : ℕ → ℕ → List Link → Shape
shaped horizon processes links = record { horizon = horizon; processes = processes; links = links }

-- So many links have at least 4 places each, and at most 4,096 in all.
pub record PlacesWithin (links places : ℕ) : Type 0 where
  pub few : links ≤ 128
  pub some : 4 ≤ places
  pub all : links * places ≤ 4096

-- What the records of a plan give is within its limits.
pub record Sensible {P : Type 0} (h : header.Net) (processes : List P) (planned : List PlannedLink) : Type 0 where
  pub limits : within (shaped h.horizon (length processes) (links_in planned)) ≡ true
  pub places : PlacesWithin (length planned) h.places
  pub allowed : QuotasWithin planned
