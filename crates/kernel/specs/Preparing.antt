-- The stages of prepare.
use Rattle.std.specs.Prelude.{◌≡◌, ◌≢◌, ℕ, ◌<◌, ◌≤◌, Bool, ◌&&◌, List, [], length, Ok, Err, vec_items, vec_capacity, Result, Vec, nat_lt}
use Rattle.std.specs.declared.alloc.Global.{Global}
use Rattle.model.specs.declared.plan.Plan.{Plan}
use Rattle.model.specs.declared.record.Record.{Record}
use Rattle.model.specs.declared.opening.Opening.{Opening}
use Rattle.model.specs.declared.refusal.Unprepared.{Unprepared}
use Rattle.model.specs.declared.refusal.Unprepared.TheVariants.{NoMemory}
use Rattle.model.specs.Lists.{is_none}
use Rattle.model.specs.Pile.{Pile}
use Rattle.model.specs.Shape.{Shape, source}
use Rattle.kernel.specs.declared.routes.Routes.{Routes}
use Rattle.simulation.specs.Prepare.{Fits, AllFit, Opens, OpeningFails, Prepares}

-- Whether the link k is there and comes from outside.
abbrev pub outside : Shape → ℕ → Bool
outside plan k = nat_lt k (length plan.links) && is_none (source plan k)

module _ {C : Type 0} (plan : Shape) (m : Pile C) where
  -- The link k is there, and fits the plan.
  abbrev pub FitsThere : ℕ → Type 0
  FitsThere k = (k < m.count) × (k < length plan.links) × Fits plan m k

  -- There are as many of these processes and of the links as planned, and each link fits; or why no run is prepared, whatever its opening and its log.
  -- Memory is no reason, since none is asked for.
  abbrev pub Suits : {P : Type 0} → List P → Result (Unit {0}) Unprepared → Type 0
  Suits ps (Ok done) = (length ps ≡ plan.processes) × (m.count ≡ length plan.links) × AllFit plan m
  Suits ps (Err why) =
      ((os : List (Opening C)) (size : ℕ) → Prepares (record { plan = plan; processes = ps; opening = os }) m size (Err why) m)
      × (why ≢ NoMemory)

  -- The opening events are put, or the first that is not says why; what was put stays.
  abbrev pub Opened : List (Opening C) → Result (Unit {0}) Unprepared → Pile C → Type 0
  Opened os (Ok done) n = Opens plan os m n
  Opened os (Err why) n = OpeningFails plan os m why n

-- The routes of the plan, and an empty log with that much room; or the plan back.
abbrev pub Reserved : Plan → ℕ → Result (Routes × Vec Record Global) Plan → Type 0
Reserved plan room (Ok (routes, log)) = (routes.plan ≡ plan) × (vec_items log ≡ []) × (room ≤ vec_capacity log)
Reserved plan room (Err back) = back ≡ plan
