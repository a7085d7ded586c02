-- What a plan says, and when there is one.
use Rattle.std.specs.Prelude.{◌≡◌, true, false, Some, None, vec_items, Option}
use Rattle.model.specs.declared.plan.Plan.{Plan}
use Rattle.model.specs.Shape.{Shape, within}

-- What the plan says.
abbrev pub shape_of : Plan → Shape
shape_of plan = record { horizon = plan.horizon; processes = plan.processes; links = vec_items plan.links }

-- A plan is made of what is within the limits, as it is, and of nothing else.
abbrev pub Made : Shape → Option Plan → Type 0
Made s None = within s ≡ false
Made s (Some plan) = (within s ≡ true) × (shape_of plan ≡ s)
