-- The links at the processes of a plan.
use Rattle.std.specs.Prelude.{◌≡◌, ℕ, ◌<◌, List, length, vec_items, slice_index_or}
use Rattle.model.specs.declared.plan.Plan.{Plan}
use Rattle.model.specs.Shape.{in_links, out_links}
use Rattle.model.specs.Made.{shape_of}
use Rattle.kernel.specs.declared.routes.PortLists.{PortLists}

-- There are lists for each process, in order: the links to it and the links from it.
pub record Wired (plan : Plan) (ports : List PortLists) : Type 0 where
  pub all : length ports ≡ plan.processes
  pub arrivals : (p : ℕ) (d : PortLists) → p < plan.processes → vec_items (slice_index_or ports p d).ins ≡ in_links (shape_of plan) p
  pub departures : (p : ℕ) (d : PortLists) → p < plan.processes → vec_items (slice_index_or ports p d).outs ≡ out_links (shape_of plan) p
