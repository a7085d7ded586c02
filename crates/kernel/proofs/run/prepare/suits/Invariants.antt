use Rattle.std.proofs.Common.{ℕ, ◌<◌}
use Rattle.model.specs.Made.{shape_of}
use Rattle.simulation.specs.Prepare.{Fits}
use Rattle.kernel.proofs.run.prepare.suits.Given as goal

abbrev pub invariant-loop-link : goal.invariant-loop-link
invariant-loop-link g l = (j : ℕ) → j < l.link → Fits (shape_of l.plan) (g.L.Links.meaning l.links) j
