use Rattle.std.proofs.Common.{ℕ, Bool, ◌&&◌, eqb, sym, refl, ap, ◌∙◌}
use Rattle.model.specs.Lists.{each}
use Rattle.model.specs.Made.{shape_of}
use Rattle.simulation.specs.View.{clock}
use Rattle.kernel.proofs.Called.{called}
use Rattle.kernel.proofs.Standing.{prepared_is}
use Rattle.kernel.proofs.run.Run.done.Goals as goal

pub returns : goal.returns
returns g c =
    let s = c.args.self.now in
    let shape = shape_of s.routes.plan in
    let test : ℕ → Bool = λ p. eqb (clock shape (g.L.Links.meaning s.links) p) shape.horizon in
    let planned = c.processes.ensures.is ∙ ap (λ plan. plan.processes) c.plan.ensures in
    called _ _ _ _ _
    (c.all_ended.ensures ∙ ap (λ n. each n test) planned ∙ ap (λ b. b && each shape.processes test) (sym (prepared_is s)), refl)
