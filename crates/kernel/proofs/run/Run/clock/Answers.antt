use Rattle.std.proofs.Common.{cond, Ok, Err, sym, refl, ap, ◌∙◌}
use Rattle.model.specs.declared.refusal.Refusal.TheVariants.{NoSuch}
use Rattle.model.specs.Made.{shape_of}
use Rattle.simulation.specs.View.{clock}
use Rattle.kernel.proofs.Called.{called}
use Rattle.kernel.proofs.run.Run.clock.Goals as goal

pub returns-then-not-has : goal.returns-then-not-has
returns-then-not-has g c =
    let s = c.args.self.now in
    let now = clock (shape_of s.routes.plan) (g.L.Links.meaning s.links) c.args.process in
    called _ _ _ _ _ (ap (λ b. cond b (Ok now) (Err NoSuch)) (sym c.if-not-has.true ∙ c.has.ensures), refl)

pub returns : goal.returns
returns g c =
    let s = c.args.self.now in
    let now = clock (shape_of s.routes.plan) (g.L.Links.meaning s.links) c.args.process in
    called _ _ _ _ _
    (ap Ok c.clock_now.ensures ∙ ap (λ b. cond b (Ok now) (Err NoSuch)) (sym c.if-not-has.false ∙ c.has.ensures), refl)
