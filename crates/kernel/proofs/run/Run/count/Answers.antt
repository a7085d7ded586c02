use Rattle.std.proofs.Common.{cond, length, Ok, Err, vec_items, sym, refl, ap, ◌∙◌}
use Rattle.model.specs.declared.refusal.Refusal.TheVariants.{NoSuch}
use Rattle.simulation.specs.View.{history}
use Rattle.kernel.proofs.Called.{called}
use Rattle.kernel.proofs.run.Run.count.Goals as goal

pub returns-then-not-has : goal.returns-then-not-has
returns-then-not-has g c =
    let taken = length (history c.args.process (vec_items c.args.self.now.log)) in
    called _ _ _ _ _ (ap (λ b. cond b (Ok taken) (Err NoSuch)) (sym c.if-not-has.true ∙ c.has.ensures), refl)

pub returns : goal.returns
returns g c =
    let taken = length (history c.args.process (vec_items c.args.self.now.log)) in
    called _ _ _ _ _
    (ap Ok c.taken_by.ensures ∙ ap (λ b. cond b (Ok taken) (Err NoSuch)) (sym c.if-not-has.false ∙ c.has.ensures), refl)
