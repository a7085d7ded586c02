use Rattle.std.proofs.Common.{cond, Err, vec_items, sym, refl, ap, ◌∙◌}
use Rattle.model.specs.declared.refusal.Refusal.TheVariants.{NoSuch}
use Rattle.model.specs.Lists.{at}
use Rattle.simulation.specs.View.{history}
use Rattle.simulation.specs.Calls.{found}
use Rattle.kernel.proofs.Called.{called}
use Rattle.kernel.proofs.run.Run.record.Goals as goal

pub returns-then-not-has : goal.returns-then-not-has
returns-then-not-has g c =
    let there = found (at (history c.args.process (vec_items c.args.self.now.log)) c.args.place) in
    called _ _ _ _ _ (ap (λ b. cond b there (Err NoSuch)) (sym c.if-not-has.true ∙ c.has.ensures), refl)

pub returns : goal.returns
returns g c =
    let there = found (at (history c.args.process (vec_items c.args.self.now.log)) c.args.place) in
    called _ _ _ _ _
    (c.record_of.ensures ∙ ap (λ b. cond b there (Err NoSuch)) (sym c.if-not-has.false ∙ c.has.ensures), refl)
