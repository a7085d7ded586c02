use Rattle.std.proofs.Common.{◌≡◌, ◌<◌, length, vec_items, sym, ◌∙◌, arith}
use Rattle.std.proofs.lemmas.Bool.{eq-eqb, eqb-true, true≢false}
use Rattle.simulation.specs.Prepare.{Prepares}
use Rattle.kernel.proofs.run.prepare.suits.Goals as goal
use Rattle.kernel.proofs.run.prepare.suits.Goals.{then-processes-via-then-processes, then-processes-via-else-processes+then-not-as_many}

pub returns-then-processes : goal.returns-then-processes
returns-then-processes g c = (
  (λ os size. Prepares.wrong_numbers (λ planned. elim c.then-processes.branch [
    | then-processes-via-then-processes w ↦ w.if-processes.true (planned.processes ∙ sym c.processes.ensures.is)
    | then-processes-via-else-processes+then-not-as_many w ↦
        true≢false (sym (eq-eqb _ _ (planned.links ∙ sym w.link_count.ensures)) ∙ sym w.as_many.ensures ∙ w.if-not-as_many.true)
  ])),
  (λ e. cc),
)

pub returns-then-not-fits : goal.returns-then-not-fits
returns-then-not-fits g c =
    let links : (g.L.Links.meaning c.args.links.now).count ≡ length (vec_items c.args.plan.now.links) =
    eqb-true _ _ (sym c.if-not-as_many.ensures) ∙ c.link_count.ensures in
    let planned : c.loop-link.link < length (vec_items c.args.plan.now.links) = omega (arith, c.loop-link-test.true, c.link_count-link-end.ensures) in
    let there : c.loop-link.link < (g.L.Links.meaning c.args.links.now).count = omega (arith, planned, links) in (
      (λ os size. Prepares.not_fresh (record { processes = c.if-processes.false ∙ c.processes.ensures.is; links = links })
          there (λ fits. c.if-not-fits.ensures (there, planned, fits)) c.loop-link.invariant),
      (λ e. cc),
    )
