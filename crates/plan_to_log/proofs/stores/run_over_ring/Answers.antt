use Rattle.std.proofs.Common.{length, vec_items, sym, ap, ◌∙◌, subst}
use Rattle.std.proofs.lemmas.List.{length-replicate}
use Rattle.std.proofs.lemmas.Result.{IfOk-weaker}
use Rattle.simulation.specs.Programs.{program_of}
use Rattle.plan_to_log.specs.Reading.{reading_net, reading_over}
use Rattle.plan_to_log.specs.Stack.{Unset}
use Rattle.plan_to_log.proofs.FreshStores.{ring_unset, ring_made}
use Rattle.plan_to_log.proofs.RunOut.{ran_over}
use Rattle.plan_to_log.proofs.stores.run_over_ring.Goals as goal

pub run_over-requires : goal.run_over-requires
run_over-requires g c =
    let made = ring_made _ c.new.ensures (c.len-links.ensures ∙ c.args.reading.links.ok.0)
    (ap length c.as_mut_slice.ensures.value ∙ ap length c.in_ok-lent.ensures ∙ length-replicate _ _) in
    subst (Unset (length (vec_items c.args.reading.links))) (sym made) (ring_unset _ _ c.args.reading.sensible.places)

pub returns : goal.returns
returns g c =
    let made = ring_made _ c.new.ensures (c.len-links.ensures ∙ c.args.reading.links.ok.0)
    (ap length c.as_mut_slice.ensures.value ∙ ap length c.in_ok-lent.ensures ∙ length-replicate _ _) in
    IfOk-weaker c.run_over.result _ _
    (λ o. ran_over (program_of g.C.Cargo g.P.Process) (reading_net c.args.reading) (vec_items o.text) o.ending
    (ap (reading_over c.args.reading) made))
    c.run_over.ensures
