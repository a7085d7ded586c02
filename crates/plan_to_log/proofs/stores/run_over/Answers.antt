use Rattle.std.proofs.Common.{◌≡◌, true, length, vec_items, sym, ap, ◌∙◌, subst}
use Rattle.std.proofs.lemmas.Result.{IfOk-weaker}
use Rattle.model.specs.Shape.{within}
use Rattle.simulation.specs.Programs.{program_of}
use Rattle.plan_to_log.specs.Sensible.{shaped}
use Rattle.plan_to_log.specs.Stack.{Unset, DelaysWithin, QuotasWithin, links_in, stack_of}
use Rattle.plan_to_log.proofs.Settings.{delays_within, plan_made, plan_says, shaped_alike}
use Rattle.plan_to_log.proofs.RunOut.{ran_alike}
use Rattle.plan_to_log.proofs.stores.run_over.Goals as goal

pub unwrap-plan-requires : goal.unwrap-plan-requires
unwrap-plan-requires g c =
    let r = c.args.reading in
    let same = shaped_alike r.net.horizon (c.len.ensures ∙ r.processes.ok.0) (c.in_ok-bare.ensures ∙ ap links_in c.as_slice.ensures.value) in
    let shape = shaped r.net.horizon c.len.result (vec_items c.in_ok-bare.bare) in
    plan_made shape c.new.result (subst (λ s. within s ≡ true) (sym same) r.sensible.limits) c.new.ensures

pub invariant_of-planned : goal.invariant_of-planned
invariant_of-planned g c =
    let r = c.args.reading in
    let settings = sym c.as_slice-2.ensures.value in
    record {
      unset = subst (λ ps. Unset (length ps) (g.S.Links.meaning c.args.store)) settings c.requires;
      delays = subst DelaysWithin settings (delays_within r.net.horizon (length (vec_items r.processes)) (vec_items r.links) r.sensible.limits);
      quotas = subst QuotasWithin settings r.sensible.allowed;
    }

pub returns : goal.returns
returns g c =
    let r = c.args.reading in
    let same = shaped_alike r.net.horizon (c.len.ensures ∙ r.processes.ok.0) (c.in_ok-bare.ensures ∙ ap links_in c.as_slice.ensures.value) in
    IfOk-weaker c.run_net.result _ _
    (λ o. ran_alike (program_of g.C.Cargo g.P.Process) (vec_items r.processes) (vec_items o.text) o.ending
    (plan_says _ c.unwrap-plan.ensures c.new.ensures ∙ same)
    c.as_slice-3.ensures.value
    (c.stacked.ensures ∙ ap (stack_of (g.S.Links.meaning c.args.store)) c.as_slice-2.ensures.value))
    c.run_net.ensures
