use Rattle.std.proofs.Common.{◌≡◌, Err, sym, ◌∙◌, subst, take_all, rules}
use Rattle.model.specs.declared.fault.LinkFault.{LinkFault}
use Rattle.model.specs.declared.refusal.Unprepared.TheVariants.{LinkRefused}
use Rattle.model.specs.Linking.{PutDone, PutFails}
use Rattle.model.specs.Made.{shape_of}
use Rattle.simulation.specs.Prepare.{Opens, OpeningFails}
use Rattle.kernel.specs.Preparing.{Opened}
use Rattle.kernel.proofs.FromOutside.{outside_sound, outside_not, opens_more, fails_at}
use Rattle.kernel.proofs.run.prepare.open.Goals as goal

pub loop-event-init : goal.loop-event-init
loop-event-init g c = Opens.no_more

pub returns-then-not-from_outside : goal.returns-then-not-from_outside
returns-then-not-from_outside g c =
    let plan = shape_of c.args.plan.now in
    let o = c.event-item.result in
    fails_at plan c.args.opening.now c.loop-event.event-index o _ _ _ _ c.event-item.is c.loop-event-test.true c.loop-event.invariant
    (OpeningFails.inside (outside_not plan o.link (sym c.from_outside.ensures ∙ c.if-not-from_outside.true)))

pub returns-in_err-map_err : goal.returns-in_err-map_err
returns-in_err-map_err g c =
    let plan = shape_of c.args.plan.now in
    let m = g.L.Links.meaning in
    let o = c.event-item.result in
    let before = m c.loop-event.links in
    let after = m c.put.new.self in
    let from = outside_sound plan o.link (sym c.from_outside.ensures ∙ c.if-not-from_outside.false) in
    let refused : (f : LinkFault) × (c.from_residual.result ≡ Err (LinkRefused o.link f)) × PutFails before o.link o.time f × (after ≡ before) = search rules in
    let fails = fails_at plan c.args.opening.now c.loop-event.event-index o _ _ _ _ c.event-item.is c.loop-event-test.true c.loop-event.invariant
    (OpeningFails.refused from refused.2) in
    subst (λ r. Opened plan (m c.args.links.now) c.args.opening.now r after) (sym refused.1) (subst (λ n. OpeningFails plan c.args.opening.now (m c.args.links.now) (LinkRefused o.link refused.0) n) (sym refused.3) fails)

pub loop-event-preserved : goal.loop-event-preserved
loop-event-preserved g c =
    let plan = shape_of c.args.plan.now in
    let o = c.event-item.result in
    let m = g.L.Links.meaning in
    let put : PutDone (m c.loop-event.links) o.link o.time o.cargo (m c.put.new.self) = search rules in
    opens_more plan c.args.opening.now c.loop-event.event-index o _ _ _ c.event-item.is c.loop-event-test.true c.loop-event.invariant
    (outside_sound plan o.link (sym c.from_outside.ensures ∙ c.if-not-from_outside.false)) put

pub returns : goal.returns
returns g c =
    let m = g.L.Links.meaning in
    subst (λ os. Opens (shape_of c.args.plan.now) os (m c.args.links.now) (m c.loop-event.links))
    (take_all _ _ c.loop-event-test.false) c.loop-event.invariant
