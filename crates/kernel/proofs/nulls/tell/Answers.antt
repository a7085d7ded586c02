use Rattle.std.proofs.Common.{◌≡◌, arith, rules}
use Rattle.model.specs.Linking.{NullDone}
use Rattle.simulation.specs.Step.{Nulls}
use Rattle.kernel.proofs.nulls.tell.Goals as goal

pub returns-then-floor-time-clause-nulls : goal.returns-then-floor-time-clause-nulls
returns-then-floor-time-clause-nulls g c =
    let m = g.L.Links.meaning c.args.links.now in
    let floor : c.floor.result ≡ m.floor c.args.link = cc in
    let delay : c.delay.result ≡ m.delay c.args.link = cc in
    Nulls.skips (omega (arith, c.if-floor-time.true)) Nulls.no_more

pub returns-clause-nulls : goal.returns-clause-nulls
returns-clause-nulls g c =
    let m = g.L.Links.meaning c.args.links.now in
    let floor : c.floor.result ≡ m.floor c.args.link = cc in
    let delay : c.delay.result ≡ m.delay c.args.link = cc in
    let done : NullDone m c.args.link c.args.time (g.L.Links.meaning c.null.new.self) = search rules in
    Nulls.raises (omega (arith, c.if-floor-time.false)) done Nulls.no_more
