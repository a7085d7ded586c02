use Rattle.std.proofs.Common.{◌≡◌, ◌+◌, min, get_or, drop, arith}
use Rattle.std.proofs.lemmas.List.{at_drop_more, at_drop_all}
use Rattle.simulation.specs.View.{link_clock, least_clock}
use Rattle.kernel.proofs.Scan.{least_below}
use Rattle.kernel.proofs.ports.Ports.clock.Goals as goal

pub loop-link-init : goal.loop-link-init
loop-link-init g c =
    let low = least_below (g.L.Links.meaning c.args.self.now.links.now) c.args.horizon c.args.self.now.list.now in
    (omega arith, omega (arith, low))

pub loop-link-preserved : goal.loop-link-preserved
loop-link-preserved g c =
    let m = g.L.Links.meaning c.args.self.now.links.now in
    let h = c.args.horizon in
    let i = c.loop-link.link-index in
    let rest = least_clock m h (drop (i + 1) c.args.self.now.list.now) in
    let more : least_clock m h (drop i c.args.self.now.list.now) ≡ min (link_clock m (get_or c.args.self.now.list.now i 0)) rest =
    at_drop_more (least_clock m h) c.args.self.now.list.now i 0 c.loop-link-test.true in
    let inv = c.loop-link.invariant in
    let here : c.clock.result ≡ link_clock m (get_or c.args.self.now.list.now i 0) = cc in
    let least = c.min-clock.ensures in
    (omega (arith, inv.0, least), omega (arith, inv.1, more, here, least))

pub returns : goal.returns
returns g c =
    let m = g.L.Links.meaning c.args.self.now.links.now in
    let h = c.args.horizon in
    let all = at_drop_all (least_clock m h) c.args.self.now.list.now c.loop-link.link-index c.loop-link-test.false in
    let inv = c.loop-link.invariant in
    record { below = inv.0; is = omega (arith, inv, all) }
