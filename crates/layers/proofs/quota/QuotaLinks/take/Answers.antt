use Rattle.std.proofs.Common.{◌<◌, length, arith}
use Rattle.layers.proofs.Rationing.{take_done}
use Rattle.layers.proofs.quota.QuotaLinks.take.Goals as goal

pub returns : goal.returns
returns g c =
    let s = c.args.self.now in
    let h = c.in_ok-event.ensures in
    let here : c.args.link < length s.left = omega (arith, h.there, (g.L.Links.sound s.below).few) in
    take_done (g.L.Links.meaning s.below) (g.L.Links.meaning c.take.new.self) s.left c.args.link
    c.saturating_add.result here c.in_ok-event.event c.saturating_add.ensures
    (g.L.Links.sound s.below) h
