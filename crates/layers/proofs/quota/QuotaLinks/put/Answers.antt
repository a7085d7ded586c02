use Rattle.std.proofs.Common.{◌<◌, length, arith}
use Rattle.layers.proofs.Rationing.{put_done, not_refused}
use Rattle.layers.proofs.quota.QuotaLinks.put.Goals as goal

pub returns : goal.returns
returns g c =
    let s = c.args.self.now in
    let h = not_refused c.put.result c.in_ok-map_err.ensures.variant c.put.ensures in
    let u = c.in_ok-unused.ensures in
    let here : c.args.link < length s.left = omega (arith, h.timely.there, (g.L.Links.sound s.below).few) in
    put_done (g.L.Links.meaning s.below) (g.L.Links.meaning c.put.new.self) s.left c.args.link
    c.saturating_sub.result here c.args.time c.args.cargo c.saturating_sub.ensures
    (λ none. c.if-branch-eq0.false (omega (arith, none, u.1))) h
