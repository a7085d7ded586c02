use Rattle.std.proofs.Common.{◌≡◌, arith, rules}
use Rattle.kernel.proofs.asking.Present.delay.Goals as goal

pub returns : goal.returns
returns g c =
    let s = c.args.self.now in
    let m = g.L.Links.meaning s.links.now in
    let is : c.unwrap.result ≡ m.delay s.link = search rules in
    record { is = is; near = omega (arith, is, (g.L.Links.sound s.links.now).near s.link s.there) }
