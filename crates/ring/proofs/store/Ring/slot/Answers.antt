use Rattle.std.proofs.Common.{arith}
use Rattle.ring.specs.Soundness.{spot_inside}
use Rattle.ring.proofs.store.Ring.slot.Goals as goal

pub returns : goal.returns
returns g c =
    let h = spot_inside c.args.self.now c.args.link c.requires.there c.args.after (omega arith) in
    record { is = omega arith; inside = omega arith }
