use Rattle.std.proofs.Common.{sym}
use Rattle.ring.specs.Soundness.{length_waiting}
use Rattle.ring.proofs.store.calls.RingLinks.waiting.Goals as goal

pub returns : goal.returns
returns g c =
    let found = c.in_ok-lane.ensures in
    (found.0, rw found.1 (sym (length_waiting c.args.self.now c.args.link found.0)))
