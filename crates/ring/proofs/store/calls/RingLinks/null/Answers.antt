use Rattle.std.proofs.Common.{arith}
use Rattle.ring.proofs.Rows.{rows_set, within_set}
use Rattle.ring.proofs.store.calls.RingLinks.null.Goals as goal

pub invariant_of-self : goal.invariant_of-self
invariant_of-self g c =
    let s = c.args.self.now in
    let k = c.args.link in
    let found = c.in_ok-lane_at.ensures.0 in
    let w = s.within k found.there in
    let soon = found.soon in
    record { few = s.few; wide = s.wide; enough = s.enough; rows = rows_set s k _; within = within_set s k _ (omega arith, omega arith, omega arith) }
