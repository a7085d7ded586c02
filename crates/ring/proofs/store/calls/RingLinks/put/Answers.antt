use Rattle.std.proofs.Common.{◌<◌, refl, arith, length-set}
use Rattle.ring.specs.Shape.{row}
use Rattle.ring.proofs.Rows.{rows_set, within_set}
use Rattle.ring.proofs.Putting.{put_done}
use Rattle.ring.proofs.store.calls.RingLinks.put.Goals as goal

pub invariant_of-self : goal.invariant_of-self
invariant_of-self g c =
    let s = c.args.self.now in
    let k = c.args.link in
    let found = c.in_ok-lane.ensures in
    let w = rw (← found.1) at (s.within k found.0.there) in
    let soon = found.0.soon in
    record { few = s.few; wide = s.wide; enough = simp length-set s.enough; rows = rows_set s k _; within = within_set s k _ (omega arith, omega arith, omega arith) }

pub returns : goal.returns
returns g c =
    let s = c.args.self.now in
    let k = c.args.link in
    let found = c.in_ok-lane.ensures in
    let w = rw (← found.1) at (s.within k found.0.there) in
    let room : (row s.lanes k).len < s.size = rw (← found.1) (omega (arith, w.1)) in
    put_done s k found.0.there room _ _ c.args.time c.args.cargo found.0
    (rw (c.slot-at.ensures.is, found.1)) (rw found.1) (rw found.1) refl
