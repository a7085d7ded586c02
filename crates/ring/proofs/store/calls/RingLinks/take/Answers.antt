use Rattle.std.proofs.Common.{◌<◌, refl, arith}
use Rattle.ring.specs.Soundness.{around_below}
use Rattle.ring.proofs.Rows.{rows_set, within_set}
use Rattle.ring.proofs.Taking.{first_some, take_done}
use Rattle.ring.proofs.store.calls.RingLinks.take.Goals as goal

pub place-head-requires : goal.place-head-requires
place-head-requires g c =
    let w = c.args.self.now.within c.args.link c.in_ok-first.ensures.0 in
    record { inside = w.0; within = omega (arith, w.0); wide = c.args.self.now.wide }

pub overflow_sub-self : goal.overflow_sub-self
overflow_sub-self g c =
    let found = c.in_ok-first.ensures in
    first_some c.args.self.now c.args.link found.0 c.in_ok-event.event (rw c.in_ok-event.ensures.ok_part at found.1)

pub invariant_of-self : goal.invariant_of-self
invariant_of-self g c =
    let s = c.args.self.now in
    let k = c.args.link in
    let w = s.within k c.in_ok-first.ensures.0 in
    let head : c.place-head.result < s.size = rw c.place-head.ensures (around_below s.size _ _ w.0 (omega arith)) in
    record { few = s.few; wide = s.wide; enough = s.enough; rows = rows_set s k _; within = within_set s k _ (head, omega arith, omega arith) }

pub returns : goal.returns
returns g c =
    let found = c.in_ok-first.ensures in
    let is = rw c.in_ok-event.ensures.ok_part at found.1 in
    take_done c.args.self.now c.args.link found.0 c.in_ok-event.event _ is c.place-head.ensures refl refl
