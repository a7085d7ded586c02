use Rattle.std.proofs.Common.{◌≡◌, ◌<◌, get_or, sym, ap, arith}
use Rattle.model.specs.Lists.{oldest}
use Rattle.ring.specs.Shape.{row}
use Rattle.ring.proofs.Taking.{none_waits, first_waits}
use Rattle.ring.proofs.store.calls.RingLinks.first.Goals as goal

pub returns-then-lane-eq0 : goal.returns-then-lane-eq0
returns-then-lane-eq0 g c =
    let s = c.args.self.now in
    let k = c.args.link in
    let found = c.in_ok-lane.ensures in
    let none : (row s.lanes k).len ≡ 0 = rw (← found.1) c.if-lane-eq0.true in
    (found.0, sym (ap oldest (none_waits s k found.0 none)))

pub returns : goal.returns
returns g c =
    let s = c.args.self.now in
    let k = c.args.link in
    let found = c.in_ok-lane.ensures in
    let some : 0 < (row s.lanes k).len = rw (← found.1) (omega arith) in
    let read = ap (get_or s.slots.now c.slot-at.result) c.index-self-at.is in
    (found.0, first_waits s k found.0 _ (rw (← c.slot-at.ensures.is) read) some)
