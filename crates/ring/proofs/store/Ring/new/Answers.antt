use Rattle.std.proofs.Common.{length, sym, ap, ◌∙◌, arith}
use lib.ListN.{length-replicate}
use Rattle.std.proofs.lemmas.Nat.{le-div}
use Rattle.slots.proofs.Limits.{limited}
use Rattle.ring.specs.Shape.{fresh}
use Rattle.ring.proofs.Places.{part_wide, parts_enough}
use Rattle.ring.proofs.Opening.{within_fresh, opened_all, opened_none}
use Rattle.ring.proofs.store.Ring.new.Goals as goal

pub returns-then-not-suits : goal.returns-then-not-suits
returns-then-not-suits g c =
    simp c.fresh_lanes-lanes.ensures
    (opened_none c.args.links (length c.args.slots.now) c.args.slots.now (sym c.if-not-suits.ensures))

pub invariant_of-result-2 : goal.invariant_of-result-2
invariant_of-result-2 g c =
    let n = length c.args.slots.now in
    let k = c.args.links in
    let ok = limited k n (sym c.if-not-suits.ensures) in
    let four = le-div 4 n k ok.some ok.enough in
    let rows = ap length c.fresh_lanes-lanes.ensures ∙ length-replicate 128 fresh in
    record {
      few = ok.few;
      wide = part_wide k n _ ok (omega arith);
      enough = parts_enough k n _ ok (omega arith);
      rows = rows;
      within = λ j l. simp c.fresh_lanes-lanes.ensures (within_fresh _ j (omega arith));
    }

pub returns : goal.returns
returns g c =
    simp c.fresh_lanes-lanes.ensures
    (opened_all c.args.links (length c.args.slots.now) c.args.slots.now (sym c.if-not-suits.ensures))
