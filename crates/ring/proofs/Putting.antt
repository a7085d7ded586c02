-- An event written to the slot after the last one of its link waits last.
use Rattle.std.proofs.Common.{◌≡◌, ℕ, ◌+◌, ◌<◌, ◌≢◌, set, ap, add-zero, add-one, arith}
use Rattle.model.specs.declared.event.Event.{Event}
use Rattle.model.specs.Linking.{Timely, PutDone}
use Rattle.slots.proofs.Walks.{walk_other, walk_put}
use Rattle.ring.specs.declared.lane.Lane.{Lane}
use Rattle.ring.specs.declared.store.Ring.{Ring}
use Rattle.ring.specs.Shape.{row, spot}
use Rattle.ring.specs.Meaning.{pile_of, meaning_of}
use Rattle.ring.specs.Soundness.{around_below, spot_inside}
use Rattle.ring.proofs.Places.{around_apart, part_apart}
use Rattle.ring.proofs.Rows.{row_same, row_other, steady}

-- The slot after the last event of the link k.
abbrev pub next_slot : {C : Type 0} → Ring C → ℕ → ℕ
next_slot r k = spot r.size k (row r.lanes k).head (row r.lanes k).len

module _ {C : Type 0} (r : Ring C) (k : ℕ) (l : k < r.links) (room : (row r.lanes k).len < r.size) where
  next_fresh : (j : ℕ) → j < (row r.lanes k).len → spot r.size k (row r.lanes k).head j ≢ next_slot r k
  next_fresh j m e = around_apart r.size (row r.lanes k).head (r.within k l).0 j (row r.lanes k).len m room (omega arith)

  next_apart : (j : ℕ) → j < r.links → j ≢ k → (i : ℕ) → i < (row r.lanes j).len
      → spot r.size j (row r.lanes j).head i ≢ next_slot r k
  next_apart j m ne i n =
      let a = around_below r.size (row r.lanes j).head i (r.within j m).0 (omega (arith, (r.within j m).1)) in
      let b = around_below r.size (row r.lanes k).head (row r.lanes k).len (r.within k l).0 (omega arith) in
      part_apart r.size j k _ _ ne a b

  pub put_done : (at : ℕ) (lane : Lane) (t : ℕ) (c : C) → Timely (meaning_of r) k t → at ≡ next_slot r k
      → lane.head ≡ (row r.lanes k).head → lane.len ≡ (row r.lanes k).len + 1 → lane.floor ≡ t
      → PutDone (meaning_of r) k t c
      (pile_of r.links r.size (set r.slots.now at (record { time = t; cargo = c })) (set r.lanes k lane))
  put_done at lane t c ok here head len floor =
      let event : Event C = record { time = t; cargo = c } in
      let same = row_same r k lane l in
      let other = row_other r k lane in
      record {
        timely = ok;
        steady = steady r _ _;
        apart = record {
          waiting = λ j m ne. rw (other j ne, here) (walk_other r.slots.now _ (row r.lanes j).len _ event (next_apart j m ne));
          floor = λ j m ne. ap (λ (x : Lane). x.floor) (other j ne);
        };
        waiting = rw (same, here, head, len, add-one, add-zero) (walk_put r.slots.now _ _ event next_fresh (spot_inside r k l _ (omega arith)));
        floor = rw same (omega arith);
        free = rw same (omega arith);
        falls = λ j m ne. rw (other j ne) (omega arith, omega arith);
      }
