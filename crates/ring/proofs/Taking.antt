-- The event at the head of a link is its oldest, and moving the head on takes it.
use Rattle.std.proofs.Common.{◌≡◌, ℕ, suc, ◌+◌, ◌-◌, ◌*◌, ◌<◌, ◌≤◌, [], ◌∷◌, get_or, set, Some, ap, ◌∙◌, arith}
use Rattle.model.specs.declared.event.Event.{Event}
use Rattle.model.specs.Lists.{oldest}
use Rattle.model.specs.Linking.{TakeDone}
use Rattle.slots.specs.Walk.{walk}
use Rattle.slots.proofs.Walks.{walk_first, walk_none}
use Rattle.ring.specs.declared.lane.Lane.{Lane}
use Rattle.ring.specs.declared.store.Ring.{Ring}
use Rattle.ring.specs.Shape.{row, around, spot}
use Rattle.ring.specs.Meaning.{pile_of, meaning_of}
use Rattle.ring.specs.Soundness.{spot_inside}
use Rattle.ring.proofs.Places.{around_next}
use Rattle.ring.proofs.Rows.{row_same, row_other, steady}

module _ {C : Type 0} (r : Ring C) (k : ℕ) (l : k < r.links) where
  -- Nothing waits where the length is 0.
  pub none_waits : (row r.lanes k).len ≡ 0 → (meaning_of r).waiting k ≡ []
  none_waits e = rw e (walk_none r.slots.now (spot r.size k (row r.lanes k).head))

  -- Where it is not, the event at the head waits first, and the others wait from the next place on.
  pub some_wait : (d : Event C) → 0 < (row r.lanes k).len
      → (meaning_of r).waiting k ≡ get_or r.slots.now (spot r.size k (row r.lanes k).head 0) d
      ∷ walk r.slots.now (spot r.size k (around r.size (row r.lanes k).head 1)) ((row r.lanes k).len - 1)
  some_wait d some =
      let head = (row r.lanes k).head in
      let len = (row r.lanes k).len in
      let count : len ≤ r.size = (r.within k l).1 in
      let more : len ≡ suc (len - 1) = omega arith in
      let next = λ (j : ℕ) (m : j < len - 1). ap (λ (n : ℕ). k * r.size + n) (around_next r.size head (r.within k l).0 j (omega arith)) in
      ap (walk r.slots.now (spot r.size k head)) more
      ∙ walk_first r.slots.now _ _ (len - 1) d (spot_inside r k l 0 (omega arith)) next

  -- What the slot at the head holds is the oldest event.
  pub first_waits : (e : Event C) → e ≡ get_or r.slots.now (spot r.size k (row r.lanes k).head 0) e
      → 0 < (row r.lanes k).len → Some e ≡ oldest ((meaning_of r).waiting k)
  first_waits e is some =
      let w = ap oldest (some_wait e some) in
      cc

  none_first : (row r.lanes k).len ≡ 0 → (e : Event C) → Some e ≡ oldest ((meaning_of r).waiting k) → ⊥
  none_first none e is =
      let w = ap oldest (none_waits none) in
      let z : ◌≡◌ {A = ℕ} 0 1 = cc in
      omega arith

  -- There is an oldest event only where the length is not 0.
  pub first_some : (e : Event C) → Some e ≡ oldest ((meaning_of r).waiting k) → 0 < (row r.lanes k).len
  first_some e is =
      let never : (row r.lanes k).len ≡ 0 → ⊥ = λ none. none_first none e is in
      omega (arith, never)

  pub take_done : (e : Event C) (lane : Lane) → Some e ≡ oldest ((meaning_of r).waiting k)
      → lane.head ≡ around r.size (row r.lanes k).head 1 → lane.len ≡ (row r.lanes k).len - 1
      → lane.floor ≡ (row r.lanes k).floor
      → TakeDone (meaning_of r) k e (pile_of r.links r.size r.slots.now (set r.lanes k lane))
  take_done e lane is head len floor =
      let some = first_some e is in
      let count : (row r.lanes k).len ≤ r.size = (r.within k l).1 in
      let same = row_same r k lane l in
      let other = row_other r k lane in
      let w = some_wait e some in
      let o = ap oldest w in
      record {
        there = l;
        steady = steady r _ _;
        apart = record {
          waiting = λ j m ne. rw (other j ne);
          floor = λ j m ne. ap (λ (x : Lane). x.floor) (other j ne);
        };
        waiting = rw (same, head, len) (cc);
        floor = rw same floor;
        free = rw same (omega arith);
        rises = λ j m ne. rw (other j ne) (omega arith);
      }
