-- A ring keeps what every pile keeps.
use Rattle.std.specs.Prelude.{◌≡◌, ℕ, ◌+◌, ◌*◌, ◌<◌, ◌≤◌, length, nat_lt}
use Rattle.std.proofs.Common.{ap, mul_comm, arith}
use Rattle.std.proofs.lemmas.Nat.{mul-add-lt}
use Rattle.std.proofs.lemmas.Bool.{cond_both, ltb-true, ltb-false}
use Rattle.model.specs.Pile.{Sound}
use Rattle.slots.proofs.Walks.{length_walk}
use Rattle.ring.specs.declared.store.Ring.{Ring}
use Rattle.ring.specs.Shape.{row, around, spot}
use Rattle.ring.specs.Meaning.{meaning_of}

-- Every place lies in the part.
pub around_below : (size head n : ℕ) → head < size → n ≤ size → around size head n < size
around_below size head n l m =
    cond_both (nat_lt (head + n) size) _ _ (λ a. a < size)
    (ltb-true (head + n) size)
    (λ e. omega (arith, ltb-false (head + n) size e))

-- Every place of a part lies among the slots of all parts.
pub part_within : (size links k a : ℕ) → k < links → a < size → k * size + a < links * size
part_within size links k a l m = omega (arith, mul-add-lt k size a links l m, mul_comm size links)

module _ {C : Type 0} (r : Ring C) where
  -- The slots of a link are there.
  pub spot_inside : (k : ℕ) → k < r.links → (n : ℕ) → n ≤ r.size
      → spot r.size k (row r.lanes k).head n < length r.slots.now
  spot_inside k l n m =
      let head = (row r.lanes k).head in
      let a = around_below r.size head n (r.within k l).0 m in
      let b = part_within r.size r.links k (around r.size head n) l a in
      let e = r.enough in
      omega arith

  -- As many events wait on a link as its lane says.
  pub length_waiting : (k : ℕ) → k < r.links → length ((meaning_of r).waiting k) ≡ (row r.lanes k).len
  length_waiting k l =
      length_walk r.slots.now (spot r.size k (row r.lanes k).head) (row r.lanes k).len
      (λ j m. spot_inside k l j (omega (arith, (r.within k l).1)))

  pub is_sound : Sound (meaning_of r)
  is_sound = record {
    few = r.few;
    near = λ k l. omega arith;
    low = λ k l. omega (arith, (r.within k l).2);
    not_none = λ k l. omega (arith, (r.within k l).0);
    wide = λ k l. r.wide;
    room = λ k l. omega (arith, length_waiting k l, (r.within k l).1);
    clear = λ none k l. omega (arith, length_waiting k l, ap length (none k l));
  }
