-- The places of a part differ, the parts lie apart, and all of them fit into the slots.
use Rattle.std.proofs.Common.{◌≡◌, ℕ, suc, ◌+◌, ◌*◌, ◌/◌, ◌<◌, ◌≤◌, ◌≢◌, sym, ap, ◌∙◌, mul_comm, arith}
use Rattle.std.proofs.lemmas.Nat.{div-mul-add, div-add-mod', mul-le}
use Rattle.std.proofs.lemmas.Bool.Decides.{nat_tests}
use Rattle.slots.proofs.Limits.{Limited}
use Rattle.ring.specs.Shape.{around}

module _ (size head : ℕ) (l : head < size) where
  -- Places less than a whole round apart differ.
  pub around_apart : (j n : ℕ) → j < n → n < size → around size head j ≢ around size head n
  around_apart j n m o = λ e. grind (arith, nat_tests)

  -- What lies j places after the next place lies j + 1 places after this one.
  pub around_next : (j : ℕ) → j < size → around size head (suc j) ≡ around size (around size head 1) j
  around_next j m = grind (arith, nat_tests)

-- Slots in the parts of two links differ.
pub part_apart : (size k j a b : ℕ) → k ≢ j → a < size → b < size → k * size + a ≢ j * size + b
part_apart size k j a b ne l m e =
    ne (sym (div-mul-add k size a l) ∙ ap (λ (n : ℕ). n / size) e ∙ div-mul-add j size b m)

-- Parts no larger than an even share of the slots are no larger than all of them, and fit into them.
module _ (links n size : ℕ) (ok : Limited links n) (share : size ≤ n / links) where
  pub parts_enough : links * size ≤ n
  parts_enough =
      let d = div-add-mod' n links in
      let a = mul-le size links (n / links) links share (omega arith) in
      omega (arith, mul_comm links size)

  pub part_wide : size ≤ 65535
  part_wide =
      let a = mul-le 1 size links size ok.some (omega arith) in
      omega (arith, parts_enough)
