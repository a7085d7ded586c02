use Rattle.std.proofs.Common.{◌≡◌, ℕ, ◌+◌, ◌/◌, ◌%◌, ◌<◌, List, [], ◌∷◌, length, set, sym, ap, subst, arith}
use Rattle.text.specs.Decimal.{digits}
use Rattle.text.specs.Writing.{Placed}
use Rattle.text.proofs.Pieces.{joined, length_kept, nothing, one_byte}
use Rattle.text.proofs.TenthPart.{length_more, tenth_part, tenths, tenths_none, tenths_some}
use Rattle.text.proofs.numbers.+put_digits.Goals as goal
use Rattle.text.proofs.numbers.+put_digits.Goals.{then-tenth-gt0, else-tenth-gt0, Joined-tenth-gt0}

-- where the ways meet, the digits of the tenth part are written
front : (t : ℕ) (c : Joined-tenth-gt0 t)
    → Placed c.args.buf.now 0 (tenths c.args.n) c.if-tenth-gt0.end c.if-tenth-gt0.buf
front t c =
    elim c.if-tenth-gt0.branch [
      | then-tenth-gt0 w ↦
          let some : tenths c.args.n ≡ digits (c.args.n / 10) = tenths_some c.args.n w.if-tenth-gt0.true in
          simp (w.buf-is, w.end-is, some) w.put_digits-end.ensures
      | else-tenth-gt0 w ↦
          let none : tenths c.args.n ≡ [] = tenths_none c.args.n (omega (arith, w.if-tenth-gt0.false)) in
          simp (w.buf-is, w.end-is, none) (nothing c.args.buf.now 0 (omega arith))
    ]

-- so there is room for the last
within : (t : ℕ) (c : Joined-tenth-gt0 t) → c.if-tenth-gt0.end < length c.if-tenth-gt0.buf
within t c = omega (arith, (front t c).ends, length_kept _ (front t c), length_more c.args.n, c.requires)

pub put_digits-end-requires : goal.put_digits-end-requires
put_digits-end-requires t c =
    (omega arith, omega (arith, length_more c.args.n, ap length (tenths_some c.args.n c.if-tenth-gt0.true)))

pub bounds-buf-end : goal.bounds-buf-end
bounds-buf-end t c = within t c

pub returns : goal.returns
returns t c =
    let j = (goal.at.returns t c).Joined-tenth-gt0 in
    let digit = 48 + c.args.n % 10 in
    let after = set c.if-tenth-gt0.buf c.if-tenth-gt0.end digit in
    subst (λ (ds : List ℕ). Placed c.args.buf.now 0 ds (c.if-tenth-gt0.end + 1) after)
    (sym (tenth_part c.args.n)) (joined _ (front t j) (digit ∷ []) (one_byte _ _ digit (within t j)))
