use Rattle.std.proofs.Common.{◌≡◌, ℕ, cond, List, ◌++◌, length, is_ok, vec_items, ap, subst, arith}
use Rattle.text.proofs.Pieces.{front_part}
use Rattle.text.proofs.TenthPart.{few_digits}
use Rattle.text.proofs.numbers.append_number.Goals as goal

pub put_digits-count-requires : goal.put_digits-count-requires
put_digits-count-requires c = few_digits 20 c.args.n (omega arith) (omega arith) (omega arith)

pub returns : goal.returns
returns c =
    let e = front_part c.put_digits-count.ensures in
    let before = vec_items c.args.out.now in
    let after = c.extend_from_slice.new.self in
    record {
      items =
          subst (λ (ds : List ℕ). vec_items after ≡ cond (is_ok c.extend_from_slice.result) (before ++ ds) before)
          e c.extend_from_slice.ensures.items;
      succeeds = λ l. c.extend_from_slice.ensures.succeeds (omega (arith, ap length e));
      capacity = c.extend_from_slice.ensures.capacity;
    }
