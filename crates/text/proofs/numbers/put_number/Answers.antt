use Rattle.std.proofs.Common.{ℕ, List, subst, arith}
use Rattle.text.specs.Writing.{Put}
use Rattle.text.proofs.Pieces.{front_part}
use Rattle.text.proofs.TenthPart.{few_digits}
use Rattle.text.proofs.numbers.put_number.Goals as goal

pub put_digits-count-requires : goal.put_digits-count-requires
put_digits-count-requires c = few_digits 20 c.args.n (omega arith) (omega arith) (omega arith)

pub returns : goal.returns
returns c =
    subst (λ (ds : List ℕ). Put c.args.buf.now c.args.at ds c.put_bytes.result c.put_bytes.new.buf)
    (front_part c.put_digits-count.ensures) c.put_bytes.ensures
