use Rattle.std.proofs.Common.{◌≡◌, ◌+◌, length, arith, rules}
use Rattle.text.proofs.Pieces.{placed}
use Rattle.text.proofs.bytes.put_bytes.Goals as goal

pub returns : goal.returns
returns c =
    let e : c.in_ok-end.end ≡ c.args.at + length c.args.bytes.now = search rules in
    placed _ _ _ _ _ e (omega arith) c.copy_from_slice.ensures.after
