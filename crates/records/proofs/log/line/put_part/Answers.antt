use Rattle.std.proofs.Common.{arith, rules, length-append}
use Rattle.text.specs.Decimal.{digits}
use Rattle.text.proofs.Pieces.{joined, length_kept}
use Rattle.records.proofs.Putting.{placed}
use Rattle.records.proofs.log.line.put_part.Goals as goal

pub returns : goal.returns
returns c =
    let all = length-append (digits c.args.n) c.args.behind.now in
    let p = placed _ _ _ _ _ _ c.put_number.ensures.puts (omega arith) in
    let q = placed _ _ _ _ _ _ c.put_bytes.ensures.puts (omega (arith, p.ends, length_kept _ p)) in
    let both = joined _ p _ q in
    record { same = search rules; puts = both; long = length_kept _ both }
