use Rattle.std.proofs.Common.{rules, arith}
use Rattle.text.proofs.Pieces.{joined}
use Rattle.records.proofs.Putting.{written}
use Rattle.records.proofs.log.LogLine.write.Goals as goal

pub returns : goal.returns
returns c =
    let n = joined _ c.put_part.ensures.puts _ c.put_part-2.ensures.puts in
    let time = joined _ n _ c.put_part-3.ensures.puts in
    let link = joined _ time _ c.put_part-4.ensures.puts in
    written _ _ _ _ c.args.self.now c.from.result c.from-2.result (omega arith) c.from.ensures c.from-2.ensures
    (search rules) (joined _ link _ c.put_part-5.ensures.puts)
