use Rattle.std.proofs.Common.{arith}
use Rattle.text.proofs.ReadBack.{reads_back, spelled}
use Rattle.text.proofs.numbers.spells.Goals as goal

pub returns : goal.returns
returns c = record {
  value = spelled _ c.args.n (omega arith) _ _ c.read_number.ensures c.eq.ensures;
  law = reads_back;
}
