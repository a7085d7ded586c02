use Rattle.text.proofs.ReadBack.{Sofar}
use Rattle.text.proofs.numbers.read_number.Given as goal

abbrev pub invariant-loop-byte : goal.invariant-loop-byte
invariant-loop-byte l = Sofar l.bytes l.value l.byte-index
