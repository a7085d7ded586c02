use Rattle.std.proofs.Common.{arith, codes}
use Rattle.records.specs.Words.{family_of}
use Rattle.records.proofs.Spelling.{spelt_as}
use Rattle.records.proofs.reading.words.FamilyChoice.of_bytes.Goals as goal

pub returns-in-switch : goal.returns-in-switch
returns-in-switch c =
    spelt_as family_of c.args.bytes.now (codes "switch") (omega arith)
    (omega arith, (omega arith, (omega arith, (omega arith, (omega arith, (omega arith, tt))))))
