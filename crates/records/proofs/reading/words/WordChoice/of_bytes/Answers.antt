use Rattle.std.proofs.Common.{arith, codes}
use Rattle.records.specs.Words.{word_of}
use Rattle.records.proofs.Spelling.{spelt_as}
use Rattle.records.proofs.reading.words.WordChoice.of_bytes.Goals as goal

pub returns-in-signal : goal.returns-in-signal
returns-in-signal c =
    spelt_as word_of c.args.bytes.now (codes "signal") (omega arith)
    (omega arith, (omega arith, (omega arith, (omega arith, (omega arith, (omega arith, tt))))))

pub returns-in-switch : goal.returns-in-switch
returns-in-switch c =
    spelt_as word_of c.args.bytes.now (codes "switch") (omega arith)
    (omega arith, (omega arith, (omega arith, (omega arith, (omega arith, (omega arith, tt))))))
