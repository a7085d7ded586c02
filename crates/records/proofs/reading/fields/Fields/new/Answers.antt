use Rattle.std.proofs.Common.{arith}
use Rattle.records.proofs.Nine.{nine}
use Rattle.records.proofs.reading.fields.Fields.new.Goals as goal

pub returns : goal.returns
returns c = nine c.args.line c.args.fields (omega arith)
