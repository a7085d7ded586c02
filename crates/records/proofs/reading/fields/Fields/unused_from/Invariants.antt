use Rattle.std.proofs.Common.{◌≡◌}
use Rattle.records.specs.Cells.{unused_from}
use Rattle.records.proofs.reading.fields.Fields.unused_from.Given as goal

-- What is left to read goes on as the whole began.
abbrev pub invariant-loop-field : goal.invariant-loop-field
invariant-loop-field l = unused_from l.field l.self ≡ unused_from l.first l.self
