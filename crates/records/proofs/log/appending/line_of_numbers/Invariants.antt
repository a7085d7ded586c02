use Rattle.std.proofs.Common.{◌≡◌, take, vec_items}
use Rattle.records.specs.LogText.{between_commas}
use Rattle.records.proofs.log.appending.line_of_numbers.Given as goal

abbrev pub invariant-loop-i : goal.invariant-loop-i
invariant-loop-i l = vec_items l.line ≡ between_commas (take l.i l.numbers)
