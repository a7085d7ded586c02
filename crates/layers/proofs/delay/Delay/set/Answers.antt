use Rattle.std.proofs.Common.{arith}
use Rattle.layers.proofs.Delaying.{fresh_below}
use Rattle.layers.proofs.delay.Delay.set.Goals as goal

pub returns-then-not-fresh-clause-table : goal.returns-then-not-fresh-clause-table
returns-then-not-fresh-clause-table g c = grind (arith, fresh_below)
