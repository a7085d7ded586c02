use Rattle.std.proofs.Common.{rules, arith}
use Rattle.std.proofs.lemmas.Iterator.{YieldsList-from_range}
use Rattle.std.proofs.lemmas.Iterator.Search.{all_from_yields_List}
use borrow.Author.Tests.{tests}
use Rattle.kernel.proofs.Chains.{each_is}
use Rattle.kernel.proofs.run.Run.all_ended.Goals as goal

pub returns : goal.returns
returns g c =
    rw each_is (all_from_yields_List _ _ _ _ c.all.ensures.ran (YieldsList-from_range 0 c.args.processes c.args.processes (cc) (omega arith)) (λ x b q k. search (rules, tests)))
