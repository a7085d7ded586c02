use Rattle.std.proofs.Common.{rules}
use Rattle.std.proofs.lemmas.Iterator.{YieldsList-from_slice}
use Rattle.std.proofs.lemmas.Iterator.Consumers.{count_from_yields_List}
use borrow.Author.Tests.{tests}
use Rattle.kernel.proofs.Chains.{records_of}
use Rattle.kernel.proofs.run.Run.taken_by.Goals as goal

pub returns : goal.returns
returns g c =
    count_from_yields_List _ _ c.count.ensures.ran
    (records_of _ c.args.process (YieldsList-from_slice c.args.self.now.log.items cc) c.filter.ensures.source c.filter.ensures.closure (λ x b q k. search (rules, tests)))
