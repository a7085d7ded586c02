use Rattle.std.proofs.Common.{rules, sym, ◌∙◌}
use borrow.Author.Tests.{tests}
use Rattle.std.proofs.lemmas.Iterator.{YieldsList-from_slice}
use Rattle.std.proofs.lemmas.Iterator.Consumers.{count_from_yields_List, YieldsList-from_filter}
use Rattle.model.specs.Lists.{is, then}
use Rattle.model.proofs.Chains.{count_of_list}
use Rattle.model.proofs.plan.ports.out_count.Goals as goal

pub returns : goal.returns
returns c =
    let links = c.args.links.now in
    count_from_yields_List c.filter.result c.count.result c.count.ensures.ran
    (YieldsList-from_filter _ (λ link. is c.args.process link.from) (YieldsList-from_slice links cc)
    c.filter.ensures.closure (λ x b q k. search (rules, tests)))
    ∙ sym (count_of_list (λ o. is c.args.process (then o (λ l. l.from))) links)
