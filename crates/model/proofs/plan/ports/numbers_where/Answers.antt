use Rattle.std.proofs.Common.{rules, Some}
use borrow.Author.Tests.{tests}
use Rattle.std.proofs.lemmas.Iterator.{YieldsList-from_slice, YieldsList-from_map, items_from_collect}
use Rattle.std.proofs.lemmas.Iterator.Consumers.{YieldsList-at, YieldsList-from_filter, YieldsList-from_enumerate}
use Rattle.model.proofs.Chains.{below_of_list}
use Rattle.model.proofs.plan.ports.numbers_where.Goals as goal

pub returns : goal.returns
returns g c test says =
    let links = c.args.links.now in
    rw (below_of_list test links) (items_from_collect c.collect.result c.collect.ensures.ran
    (YieldsList-from_map _ (λ p. p.0)
    (YieldsList-at c.map.ensures.source (YieldsList-from_filter _ (λ p. test (Some p.1))
    (YieldsList-at c.filter.ensures.source (YieldsList-from_enumerate (YieldsList-from_slice links cc) cc))
    c.filter.ensures.closure (λ x b q k. (search (rules, tests), says x.1.now b (search (rules, tests))))))
    c.map.ensures.closure (λ x r q k. search rules)))
