use Rattle.std.proofs.Common.{rules, Some}
use borrow.Author.Tests.{tests}
use Rattle.model.specs.Lists.{is, then}
use Rattle.model.proofs.plan.Plan.in_links.Goals as goal

pub returns : goal.returns
returns c =
    rw (← c.deref.ensures.value)
    (c.numbers_where.ensures (λ o. is c.args.process (then o (λ l. Some l.to))) (λ link b k. search (rules, tests)))
