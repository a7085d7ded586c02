use Rattle.std.proofs.Common.{rules}
use borrow.Author.Tests.{tests}
use Rattle.model.specs.Lists.{is, then}
use Rattle.model.proofs.plan.Plan.out_links.Goals as goal

pub returns : goal.returns
returns c =
    rw (← c.deref.ensures.value)
    (c.numbers_where.ensures (λ o. is c.args.process (then o (λ l. l.from))) (λ link b k. search (rules, tests)))
