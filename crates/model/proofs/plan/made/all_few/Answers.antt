use Rattle.std.proofs.Common.{rules, leb, length, sym, ◌∙◌, arith}
use borrow.Author.Tests.{tests}
use Rattle.std.proofs.lemmas.Iterator.{YieldsList-from_range}
use Rattle.std.proofs.lemmas.Iterator.Search.{all_from_yields_List}
use Rattle.model.specs.Shape.{leaving}
use Rattle.model.proofs.Chains.{each_of_range}
use Rattle.model.proofs.plan.made.all_few.Goals as goal

pub returns : goal.returns
returns c =
    let n = c.args.processes in
    all_from_yields_List (λ p. leb (length (leaving c.args.links.now p)) 8) _ _ _ c.all.ensures.ran (YieldsList-from_range 0 n n (search rules) (omega arith)) (λ x b q k. search (rules, tests))
    ∙ sym (each_of_range n (λ p. leb (length (leaving c.args.links.now p)) 8))
