use Rattle.std.proofs.Common.{rules, Some, sym, ◌∙◌}
use borrow.Author.Tests.{tests}
use Rattle.std.proofs.lemmas.Iterator.{YieldsList-from_slice}
use Rattle.std.proofs.lemmas.Iterator.Search.{all_from_yields_List}
use Rattle.model.specs.Shape.{joins}
use Rattle.model.proofs.Chains.{each_of_list}
use Rattle.model.proofs.plan.made.all_between.Goals as goal

pub returns : goal.returns
returns c =
    let links = c.args.links.now in
    all_from_yields_List (λ link. joins c.args.processes (Some link)) _ _ _ c.all.ensures.ran (YieldsList-from_slice links cc) (λ x b q k. search (rules, tests))
    ∙ sym (each_of_list (joins c.args.processes) links)
