use Rattle.std.proofs.Common.{rules, ap, ◌∙◌}
use Rattle.std.specs.Option.{ok_or}
use Rattle.std.proofs.lemmas.Iterator.{YieldsList-from_slice}
use Rattle.std.proofs.lemmas.Iterator.Consumers.{nth_from_yields_List}
use borrow.Author.Tests.{tests}
use Rattle.model.specs.declared.refusal.Refusal.TheVariants.{NoSuch}
use Rattle.kernel.proofs.Chains.{records_of, at_is, found_is}
use Rattle.kernel.proofs.run.Run.record_of.Goals as goal

pub returns : goal.returns
returns g c =
    let there = nth_from_yields_List c.nth.result c.nth.new.self c.args.place c.nth.ensures.ran
    (records_of _ c.args.process (YieldsList-from_slice c.args.self.now.log.items cc) c.filter.ensures.source c.filter.ensures.closure (λ x b q k. search (rules, tests))) in
    rw at_is (c.ok_or.ensures.value ∙ ap (λ r. ok_or r NoSuch) (c.copied.ensures ∙ there) ∙ found_is _)
