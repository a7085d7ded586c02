use Rattle.std.proofs.Common.{rules, tests, ◌==◌, flat_map, vec_items, ◌++◌, sym, ap, ◌∙◌}
use Rattle.std.specs.Iterator.Adapters.{enumerate_source}
use Rattle.std.proofs.lemmas.Iterator.{YieldsList-from_slice}
use Rattle.std.proofs.lemmas.Iterator.Consumers.{YieldsList-at, YieldsList-from_filter, YieldsList-from_enumerate, YieldsList-end}
use Rattle.std.proofs.lemmas.List.Folds.{flat_map-map}
use Rattle.plan_to_log.proofs.Lines.{numbered, lines_of_history}
use Rattle.plan_to_log.proofs.histories.append_history.Goals as goal

pub returns : goal.returns
returns c =
    let p = c.args.process in
    let log = c.args.log.now in
    let end = YieldsList-end
    (YieldsList-from_enumerate
    (YieldsList-at (ap enumerate_source c.into_iter-n-iterator.ensures.into_iter_gives ∙ c.enumerate-n-items.ensures.source)
    (YieldsList-from_filter _ (λ r. r.process == p) (YieldsList-from_slice log cc) c.filter.ensures.closure (λ x b q k. search (rules, tests))))
    (cc))
    c.loop-n.yielded _ c.loop-n.yielded_by _ _ c.in-None.is c.next.ensures.steps in
    let lines = sym (flat_map-map numbered (λ e. (e.0, e.1.now)) c.loop-n.yielded) ∙ ap (flat_map numbered) end.0 ∙ lines_of_history p log in
    c.loop-n.invariant ∙ ap (λ l. vec_items c.args.out.now ++ l) lines
