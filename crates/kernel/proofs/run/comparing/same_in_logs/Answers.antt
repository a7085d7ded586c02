use Rattle.std.proofs.Common.{◌≡◌, Bool, true, false, not, List, ◌∷◌, Some, None, Option, is_some, refl, sym, ap, ◌∙◌, rules}
use mathlib.Core.List.{tail}
use borrow.Author.Tests.{tests}
use Rattle.std.proofs.lemmas.Bool.{true≢false}
use Rattle.std.specs.Iterator.Adapters.{filter_source}
use Rattle.std.specs.Slice.Iter.{iter_rest}
use Rattle.model.specs.declared.record.Record.{Record}
use Rattle.simulation.specs.View.{history}
use Rattle.kernel.specs.Deciding.{Decided}
use Rattle.kernel.proofs.Chains.{next_is, none_left}
use Rattle.kernel.proofs.run.comparing.same_in_logs.Goals as goal

-- What `is_none` says decides what holds where nothing more comes, and not where something does.
by_none : {A P : Type 0} (r : Option A) (b : Bool) → is_some r ≡ not b → (r ≡ None → P) → ((x : A) → r ≡ Some x → P → ⊥) → Decided b P
by_none None true says holds fails = holds refl
by_none None false says holds fails = absurd (true≢false (sym says))
by_none (Some x) true says holds fails = absurd (true≢false says)
by_none (Some x) false says holds fails = fails x refl

pub loop-record-init : goal.loop-record-init
loop-record-init c = record { to_come = ((λ e. cc), (λ e. cc)); one_test = cc; kept = refl }

pub loop-record-preserved : goal.loop-record-preserved
loop-record-preserved c =
    let inv = c.loop-record.invariant in
    let test = c.filter-others.ensures.closure in
    let here = next_is _ c.args.process _ c.loop-record.record-iterator c.next.new.self _ c.in-Some.record c.in-Some.is
    (inv.one_test ∙ inv.kept ∙ test) c.next.ensures.steps (λ x b q k. search (rules, tests)) in
    let there = next_is _ c.args.process _ c.loop-record.others c.next-in-loop-record.new.self _ c.in-Some-next.other c.in-Some-next.is
    (inv.kept ∙ test) c.next-in-loop-record.ensures.steps (λ x b q k. search (rules, tests)) in
    let rest : List Record = history c.args.process (iter_rest (filter_source c.next-in-loop-record.new.self)) in
    record {
      to_come = (
        (λ e. inv.to_come.0 (here.1 ∙ ap (λ l. c.in-Some.record.now ∷ l) e ∙ ap (λ r. r ∷ rest) c.if-not-same_record.ensures ∙ sym there.1)),
        (λ e. ap tail (sym here.1 ∙ inv.to_come.1 e ∙ there.1)),
      );
      one_test = here.0 ∙ sym there.0;
      kept = there.0 ∙ sym test;
    }

pub returns-in_default : goal.returns-in_default
returns-in_default c =
    let inv = c.loop-record.invariant in
    let test = c.filter-others.ensures.closure in
    let here = next_is _ c.args.process _ c.loop-record.record-iterator c.next.new.self _ c.in-Some.record c.in-Some.is
    (inv.one_test ∙ inv.kept ∙ test) c.next.ensures.steps (λ x b q k. search (rules, tests)) in
    let none = none_left _ c.args.process _ c.loop-record.others c.next-in-loop-record.new.self _ c.in_default.is
    (inv.kept ∙ test) c.next-in-loop-record.ensures.steps (λ x b q k. search (rules, tests)) in
    λ e. let both = sym here.1 ∙ inv.to_come.1 e ∙ none in cc

pub returns-then-not-same_record : goal.returns-then-not-same_record
returns-then-not-same_record c =
    let inv = c.loop-record.invariant in
    let test = c.filter-others.ensures.closure in
    let here = next_is _ c.args.process _ c.loop-record.record-iterator c.next.new.self _ c.in-Some.record c.in-Some.is
    (inv.one_test ∙ inv.kept ∙ test) c.next.ensures.steps (λ x b q k. search (rules, tests)) in
    let there = next_is _ c.args.process _ c.loop-record.others c.next-in-loop-record.new.self _ c.in-Some-next.other c.in-Some-next.is
    (inv.kept ∙ test) c.next-in-loop-record.ensures.steps (λ x b q k. search (rules, tests)) in
    λ e. let both = sym here.1 ∙ inv.to_come.1 e ∙ there.1 in c.if-not-same_record.ensures (cc)

pub returns : goal.returns
returns c =
    let inv = c.loop-record.invariant in
    let test = c.filter-others.ensures.closure in
    let ended = none_left _ c.args.process _ c.loop-record.record-iterator c.next.new.self _ c.in-None.is
    (inv.one_test ∙ inv.kept ∙ test) c.next.ensures.steps (λ x b q k. search (rules, tests)) in
    by_none c.next-2.result c.is_none.result c.is_none.ensures
    (λ is. inv.to_come.0 (ended ∙ sym (none_left _ c.args.process _ c.loop-record.others c.next-2.new.self _ is
    (inv.kept ∙ test) c.next-2.ensures.steps (λ x b q k. search (rules, tests)))))
    (λ x is e.
    let more = next_is _ c.args.process _ c.loop-record.others c.next-2.new.self _ x is
    (inv.kept ∙ test) c.next-2.ensures.steps (λ x b q k. search (rules, tests)) in
    let both = sym ended ∙ inv.to_come.1 e ∙ more.1 in cc)
