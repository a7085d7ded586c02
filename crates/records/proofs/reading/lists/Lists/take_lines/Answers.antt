use Rattle.std.proofs.Common.{◌≡◌, [], length, sym, ap, ◌∙◌, subst, refl, ⊎_elim, arith}
use Rattle.std.proofs.lemmas.Grind.{common_steps}
use Rattle.std.specs.Iterator.Adapters.{zip_first, zip_second}
use Rattle.text.specs.Lines.{lines_of, lines_left}
use Rattle.records.proofs.PlanLines.{Short, longer, lines_short, one_line}
use Rattle.records.proofs.reading.lists.Lists.take_lines.Goals as goal

pub loop-record-init : goal.loop-record-init
loop-record-init g c =
    let e : lines_left (zip_first c.into_iter-record-iterator.result) ≡ lines_of c.args.text.now =
    ap (λ z. lines_left (zip_first z)) c.into_iter-record-iterator.ensures.into_iter_gives
    ∙ ap lines_left c.zip-record-items.ensures.first ∙ c.lines.ensures.all in
    let s : (zip_second c.into_iter-record-iterator.result).start ≡ 2 = rw (c.into_iter-record-iterator.ensures.into_iter_gives, c.zip-record-items.ensures.second) in
    let few = c.lines.ensures.few in
    let n = ap length e in
    record {
      can = (tt, tt);
      finite = tt;
      goes_on = rw (s, e);
      room = refl;
      short = subst (Short 65536) (sym e) (longer _ 65536 _ c.requires (lines_short c.args.text.now));
      few = omega (arith, n, s, few);
    }

pub take_line-requires : goal.take_line-requires
take_line-requires g c = (subst (Short 65536) c.in-Some.ensures.steps.0 c.loop-record.invariant.short).0

pub loop-record-preserved : goal.loop-record-preserved
loop-record-preserved g c =
    let e = c.in-Some.ensures.steps.0 in
    let i = c.loop-record.invariant in
    record {
      can = (tt, tt);
      finite = tt;
      goes_on = rw (one_line g.P.ProcessKind.processed g.P.ProcessKind.loaded c.args.starts
          _ _ c.take_line.ensures.items (c.in_ok-take_line.was) i.room e c.in-Some.ensures.steps.1.0 c.in-Some.ensures.steps.1.1)
          i.goes_on;
      room = c.take_line.ensures.room ∙ i.room;
      short = (subst (Short 65536) e i.short).1;
      few = omega (arith, ap length e, i.few, c.in-Some.ensures.steps.1.0, c.in-Some.ensures.steps.1.1);
    }

pub returns : goal.returns
returns g c =
    let i = c.loop-record.invariant in
    let e : lines_left (zip_first c.loop-record.record-iterator) ≡ [] =
    ⊎_elim (λ h. h.1.0) (λ h. absurd (omega (arith, h.1.0, i.few))) c.in-None.ensures.steps in
    record { items = grind (arith, common_steps); room = i.room }
