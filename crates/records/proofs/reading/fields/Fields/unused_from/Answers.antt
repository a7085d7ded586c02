use Rattle.std.proofs.Common.{◌≡◌, suc, ◌+◌, ◌-◌, ◌∙◌, Ok, Result, ap, sym, arith}
use Rattle.model.specs.declared.reading.FieldFault.{FieldFault}
use Rattle.records.specs.Rows.{cell}
use Rattle.records.specs.Binding.{and_then}
use Rattle.records.specs.Cells.{unused, unused_next, unused_from}
use Rattle.records.proofs.reading.fields.Fields.unused_from.Goals as goal

pub loop-field-preserved : goal.loop-field-preserved
loop-field-preserved c =
    let k = c.loop-field.field in
    let r = c.args.self.now in
    let more : 10 - k ≡ suc (10 - (k + 1)) = omega arith in
    let here : ◌≡◌ {A = Result (Unit {0}) FieldFault} (Ok c.in_ok-unused.field-0) (unused (cell r k)) = c.in_ok-unused.ensures ∙ ap unused c.cell.ensures in
    ap (λ (x : Result (Unit {0}) FieldFault). and_then (λ e. e) x (λ _. unused_from (k + 1) r)) here
    ∙ sym (ap (λ n. unused_next n k r) more) ∙ c.loop-field.invariant

pub returns : goal.returns
returns c =
    let none : 10 - c.loop-field.field ≡ 0 = omega arith in
    sym (ap (λ n. unused_next n c.loop-field.field c.args.self.now) none) ∙ c.loop-field.invariant
