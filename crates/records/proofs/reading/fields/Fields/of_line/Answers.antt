use Rattle.std.proofs.Common.{◌≡◌, ◌≤◌, [], length, map, replicate, Ok, Err, refl, ap, ◌∙◌, subst, arith}
use Rattle.std.proofs.iter.Serving.{serving}
use Rattle.text.specs.declared.fields.Malformed.{Malformed}
use Rattle.text.specs.Fields.{cut_line, found, Answer}
use Rattle.records.proofs.FewFields.{few_fields, nine_held}
use Rattle.records.proofs.Faults.{was_ok}
use Rattle.records.proofs.Nine.{nine_cut}
use Rattle.records.proofs.reading.fields.Fields.of_line.Goals as goal

pub map_err-requires : goal.map_err-requires
map_err-requires c =
    let few : (e : Malformed) → c.cut_fields.result ≡ Err e → e.field ≤ 65538 = λ e is.
    let a = subst (Answer (cut_line c.args.bytes.now)) is c.cut_fields.ensures.answer in
    omega (arith, a.1, few_fields c.cut_fields.ensures.grammar.parted, c.requires) in
    grind (arith, serving, few)

pub returns : goal.returns
returns c =
    let k = cut_line c.args.bytes.now in
    let was = was_ok _ _ _ _ c.in_ok-count.ensures.cases c.in_ok-count.ensures.variant in
    let cut = subst (Answer k) was c.cut_fields.ensures.answer in
    let n : length (found k) ≡ 9 = omega (arith, cut.1) in
    let e : map (λ x. x.now) c.cut_fields.new.out ≡ found k = nine_held _ (replicate 9 []) (found k) c.cut_fields.ensures.places n refl in
    ap Ok c.new.ensures ∙ nine_cut c.args.line k (map (λ x. x.now) c.cut_fields.new.out) cut.0 n e
