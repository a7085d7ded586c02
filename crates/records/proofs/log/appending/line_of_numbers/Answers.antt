use Rattle.std.proofs.Common.{◌≡◌, ℕ, List, [], ◌++◌, get_or, take, vec_items, sym, ap, ◌∙◌, arith}
use Rattle.std.proofs.lemmas.List.{take_all}
use Rattle.text.specs.Decimal.{digits}
use Rattle.records.specs.LogText.{between_commas, line_end}
use Rattle.records.proofs.Numbers.{first_number, next_number}
use Rattle.records.proofs.log.appending.line_of_numbers.Goals as goal
use Rattle.records.proofs.log.appending.line_of_numbers.Goals.{then-i-gt0+in_ok-push, else-i-gt0}

pub loop-i-preserved : goal.loop-i-preserved
loop-i-preserved c =
    let ns : List ℕ = c.args.numbers.now in
    let a = c.in_ok-append_number.ensures.items in
    let lt = c.loop-i-test.true in
    elim c.if-i-gt0.branch [
      | then-i-gt0+in_ok-push w ↦
          let b = w.in_ok-push.ensures.items in
          let e = next_number ns c.loop-i.i w.if-i-gt0.true lt in
          let h = c.loop-i.invariant in
          let i = w.line-is in
          cc
      | else-i-gt0 w ↦
          let z : c.loop-i.i ≡ 0 = omega arith in
          let none : between_commas (take c.loop-i.i ns) ≡ [] = ap (λ k. between_commas (take k ns)) z in
          let before : vec_items c.if-i-gt0.line ≡ [] = ap vec_items w.line-is ∙ c.loop-i.invariant ∙ none in
          a ∙ ap (λ (x : List ℕ). x ++ digits (get_or ns c.loop-i.i 0)) before ∙ sym (first_number ns c.loop-i.i z lt)
    ]

pub returns : goal.returns
returns c =
    c.in_ok-extend_from_slice.ensures.items
    ∙ ap (λ (x : List ℕ). x ++ line_end)
    (c.loop-i.invariant ∙ ap between_commas (take_all c.loop-i.i c.args.numbers.now (omega arith)))
