use Rattle.std.proofs.Common.{refl, arith, rules, true-eqb, false-eqb}
use Rattle.std.proofs.lemmas.Slice.Eq.{strip_suffix_is}
use Rattle.std.proofs.lemmas.List.{nil_from_length}
use Rattle.text.proofs.LineEnds.{split_at_lf, split_last}
use Rattle.text.proofs.lines.split_line.Goals as goal
use Rattle.std.proofs.lemmas.Bool.Decides.{Decides-eqb}

pub returns-then-is_empty : goal.returns-then-is_empty
returns-then-is_empty c = nil_from_length _ (true-eqb _ 0 c.if-is_empty.ensures)

pub returns-in-Some : goal.returns-in-Some
returns-in-Some c =
    rw c.unwrap_or-line.ensures
    (split_at_lf _ c.in-Some.end _ _ (search rules) (search rules) (search rules) refl
    (strip_suffix_is Decides-eqb _ _ _ c.strip_suffix.ensures.cases))

pub returns-in-None : goal.returns-in-None
returns-in-None c = split_last _ (omega (arith, false-eqb _ 0 c.if-is_empty.ensures)) (search rules)
