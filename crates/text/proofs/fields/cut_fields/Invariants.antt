use Rattle.std.proofs.Common.{map}
use Rattle.text.proofs.FieldSteps.{Held}
use Rattle.text.proofs.fields.cut_fields.Given as goal

abbrev pub invariant-loop-i : goal.invariant-loop-i
invariant-loop-i l = Held l.line l.state (map (λ x. x.now) l.initial.out) (map (λ x. x.now) l.out) l.count l.start l.end l.i
