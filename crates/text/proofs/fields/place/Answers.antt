use Rattle.std.proofs.lemmas.List.{map-set}
use Rattle.text.proofs.fields.place.Goals as goal

pub returns-then-at-out : goal.returns-then-at-out
returns-then-at-out c = map-set (λ x. x.now) c.args.out.now c.args.at c.args.field
