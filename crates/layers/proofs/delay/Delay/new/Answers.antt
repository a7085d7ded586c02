use Rattle.layers.proofs.Delaying.{laid}
use Rattle.layers.proofs.delay.Delay.new.Goals as goal

pub returns-clause-meaning : goal.returns-clause-meaning
returns-clause-meaning g c = laid (g.L.Links.meaning c.args.below) (g.L.Links.sound c.args.below).few
