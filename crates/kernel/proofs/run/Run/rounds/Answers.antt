use Rattle.std.proofs.Common.{refl}
use Rattle.kernel.proofs.Called.{called}
use Rattle.kernel.proofs.run.Run.rounds.Goals as goal

pub returns : goal.returns
returns g c = called _ _ _ _ _ (c.rounds.ensures, refl)
