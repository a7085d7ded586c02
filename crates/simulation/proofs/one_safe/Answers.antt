use Rattle.simulation.proofs.OneSafe.{one_safe}
use Rattle.simulation.proofs.one_safe.Goals as goal

pub returns : goal.returns
returns g c = one_safe _
