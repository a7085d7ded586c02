use Rattle.std.proofs.Common.{refl}
use Rattle.simulation.proofs.relay_simulated.Goals as goal

pub returns : goal.returns
returns c = record { over = refl; none_stopped = λ p l. refl; relay_history = refl; sink_history = refl; events = refl; figure = refl }
