use Rattle.simulation.proofs.RelayRun.{relay_runs}
use Rattle.simulation.proofs.relay_run.Goals as goal

pub returns : goal.returns
returns c = relay_runs
