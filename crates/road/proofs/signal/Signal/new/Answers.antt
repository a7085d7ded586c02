use Rattle.exit.proofs.Made.{some_made}
use Rattle.road.proofs.signal.Signal.new.Goals as goal

pub returns-then-within_limits : goal.returns-then-within_limits
returns-then-within_limits c = some_made _ _ _
