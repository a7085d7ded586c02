use Rattle.exit.proofs.Made.{some_made}
use Rattle.packet.proofs.switch.Switch.new.Goals as goal

pub returns-then-between-2 : goal.returns-then-between-2
returns-then-between-2 c = some_made _ _ _
