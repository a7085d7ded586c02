use Rattle.exit.proofs.Made.{some_made}
use Rattle.records.proofs.log.LogLine.new.Goals as goal

pub returns-then-event-lt128 : goal.returns-then-event-lt128
returns-then-event-lt128 c = some_made _ _ _
