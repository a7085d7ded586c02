use Rattle.exit.proofs.Made.{some_made}
use Rattle.exit.proofs.Exit.new.Goals as goal

pub returns-then-between : goal.returns-then-between
returns-then-between c = some_made _ _ _
