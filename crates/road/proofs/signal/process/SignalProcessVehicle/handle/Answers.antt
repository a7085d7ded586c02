use Rattle.std.proofs.Common.{rules}
use Rattle.exit.proofs.Outcome.{same_outcome}
use Rattle.exit.proofs.Made.{same_made}
use Rattle.road.specs.Limits.{signal_within}
use Rattle.road.specs.Signals.{signal_with}
use Rattle.road.proofs.signal.process.SignalProcessVehicle.handle.Goals as goal

pub returns : goal.returns
returns c =
    let s = c.args.self.now in
    same_outcome (same_made (λ free. signal_within s.settings) (signal_with s.settings) _ _ (search rules)) (search rules)
