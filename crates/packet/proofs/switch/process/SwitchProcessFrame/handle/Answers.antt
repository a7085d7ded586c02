use Rattle.std.proofs.Common.{rules}
use Rattle.exit.proofs.Outcome.{same_outcome}
use Rattle.exit.proofs.Made.{same_made}
use Rattle.packet.specs.Limits.{switch_within}
use Rattle.packet.specs.Switches.{switch_with}
use Rattle.packet.proofs.switch.process.SwitchProcessFrame.handle.Goals as goal

pub returns : goal.returns
returns c =
    let s = c.args.self.now in
    same_outcome (same_made (λ free. switch_within s.lookahead s.service) (switch_with s.lookahead s.service) _ _ (search rules)) (search rules)
