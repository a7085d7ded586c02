-- Where every lookahead is 1 or more, so is every reach.
use Rattle.std.proofs.Common.{◌≤◌, arith}
use Rattle.simulation.specs.Net.{Program, Net}
use Rattle.simulation.specs.Prepare.{Limits}
use Rattle.simulation.proofs.Places.{at_there}
use Rattle.simulation.proofs.OfNet.{Reaching}

-- The lookahead of a process is part of each reach.
pub reaching : {C P : Type 0} (g : Program C P) (net : Net C P) → ((s : P) → 1 ≤ g.lookahead s) → Limits net → Reaching g net
reaching g net ahead limits k p e l =
    let m = limits.as_many in
    let x = at_there net.processes p (omega arith) in
    let h = ahead x.0 in
    rw x.1 (omega arith)
