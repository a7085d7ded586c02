-- The program of what the kinds of cargo and of process say.
use Rattle.model.specs.declared.cargo.Cargo as Cargo
use Rattle.model.specs.declared.process.Process as Process
use Rattle.simulation.specs.Net.{Program}

-- The code, the lookahead and the rule that the two kinds state.
abbrev pub program_of : {C P : Type 0} → Cargo.Ghosts C → Process.Ghosts P C → Program C P
program_of c p = record { code = c.code; lookahead = p.lookahead; rule = p.rule }
