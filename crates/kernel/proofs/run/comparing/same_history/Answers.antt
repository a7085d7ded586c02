use Rattle.simulation.specs.Programs.{program_of}
use Rattle.simulation.proofs.LawOfRuns.{law}
use Rattle.simulation.proofs.Lookaheads.{reaching}
use Rattle.kernel.proofs.run.comparing.same_history.Goals as goal

pub returns-clause-law : goal.returns-clause-law
returns-clause-law g c =
    let program = program_of g.C.Cargo g.P.Process in
    λ net. law program g.met.P.Process.constant (λ n. reaching program n (λ s. (g.met.P.Process.within s).0)) net _ _
