use Rattle.simulation.specs.Programs.{program_of}
use Rattle.simulation.proofs.LawOfRuns.{law}
use Rattle.simulation.proofs.Lookaheads.{reaching}
use Rattle.kernel.proofs.Called.{called}
use Rattle.kernel.proofs.Breaching.{breaches}
use Rattle.kernel.proofs.run.Run.step.Goals as goal

pub returns : goal.returns
returns g c =
    let program = program_of g.C.Cargo g.P.Process in
    record {
      called = called _ _ _ _ _ c.once.ensures;
      breaches = breaches program _ _ _ (law program g.met.P.Process.constant (λ n. reaching program n (λ s. (g.met.P.Process.within s).0))) _ c.once.ensures;
    }
