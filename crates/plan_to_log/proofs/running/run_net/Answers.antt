use Rattle.std.proofs.lemmas.Result.{IfOk-weaker}
use Rattle.simulation.specs.Programs.{program_of}
use Rattle.simulation.proofs.LawOfRuns.{law}
use Rattle.simulation.proofs.Lookaheads.{reaching}
use Rattle.simulation.proofs.ComesToRest.{rests}
use Rattle.plan_to_log.proofs.RunOut.{ran}
use Rattle.plan_to_log.proofs.running.run_net.Goals as goal

pub returns-in-Ok : goal.returns-in-Ok
returns-in-Ok g c =
    let program = program_of g.C.Cargo g.P.Process in
    let within = g.met.P.Process.within in
    IfOk-weaker c.run_out.result _ _
    (λ o out. ran program
    (law program g.met.P.Process.constant (λ n. reaching program n (λ s. (within s).0)))
    (rests program (λ s. (within s).1))
    _ _ o.ending c.processes-count.ensures.is c.in-Ok.ensures.0 c.in-Ok.ensures.1 out)
    c.run_out.ensures
