use Rattle.std.proofs.Common.{◌≡◌, suc, ◌&&◌, sym, ap, ◌∙◌, subst, add-one, arith}
use Rattle.simulation.specs.Calls.{Pass, quiet}
use Rattle.simulation.specs.Programs.{program_of}
use Rattle.kernel.specs.OfRun.{view_of}
use Rattle.kernel.proofs.run.Run.pass.Goals as goal
use Rattle.kernel.proofs.run.Run.pass.Goals.{then-all, else-all}

pub loop-process-init : goal.loop-process-init
loop-process-init g c = Pass.begins

pub loop-process-preserved : goal.loop-process-preserved
loop-process-preserved g c =
    let m = g.L.Links.meaning in
    let G = program_of g.C.Cargo g.P.Process in
    let p = c.loop-process.process in
    let W = view_of c.once.new.self in
    let both : c.if-all.all ≡ (c.loop-process.all && quiet c.once.result) =
    elim c.if-all.branch [
      | then-all w ↦ w.all-is ∙ c.was_quiet-quiet.ensures ∙ ap (λ b. b && quiet c.once.result) (sym w.if-all.true)
      | else-all w ↦ w.all-is ∙ w.if-all.false ∙ ap (λ b. b && quiet c.once.result) (sym w.if-all.false)
    ] in
    let stepped = Pass.steps c.loop-process.invariant c.once.ensures in
    subst (λ n. Pass G (view_of c.args.self.now) n c.if-all.all W) (sym (add-one p))
    (subst (λ b. Pass G (view_of c.args.self.now) (suc p) b W) (sym both) stepped)

pub returns : goal.returns
returns g c =
    let m = g.L.Links.meaning in
    let G = program_of g.C.Cargo g.P.Process in
    let r = c.args.self.now in
    let planned = c.processes-processes.ensures.is ∙ ap (λ plan. plan.processes) c.plan.ensures in
    let ended : c.loop-process.process ≡ r.routes.plan.processes =
    omega (arith, c.loop-process-test.false, c.loop-process.auto.process-end, planned) in
    subst (λ n. Pass G (view_of r) n c.loop-process.all (view_of c.loop-process.self)) ended c.loop-process.invariant
