use Rattle.std.proofs.Common.{◌≡◌, suc, true, false, sym, refl, subst, add-one, arith}
use Rattle.std.proofs.lemmas.Bool.{true≢false}
use Rattle.simulation.specs.Calls.{Passes}
use Rattle.simulation.specs.Programs.{program_of}
use Rattle.kernel.specs.OfRun.{view_of}
use Rattle.kernel.proofs.Called.{called}
use Rattle.kernel.proofs.run.Run.run.Goals as goal

pub loop-made-init : goal.loop-made-init
loop-made-init g c = Passes.none

pub returns-then-pass : goal.returns-then-pass
returns-then-pass g c =
    let m = g.L.Links.meaning in
    let G = program_of g.C.Cargo g.P.Process in
    let v = view_of c.args.self.now in
    let w = view_of c.pass.new.self in
    called _ _ _ _ _ (record {
      passes = subst (λ n. Passes G v n true w) (sym (add-one c.loop-made.made))
          (subst (λ q. Passes G v (suc c.loop-made.made) q w) c.if-pass.true (Passes.another c.loop-made.invariant c.pass.ensures));
      most = omega (arith, c.loop-made-test.true);
      all = λ e. absurd (true≢false e);
    })

pub loop-made-preserved : goal.loop-made-preserved
loop-made-preserved g c =
    let m = g.L.Links.meaning in
    let G = program_of g.C.Cargo g.P.Process in
    let v = view_of c.args.self.now in
    let w = view_of c.pass.new.self in
    subst (λ n. Passes G v n false w) (sym (add-one c.loop-made.made))
    (subst (λ q. Passes G v (suc c.loop-made.made) q w) c.if-pass.false (Passes.another c.loop-made.invariant c.pass.ensures))

pub returns : goal.returns
returns g c =
    let m = g.L.Links.meaning in
    let G = program_of g.C.Cargo g.P.Process in
    let v = view_of c.args.self.now in
    let w = view_of c.loop-made.self in
    let ended : c.loop-made.made ≡ c.args.passes = omega (arith, c.loop-made-test.false, c.loop-made.auto.made-end) in
    called _ _ _ _ _ (record {
      passes = subst (λ n. Passes G v n false w) ended c.loop-made.invariant;
      most = omega arith;
      all = λ e. refl;
    })
