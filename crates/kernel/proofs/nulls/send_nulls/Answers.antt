use Rattle.std.proofs.Common.{◌≡◌, ℕ, ◌+◌, ◌≤◌, Bool, ◌∙◌, if◌then◌else◌, take, refl, ap, subst, arith, take_all}
use Rattle.simulation.specs.Step.{Nulls}
use Rattle.kernel.proofs.Telling.{nulls_more}
use Rattle.kernel.proofs.nulls.send_nulls.Goals as goal
use Rattle.kernel.proofs.nulls.send_nulls.Goals.{then-tell, else-tell}

pub loop-port-init : goal.loop-port-init
loop-port-init g c = (Nulls.no_more, refl, omega arith)

pub loop-port-preserved : goal.loop-port-preserved
loop-port-preserved g c =
    let m = g.L.Links.meaning in
    let ks = c.args.outs.now in
    let i = c.loop-port.port in
    let inv = c.loop-port.invariant in
    let more : ℕ = if c.tell.result then 1 else 0 in
    let so_many : (c.loop-port.sent + more ≡ c.if-tell.sent) × (c.if-tell.sent ≤ i + 1) =
    elim c.if-tell.branch [
      | then-tell w ↦ let one = ap {B = ℕ} (λ (b : Bool). if b then 1 else 0) w.if-tell.true in (omega (arith, one, w.sent-is), omega (arith, w.sent-is, inv.2))
      | else-tell w ↦ let one = ap {B = ℕ} (λ (b : Bool). if b then 1 else 0) w.if-tell.false in (omega (arith, one, w.sent-is), omega (arith, w.sent-is, inv.2))
    ] in (
      subst (λ n. Nulls c.args.time (take (i + 1) ks) (m c.args.links.now) n (m c.tell.new.links)) so_many.0
          (nulls_more c.args.time ks i _ _ _ _ _ c.loop-port-test.true inv.0 c.tell.ensures.nulls),
      c.tell.ensures.count ∙ inv.1,
      so_many.1,
    )

pub returns : goal.returns
returns g c =
    let m = g.L.Links.meaning in
    record {
      count = c.loop-port.invariant.1;
      nulls = subst (λ ks. Nulls c.args.time ks (m c.args.links.now) c.loop-port.sent (m c.loop-port.links))
          (take_all _ _ c.loop-port-test.false) c.loop-port.invariant.0;
    }
