use Rattle.std.proofs.Common.{◌≡◌, ◌+◌, cond, get_or, drop, Some, sym, ap, ◌∙◌, eq-eqb, ne_eqb}
use Rattle.std.proofs.lemmas.List.{at_drop_more, at_drop_all}
use Rattle.simulation.specs.Step.{first_full}
use Rattle.kernel.proofs.ports.Ports.lowest_full.Goals as goal

pub loop-link-preserved : goal.loop-link-preserved
loop-link-preserved g c =
    let m = g.L.Links.meaning c.args.self.now.links.now in
    let i = c.loop-link.link-index in
    let k = get_or c.args.self.now.list.now i 0 in
    let rest = first_full m (drop (i + 1) c.args.self.now.list.now) in
    let more = at_drop_more (first_full m) c.args.self.now.list.now i 0 c.loop-link-test.true in
    let is : c.free.result ≡ m.free k = cc in
    let free = ne_eqb (m.free k) 0 (λ e. c.if-free-eq0.false (is ∙ e)) in
    ap (λ b. cond b (Some k) rest) (sym free) ∙ sym more ∙ c.loop-link.invariant

pub returns-then-free-eq0 : goal.returns-then-free-eq0
returns-then-free-eq0 g c =
    let m = g.L.Links.meaning c.args.self.now.links.now in
    let i = c.loop-link.link-index in
    let k = get_or c.args.self.now.list.now i 0 in
    let rest = first_full m (drop (i + 1) c.args.self.now.list.now) in
    let more = at_drop_more (first_full m) c.args.self.now.list.now i 0 c.loop-link-test.true in
    let is : c.free.result ≡ m.free k = cc in
    let full = eq-eqb (m.free k) 0 (sym is ∙ c.if-free-eq0.true) in
    ap (λ b. cond b (Some k) rest) (sym full) ∙ sym more ∙ c.loop-link.invariant

pub returns : goal.returns
returns g c =
    let m = g.L.Links.meaning c.args.self.now.links.now in
    sym (at_drop_all (first_full m) c.args.self.now.list.now c.loop-link.link-index c.loop-link-test.false) ∙ c.loop-link.invariant
