use Rattle.std.proofs.Common.{◌≡◌, ℕ, ◌+◌, [], ◌∷◌, ◌++◌, Ok, Err, set, vec_items, sym, refl, ap, ◌∙◌, subst, arith, rules}
use Rattle.model.specs.declared.refusal.Breach.{Breach}
use Rattle.model.specs.declared.refusal.Refusal.TheVariants.{Breached}
use Rattle.model.specs.Made.{shape_of}
use Rattle.simulation.specs.Programs.{program_of}
use Rattle.simulation.specs.Step.{Step, Sent, first_full}
use Rattle.kernel.specs.OfRun.{view_of}
use Rattle.kernel.specs.Places.{Below}
use Rattle.kernel.specs.Judging.{judged}
use Rattle.kernel.specs.Stages.{Taking}
use Rattle.kernel.proofs.Standing.{ready}
use Rattle.kernel.proofs.ByLink.{there}
use Rattle.kernel.proofs.Judged.{none_full, may_go}
use Rattle.kernel.proofs.Handled.{Ran, broke, went, next_is, sent_gone}
use Rattle.kernel.proofs.run.Run.take.Goals as goal

pub returns-in-Some : goal.returns-in-Some
returns-in-Some g c =
    let r = c.args.self.now in
    let m = g.L.Links.meaning in
    let full = ap (λ l. first_full (m l) c.outs-outs.result.list.now) c.outs-outs.ensures.links
    ∙ ap (first_full (m r.links)) c.outs-outs.ensures.list in
    Step.held (ready r c.args.process c.args.state c.requires.process c.requires.state) c.requires.safe.0
    (sym (c.in-Some.ensures ∙ full))

pub returns-then-len-self : goal.returns-then-len-self
returns-then-len-self g c =
    let r = c.args.self.now in
    let m = g.L.Links.meaning in
    let full = ap (λ l. first_full (m l) c.outs-outs.result.list.now) c.outs-outs.ensures.links
    ∙ ap (first_full (m r.links)) c.outs-outs.ensures.list in
    Step.log_full (ready r c.args.process c.args.state c.requires.process c.requires.state) c.requires.safe.0
    (sym (c.in_default.ensures ∙ full)) (omega (arith, c.if-len-self.true, c.len.ensures, r.log.ok.0))

pub returns-in_err-going : goal.returns-in_err-going
returns-in_err-going g c =
    let r = c.args.self.now in
    let m = g.L.Links.meaning in
    let p = c.args.process in
    let s = c.args.state in
    let safe = c.args.safe in
    let G = program_of g.C.Cargo g.P.Process in
    let ks = c.outs-outs.result.list.now in
    let next = c.handle-sending.new.self in
    let sending = c.handle-sending.result in
    let ahead = c.lookahead.result in
    let full = ap (λ l. first_full (m l) ks) c.outs-outs.ensures.links ∙ ap (first_full (m r.links)) c.outs-outs.ensures.list in
    let judge = c.judge.ensures ∙ ap (λ l. judged (m l) p ks (safe.event.time + ahead) sending) c.outs-outs.ensures.links in
    let broken : (b : Breach) × (c.from_residual.result ≡ Err (Breached b)) × (c.judge.result ≡ Err b) = search rules in
    let ran : Ran G (shape_of r.routes.plan) (m r.links) p s safe.link safe.event safe.port ahead ks next sending =
    record { at_port = c.requires.safe.1; answer = c.handle-sending.ensures; reads = c.lookahead.ensures; outs = c.outs-outs.ensures.list } in
    subst (λ a. Taking G (view_of r) p s safe a (view_of r)) (sym broken.1)
    (Step.breached (ready r p s c.requires.process c.requires.state) c.requires.safe.0 (sym (c.in_default.ensures ∙ full))
    (omega (arith, c.if-len-self.false, c.len.ensures, r.log.ok.0))
    (broke G (shape_of r.routes.plan) (m r.links) p s safe.link safe.event safe.port ahead ks next sending ran broken.0 (sym judge ∙ broken.2)))

pub pass_on-requires-clause-there : goal.pass_on-requires-clause-there
pass_on-requires-clause-there g c =
    let r = c.args.self.now in
    omega (arith, r.joined, there (shape_of r.routes.plan) (g.L.Links.meaning r.links) c.args.process c.args.safe.link c.requires.safe.0.leads)

pub pass_on-requires-clause-bears : goal.pass_on-requires-clause-bears
pass_on-requires-clause-bears g c =
    let r = c.args.self.now in
    let m = g.L.Links.meaning in
    let ks = c.outs-outs.result.list.now in
    let same = c.outs-outs.ensures.links in
    let earliest = c.args.safe.event.time + c.lookahead.result in
    let judge = c.judge.ensures ∙ ap (λ l. judged (m l) c.args.process ks earliest c.handle-sending.result) same in
    let goes : c.judge.result ≡ Ok c.in_ok-going.going = search rules in
    may_go (m r.links) c.args.process ks earliest c.handle-sending.result c.in_ok-going.going
    (subst (λ l. Below (m l).count ks) same c.outs-outs.result.below)
    (none_full (m r.links) ks (sym (c.in_default.ensures ∙ ap (λ l. first_full (m l) ks) same)))
    (sym judge ∙ goes)

pub returns : goal.returns
returns g c =
    let r = c.args.self.now in
    let m = g.L.Links.meaning in
    let p = c.args.process in
    let s = c.args.state in
    let safe = c.args.safe in
    let plan = shape_of r.routes.plan in
    let G = program_of g.C.Cargo g.P.Process in
    let ks = c.outs-outs.result.list.now in
    let next = c.handle-sending.new.self in
    let sending = c.handle-sending.result in
    let ahead = c.lookahead.result in
    let going = c.in_ok-going.going in
    let full = ap (λ l. first_full (m l) ks) c.outs-outs.ensures.links ∙ ap (first_full (m r.links)) c.outs-outs.ensures.list in
    let judge = c.judge.ensures ∙ ap (λ l. judged (m l) p ks (safe.event.time + ahead) sending) c.outs-outs.ensures.links in
    let lets : c.judge.result ≡ Ok going = search rules in
    let ran : Ran G plan (m r.links) p s safe.link safe.event safe.port ahead ks next sending =
    record { at_port = c.requires.safe.1; answer = c.handle-sending.ensures; reads = c.lookahead.ensures; outs = c.outs-outs.ensures.list } in
    let goes = went G plan (m r.links) p s safe.link safe.event safe.port ahead ks next sending ran going (sym judge ∙ lets) in
    let passed = c.pass_on.ensures.passed in
    record {
      free = sym (c.in_default.ensures ∙ full);
      room = omega (arith, c.if-len-self.false, c.len.ensures, r.log.ok.0);
      kept = goes.0;
      without = passed.without;
      take = passed.take;
      put = subst (λ o. Sent passed.without o (m c.pass_on.new.links)) goes.1 (sent_gone passed.without (m c.pass_on.new.links) going passed.put);
      count = c.pass_on.ensures.count;
      processes = ap (set (vec_items r.processes) p)
          (next_is G plan (m r.links) p s safe.link safe.event safe.port ahead ks next sending ran);
      log = c.push_reserved.ensures.items
          ∙ ap (λ (k : ℕ). vec_items r.log ++ (record { process = p; link = safe.link; time = safe.event.time; code = k } ∷ [])) c.code.ensures;
      same_plan = refl;
      same_room = refl;
      same_marks = refl;
      same_rounds = refl;
    }
