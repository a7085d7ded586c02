use Rattle.std.proofs.Common.{◌≡◌, Some, None, Ok, vec_items, sym, ap, ◌∙◌, subst, arith, rules}
use Rattle.model.proofs.Places.{at_read}
use Rattle.simulation.specs.Step.{Step, Closes}
use Rattle.simulation.specs.Programs.{program_of}
use Rattle.kernel.specs.OfRun.{view_of}
use Rattle.kernel.specs.Stages.{Took}
use Rattle.kernel.proofs.Standing.{ready, has_there}
use Rattle.kernel.proofs.Assembled.{idle_step, taking_step}
use Rattle.kernel.proofs.run.Run.once.Goals as goal
use Rattle.kernel.proofs.run.Run.once.Goals.{in-Some+in_ok-take, in_default}

pub returns-then-not-has : goal.returns-then-not-has
returns-then-not-has g c = Step.absent (sym c.has.ensures ∙ c.if-not-has.true)

pub take-requires-clause-state : goal.take-requires-clause-state
take-requires-clause-state g c =
    let r = c.args.self.now in
    let there = has_there r c.args.process (sym c.has.ensures ∙ c.if-not-has.false) in
    at_read (vec_items r.processes) c.args.process c.index.result.now (omega (arith, there, r.processes.ok.0, r.peopled))
    ∙ ap Some (sym c.index.ensures)

pub returns : goal.returns
returns g c =
    let r = c.args.self.now in
    let m = g.L.Links.meaning in
    let G = program_of g.C.Cargo g.P.Process in
    let p = c.args.process in
    let s = c.index.result.now in
    let u = c.match-safe.self in
    let n = c.close-nulls.result in
    let W = view_of c.close-nulls.new.self in
    let there = has_there r p (sym c.has.ensures ∙ c.if-not-has.false) in
    let is_state = at_read (vec_items r.processes) p s (omega (arith, there, r.processes.ok.0, r.peopled)) ∙ ap Some (sym c.index.ensures) in
    let here = ready r p s there is_state in
    let ends = c.close-nulls.ensures in
    elim c.match-safe.branch [
      | in-Some+in_ok-take w ↦
          let safe = w.in-Some.safe in
          let taken : c.map-taken.result ≡ Some safe.event = search rules in
          let took = subst (λ x. Took G (view_of r) p s safe.link safe.event (view_of x)) (sym w.self-is) w.in_ok-take.ensures in
          subst (λ t. Step G (view_of r) p (Ok (record { taken = t; nulls = n })) W) (sym taken)
          (taking_step G p s (view_of r) (view_of u) W safe.link safe.event c.lookahead-lookahead.result n here
          w.in-Some.ensures.0 c.lookahead-lookahead.ensures took ends.closes ends.processes ends.log)
      | in_default w ↦
          let taken : c.map-taken.result ≡ None = search rules in
          subst (λ t. Step G (view_of r) p (Ok (record { taken = t; nulls = n })) W) (sym taken)
          (idle_step G p s (view_of r) W c.lookahead-lookahead.result n here w.in_default.ensures c.lookahead-lookahead.ensures
          (subst (λ x. Closes (view_of x) p c.lookahead-lookahead.result (m x.links) n W) w.self-is ends.closes)
          (ends.processes ∙ ap (λ x. vec_items x.processes) w.self-is)
          (ends.log ∙ ap (λ x. vec_items x.log) w.self-is))
    ]
