use Rattle.std.proofs.Common.{◌≡◌, get_or, rules}
use Rattle.std.specs.List.{between}
use Rattle.text.specs.declared.fields.State.TheVariants.{Plain}
use Rattle.text.specs.Fields.{opens, keeps, closes, ends, breaks, step}
use Rattle.text.proofs.FieldGrammar.{grammar}
use Rattle.text.proofs.FieldSteps.{opened, kept, closed, ended, failed, unclosed, completed}
use Rattle.text.proofs.FieldSteps.{at_start, on, one_more, stopped, finished_at}
use Rattle.text.proofs.fields.cut_fields.Goals as goal
use Rattle.text.proofs.fields.cut_fields.Goals.{in-Start-eq34, in-Quoted-eq34, in-Quoted-32-to-126, in-Start-eq44, in-Start-eq32}

pub loop-i-init : goal.loop-i-init
loop-i-init c = at_start _ _

pub returns-in_default : goal.returns-in_default
returns-in_default c =
    let h = c.loop-i.invariant in
    let e : breaks ≡ step c.loop-i.state (get_or c.args.line.now c.loop-i.i 0) = search rules in
    let p = stopped h (failed h.sofar c.loop-i-test.true e) in
    record { answer = p.0; places = p.1; grammar = grammar _ }

-- each arm does with its byte what the definition does
pub loop-i-preserved : goal.loop-i-preserved
loop-i-preserved c =
    let h = c.loop-i.invariant in
    let lt = c.loop-i-test.true in
    let does = step c.loop-i.state (get_or c.args.line.now c.loop-i.i 0) in
    elim c.match-state.branch [
      | in-Start-eq34 w ↦
          let e : opens ≡ does = search rules in
          simp (w.count-is, w.out-is, w.state-is, w.start-is, w.end-is) (on h (opened h.sofar lt e))
      | in-Quoted-eq34 w ↦
          let e : closes ≡ does = search rules in
          simp (w.count-is, w.out-is, w.state-is, w.start-is, w.end-is) (on h (closed h.sofar lt e))
      | in-Quoted-32-to-126 w ↦
          let e : keeps c.loop-i.state ≡ does = search rules in
          simp (w.count-is, w.out-is, w.state-is, w.start-is, w.end-is) (on h (kept h.sofar lt c.loop-i.state e))
      | in-Start-eq44 w ↦
          let e : ends ≡ does = search rules in
          let f = between c.loop-i.start c.loop-i.end c.args.line.now in
          simp (w.count-is, w.out-is, w.state-is, w.start-is, w.end-is)
          (one_more h f (ended h.sofar lt e) w.place.ensures)
      | in-Start-eq32 w ↦
          let e : keeps Plain ≡ does = search rules in
          simp (w.count-is, w.out-is, w.state-is, w.start-is, w.end-is) (on h (kept h.sofar lt Plain e))
    ]

pub returns-in-Quoted : goal.returns-in-Quoted
returns-in-Quoted c =
    let h = c.loop-i.invariant in
    let p = stopped h (unclosed h.sofar c.loop-i-test.false c.in-Quoted.is) in
    record { answer = p.0; places = p.1; grammar = grammar _ }

pub returns : goal.returns
returns c =
    let h = c.loop-i.invariant in
    let f = between c.loop-i.start c.loop-i.end c.args.line.now in
    let e = completed h.sofar c.loop-i-test.false c.in_default-state.not-Quoted in
    let p = finished_at h f e c.place-2.ensures in
    record { answer = p.0; places = p.1; grammar = grammar _ }
