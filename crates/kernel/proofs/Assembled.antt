-- The stages of a step make a step.
use Rattle.std.proofs.Common.{◌≡◌, ℕ, Bool, Some, None, Ok, ◌∙◌, subst}
use Rattle.model.specs.declared.event.Event.{Event}
use Rattle.model.specs.Pile.{Pile}
use Rattle.model.specs.Shape.{Shape}
use Rattle.simulation.specs.Net.{Program}
use Rattle.simulation.specs.View.{View, Safe}
use Rattle.simulation.specs.Step.{Step, Ready, Closes}
use Rattle.kernel.specs.Stages.{Took}

module _ {C P : Type 0} (g : Program C P) (p : ℕ) (s : P) where
  -- A view of which only the plan, the room, the marks and the rounds matter.
  abbrev with_parts : View C P → Shape → ℕ → (ℕ → Bool) → ℕ → View C P
  with_parts u plan room marked rounds =
      record { plan = plan; processes = u.processes; links = u.links; log = u.log; room = room; marked = marked; rounds = rounds }

  -- The end of a step after the event was taken is its end as the step began.
  closes_from : (v u w : View C P) (ahead : ℕ) (m : Pile C) (nulls : ℕ) → u.plan ≡ v.plan → u.room ≡ v.room → u.marked ≡ v.marked
      → u.rounds ≡ v.rounds → Closes u p ahead m nulls w → Closes v p ahead m nulls w
  closes_from v u w ahead m nulls plan room marked rounds c =
      let d = subst (λ x. Closes (with_parts u x u.room u.marked u.rounds) p ahead m nulls w) plan c in
      let e = subst (λ x. Closes (with_parts u v.plan x u.marked u.rounds) p ahead m nulls w) room d in
      let f = subst (λ x. Closes (with_parts u v.plan v.room x u.rounds) p ahead m nulls w) marked e in
      let h = subst (λ x. Closes (with_parts u v.plan v.room v.marked x) p ahead m nulls w) rounds f in
      record { tell = h.tell; marks = record { marked = h.marks.marked; rounds = h.marks.rounds }; plan = h.plan; room = h.room }

  pub idle_step : (v w : View C P) (ahead nulls : ℕ) → Ready v p s → ((i : ℕ) (e : Event C) → ¬ (Safe v.plan v.links p i e))
      → ahead ≡ g.lookahead s → Closes v p ahead v.links nulls w → w.processes ≡ v.processes → w.log ≡ v.log
      → Step g v p (Ok (record { taken = None; nulls = nulls })) w
  idle_step v w ahead nulls ready none reads closes processes log =
      Step.idles ready none (record {
        closes = subst (λ l. Closes v p l v.links nulls w) reads closes;
        processes = processes;
        log = log;
      })

  pub taking_step : (v u w : View C P) (i : ℕ) (e : Event C) (ahead nulls : ℕ) → Ready v p s → Safe v.plan v.links p i e
      → ahead ≡ g.lookahead s → Took g v p s i e u → Closes u p ahead u.links nulls w → w.processes ≡ u.processes → w.log ≡ u.log
      → Step g v p (Ok (record { taken = Some e; nulls = nulls })) w
  taking_step v u w i e ahead nulls ready safe reads took closes processes log =
      let closed = closes_from v u w ahead u.links nulls took.same_plan took.same_room took.same_marks took.same_rounds closes in
      Step.takes ready safe took.free took.room took.kept (record {
        without = took.without;
        with_sent = u.links;
        take = took.take;
        put = took.put;
        closes = subst (λ l. Closes v p l u.links nulls w) reads closed;
        processes = processes ∙ took.processes;
        log = log ∙ took.log;
      })
