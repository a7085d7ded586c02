-- The simulation ends: each turn lessens the time that pending events have to the horizon, or stops one process more.
use Rattle.std.proofs.Common.{◌≡◌, ℕ, zero, suc, ◌+◌, ◌-◌, ◌*◌, ◌<◌, ◌≤◌, cond, ◌≢◌, List, [], ◌∷◌, ◌++◌, length, Some, None, Option, sym, refl, ap, ◌∙◌, subst, ⊎_elim, suc-mul, arith, eq-eqb, ne_eqb}
use mathlib.Core.List.{tail}
use mathlib.Core.Logic.{by_cases}
use native.Mathlib.Decide.{ℕ_discrete}
use Rattle.model.specs.declared.event.Event.{Event}
use Rattle.model.specs.declared.opening.Opening.{Opening}
use Rattle.model.specs.declared.refusal.Breach.{Breach}
use Rattle.model.specs.Lists.{at, oldest, update, is_none, total}
use Rattle.model.specs.Shape.{delay}
use Rattle.simulation.specs.Net.{Program, Net, Outgoing, handle, breach_of}
use Rattle.simulation.specs.Simulation.{Sim, Stop, Choice, arriving, pending_with, opening_on, start, lowest, lookahead_of}
use Rattle.simulation.specs.Simulation.{stop_process, take_event, settle, act, turn, turns, enough}
use Rattle.simulation.specs.Prepare.{Limits}
use Rattle.simulation.specs.Law.{Over}
use Rattle.simulation.proofs.Tests.{none_is_some, update_same, update_is, update_other, update_cases}
use Rattle.simulation.proofs.Sums.{total_drop, total_rise, total_ones}
use Rattle.simulation.proofs.Places.{at_there}
use Rattle.simulation.proofs.Breaches.{breach_none}
use Rattle.simulation.proofs.PlanLimits.{target_there, target_below}
use Rattle.simulation.proofs.OfNet.{Constant, Reaching, outgoing_own}
use Rattle.simulation.proofs.LowestChoice.{Pending, picked}

module _ {C : Type 0} (horizon : ℕ) where
  -- The time that these events have to the horizon, in all.
  abbrev load : List (Event C) → ℕ
  load [] = 0
  load (e ∷ es) = (horizon - e.time) + load es

  -- An event more adds its time.
  load_append : (es : List (Event C)) (e : Event C) → load (es ++ e ∷ []) ≡ load es + (horizon - e.time)
  load_append [] e = omega arith
  load_append (d ∷ es) e = let i = load_append es e in omega arith

  -- Without the first event it is less by that event's time.
  load_tail : (es : List (Event C)) (e : Event C) → oldest es ≡ Some e → load (tail es) + (horizon - e.time) ≡ load es
  load_tail [] e q = none_is_some q
  load_tail (d ∷ es) e q = let r : d ≡ e = cc in rw (← r) (omega arith)

  -- And no more in any case.
  load_less : (es : List (Event C)) → load (tail es) ≤ load es
  load_less [] = omega arith
  load_less (d ∷ es) = omega arith

-- One for a process that is not stopped.
abbrev one_if : {C : Type 0} → Option (Stop C) → ℕ
one_if o = cond (is_none o) 1 0

module _ {C P : Type 0} (g : Program C P) (net : Net C P) where
  -- The time that the events pending on k have.
  abbrev time_left : (ℕ → List (Event C)) → ℕ → ℕ
  time_left pending k = load net.plan.horizon (pending k)

  -- What each turn lessens.
  abbrev weight : Sim C P → ℕ
  weight s = total (length net.plan.links) (time_left s.pending) + total net.plan.processes (λ p. one_if (s.stopped p))

  -- Each process has a state, with its first lookahead.
  abbrev Alive : Sim C P → Type 0
  Alive s = (p : ℕ) → p < net.plan.processes → (x : P) × (s.state p ≡ Some x) × (g.lookahead x ≡ lookahead_of g (at net.processes p))

  -- So it is at the start.
  start_alive : Limits net → Alive (start net)
  start_alive limits p l =
      let m = limits.as_many in
      let y = at_there net.processes p (omega arith) in
      (y.0, y.1, sym (ap (lookahead_of g) y.1))

  -- At first, each opening event has no more time than the horizon.
  opening_load : (os : List (Opening C)) → total (length net.plan.links) (time_left (λ k. opening_on net k os)) ≤ length os * net.plan.horizon
  opening_load [] = let z = nothing (length net.plan.links) in omega arith
    where
      nothing : (n : ℕ) → total n (λ k. 0) ≤ 0
      nothing zero = omega arith
      nothing (suc n) = let i = nothing n in omega arith
  opening_load (o ∷ os) =
      let i = opening_load os in
      let r = total_rise (length net.plan.links) (time_left (λ k. opening_on net k (o ∷ os))) (time_left (λ k. opening_on net k os))
      net.plan.horizon o.link other here in
      rw suc-mul (omega arith)
    where
      other : (k : ℕ) → k < length net.plan.links → k ≢ o.link → time_left (λ j. opening_on net j (o ∷ os)) k ≤ time_left (λ j. opening_on net j os) k
      other k l n = rw (ne_eqb o.link k (λ e. n (sym e))) (omega arith)

      here : time_left (λ j. opening_on net j (o ∷ os)) o.link ≤ time_left (λ j. opening_on net j os) o.link + net.plan.horizon
      here = rw (eq-eqb o.link o.link refl) (omega arith)

  -- So the weight at the start is no more than the turns.
  start_weight : weight (start net) ≤ enough g net
  start_weight =
      let a = opening_load net.opening in
      let b = total_ones net.plan.processes (λ p. one_if {C = C} None) (λ p. omega arith) in
      omega arith

  module _ (same : Constant g) (far : Reaching g net) (limits : Limits net) (s : Sim C P) (alive : Alive s) (c : Choice C) (pending : Pending net s c) where
    -- The process of the choice.
    abbrev p : ℕ
    p = c.process

    -- Its link.
    abbrev k : ℕ
    k = c.link

    -- The process is there.
    is_process : p < net.plan.processes
    is_process = target_below net.plan limits.within k p pending.leads

    -- A turn that stops the process.
    stop_less : (b : Breach) → weight (stop_process s c b) + 1 ≤ weight s
    stop_less b =
        let d = total_drop net.plan.processes (λ q. one_if ((stop_process s c b).stopped q)) (λ q. one_if (s.stopped q)) 1 p
        (λ q l. ⊎_elim (λ u. rw u.1 (omega arith)) (λ u. rw u.1 (omega arith)) (update_cases s.stopped p q (Some (record { choice = c; breach = b }))))
        is_process
        (rw (update_same s.stopped p (Some (record { choice = c; breach = b })), pending.goes) (omega arith)) in
        omega arith

    -- The pending events without the one that is taken.
    abbrev rest : ℕ → List (Event C)
    rest = update s.pending k (tail (s.pending k))

    -- They have less time by that of the event.
    rest_less : total (length net.plan.links) (time_left rest) + (net.plan.horizon - c.event.time) ≤ total (length net.plan.links) (time_left s.pending)
    rest_less = total_drop (length net.plan.links) (time_left rest) (time_left s.pending) (net.plan.horizon - c.event.time) k
        (λ j l. ⊎_elim
        (λ u. rw (u.1, u.0) (load_less net.plan.horizon (s.pending k)))
        (λ u. rw u.1 (omega arith))
        (update_cases s.pending k j (tail (s.pending k))))
        (target_there net.plan k p pending.leads)
        (rw (update_same s.pending k (tail (s.pending k))) (let e = load_tail net.plan.horizon (s.pending k) c.event pending.first in omega arith))

    module _ (x : P) (is : s.state p ≡ Some x) (look : g.lookahead x ≡ lookahead_of g (at net.processes p)) where
      -- What goes out as p handles the event.
      abbrev out : Option (Outgoing C)
      out = (handle g net.plan p x k c.event).1

      -- The breach that is found, if any.
      abbrev verdict : Option Breach
      verdict = breach_of p (c.event.time + g.lookahead x) (delay net.plan) s.last out

      -- The simulation once the event is taken.
      abbrev after : Sim C P
      after = take_event g net s c (handle g net.plan p x k c.event).0 out

      -- What is sent has less time to the horizon than what was taken.
      sent_less : verdict ≡ None → (o : Option (Outgoing C)) → out ≡ o
          → total (length net.plan.links) (time_left (pending_with net.plan o rest))
          ≤ total (length net.plan.links) (time_left rest) + (net.plan.horizon - (c.event.time + 1))
      sent_less q None w = omega arith
      sent_less q (Some y) w =
          let own = outgoing_own g net p _ y w in
          let keeps = breach_none p (c.event.time + g.lookahead x) (delay net.plan) s.last out q y w in
          let ahead = keeps.ahead in
          let r = far y.link p own.1 is_process in
          let l = look in
          total_rise (length net.plan.links) (time_left (pending_with net.plan (Some y) rest)) (time_left rest) (net.plan.horizon - (c.event.time + 1)) y.link
          (λ j i n. rw (update_other rest y.link j (rest y.link ++ arriving net.plan y.link y.time y.cargo ∷ []) n) (omega arith))
          (rw (update_same rest y.link (rest y.link ++ arriving net.plan y.link y.time y.cargo ∷ []))
          (let e = load_append net.plan.horizon (rest y.link) (arriving net.plan y.link y.time y.cargo) in omega arith))

      -- A turn that takes the event.
      take_less : verdict ≡ None → weight after + 1 ≤ weight s
      take_less q = let a = rest_less in let b = sent_less q out refl in let l = pending.soon in omega arith

      -- Each process still has a state, with its first lookahead.
      take_alive : Alive after
      take_alive q l = by_cases (ℕ_discrete q p)
          (λ e. (
            (handle g net.plan p x k c.event).0,
            update_is s.state p q _ e,
            same x _ _ _ ∙ look ∙ ap (λ (r : ℕ). lookahead_of g (at net.processes r)) (sym e),
          ))
          (λ n. let y = alive q l in (y.0, update_other s.state p q _ n ∙ y.1, y.2))

      -- A turn that was made, and what it left.
      record Less (s' : Sim C P) : Type 0 where
        lives : Alive s'
        less : weight s' + 1 ≤ weight s

      -- Either turn lessens the weight.
      settle_less : (v : Option Breach) → verdict ≡ v → Less (settle g net s c (handle g net.plan p x k c.event) v)
      settle_less None q = record { lives = take_alive; less = take_less q }
      settle_less (Some b) q = record { lives = alive; less = stop_less b }

      -- So the turn does.
      act_less : Less (act g net s c (s.state p))
      act_less = subst (λ (o : Option P). Less (act g net s c o)) (sym is) (settle_less verdict refl)

  -- Nothing more happens once nothing is left.
  still : (n : ℕ) (s : Sim C P) → lowest net s ≡ None → lowest net (turns g net n s) ≡ None
  still zero s e = e
  still (suc n) s e = subst (λ (o : Option (Choice C)). lowest net (turns g net n (turn g net s o)) ≡ None) (sym e) (still n s e)

  module _ (same : Constant g) (far : Reaching g net) (limits : Limits net) where
    -- In as many turns as the weight says, nothing is left.
    ends : (n : ℕ) (s : Sim C P) → Alive s → weight s ≤ n → lowest net (turns g net n s) ≡ None
    ends zero s a l = go (lowest net s) refl
      where
        go : (o : Option (Choice C)) → lowest net s ≡ o → lowest net s ≡ None
        go None e = e
        go (Some c) e =
            let pending = (picked net s c e).pending in
            let y = a c.process (is_process same far limits s a c pending) in
            let t = (act_less same far limits s a c pending y.0 y.1 y.2).less in
            absurd (omega arith)
    ends (suc n) s a l = go (lowest net s) refl (λ s' a' l'. ends n s' a' l')
      where
        go : (o : Option (Choice C)) → lowest net s ≡ o → ((s' : Sim C P) → Alive s' → weight s' ≤ n → lowest net (turns g net n s') ≡ None)
            → lowest net (turns g net n (turn g net s o)) ≡ None
        go None e rec = still n s e
        go (Some c) e rec =
            let pending = (picked net s c e).pending in
            let y = a c.process (is_process same far limits s a c pending) in
            let t = act_less same far limits s a c pending y.0 y.1 y.2 in
            let w = t.less in
            rec (turn g net s (Some c)) t.lives (omega arith)

    -- The simulation comes to its end.
    pub simulation_over : Over g net
    simulation_over = ends (enough g net) (start net) (start_alive limits) start_weight
