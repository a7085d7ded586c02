-- The simulation runs the course that histories tell, turn by turn, to its end.
use Rattle.std.proofs.Common.{◌≡◌, ℕ, zero, suc, ◌+◌, ◌<◌, List, [], ◌∷◌, ◌++◌, map, reverse, length, Some, None, Option, sym, refl, ap, ◌∙◌, subst, arith}
use mathlib.Core.List.{reverse_aux, reverse-cons, reverse-reverse, map-append, tail}
use mathlib.Core.Logic.{by_cases}
use native.Mathlib.Decide.{ℕ_discrete}
use Rattle.model.specs.declared.event.Event.{Event}
use Rattle.model.specs.declared.refusal.Breach.{Breach}
use Rattle.model.specs.Lists.{oldest, update}
use Rattle.model.specs.Shape.{delay}
use Rattle.simulation.specs.Net.{Program, Net, Outgoing, handle, breach_of}
use Rattle.simulation.specs.Simulation.{Sim, Stop, Choice, last_arrival, pending_with, last_with, opening_on, start, lowest}
use Rattle.simulation.specs.Simulation.{stop_process, take_event, settle, act, turn, turns, enough, simulated}
use Rattle.simulation.specs.Prepare.{Limits}
use Rattle.simulation.specs.Law.{Over}
use Rattle.simulation.proofs.Tests.{none_is_some, if_same, if_other, update_same, update_is, update_other}
use Rattle.simulation.proofs.Breaches.{breach_none, breach_some, breach_bounds}
use Rattle.simulation.proofs.System.{System, Entry, entry, newest, taken, without, state, answer, post, put_last, sent, last, next, queue, Fair, Proper}
use Rattle.simulation.proofs.Queues.{Enough, queue_first, sent_take, enough_kept, queue_take}
use Rattle.simulation.proofs.Course.{Course, begin, Waits, Chosen, grown, Turn, takes, stops, Comes, starts, goes_on, Ends}
use Rattle.simulation.proofs.PlanLimits.{target_there, target_below}
use Rattle.simulation.proofs.OfNet.{Constant, or_outside, rule_of, system, to_record, from_target, HasState, has_state}
use Rattle.simulation.proofs.LowestChoice.{Pending, Picked, picked, none_pending}

-- The last arrival is that of the newest event.
pub last_newest : {C : Type 0} (d : ℕ) (xs acc : List (Event C)) → last_arrival (newest d acc) xs ≡ newest d (reverse_aux xs acc)
unfolding newest
last_newest d [] acc = refl
last_newest d (x ∷ xs) acc = last_newest d xs (x ∷ acc)

module _ {C P : Type 0} (g : Program C P) (net : Net C P) where
  -- The net as a system.
  abbrev N : System C (Option P)
  N = system g net

  -- The breach of p as it handles e after hs.
  abbrev pub breach_at : ℕ → List (Entry C) → Entry C → Option Breach
  breach_at p hs e = breach_of p (e.event.time + N.lookahead p) (delay net.plan) (λ k. last N k hs) (answer N p hs e)

  -- The stop of p, after hs, is the one that the course has.
  abbrev pub SameStop : ℕ → List (Entry C) → Option (Stop C) → Option (Entry C) → Type 0
  SameStop p hs None None = Unit {0}
  SameStop p hs None (Some e) = ⊥
  SameStop p hs (Some z) None = ⊥
  SameStop p hs (Some z) (Some e) = (z.choice ≡ record { process = p; link = e.link; event = e.event }) × (breach_at p hs e ≡ Some z.breach)

  -- A process that the simulation has not stopped goes on in the course.
  stop_none : (p : ℕ) (hs : List (Entry C)) (o : Option (Stop C)) (e : Option (Entry C)) → SameStop p hs o e → o ≡ None → e ≡ None
  stop_none p hs None None x q = refl
  stop_none p hs None (Some e) x q = absurd x
  stop_none p hs (Some z) e x q = none_is_some (sym q)

  -- And the other way.
  none_stop : (p : ℕ) (hs : List (Entry C)) (o : Option (Stop C)) (e : Option (Entry C)) → SameStop p hs o e → e ≡ None → o ≡ None
  none_stop p hs None e x q = refl
  none_stop p hs (Some z) None x q = absurd x
  none_stop p hs (Some z) (Some e) x q = none_is_some (sym q)

  -- The simulation s is as far as the course t.
  pub record Mirrors (s : Sim C P) (t : Course C) : Type 0 where
    pub states : (p : ℕ) → s.state p ≡ state N p (t.h p)
    pub queues : (k : ℕ) → k < length net.plan.links → s.pending k ≡ queue N t.h k
    pub lasts : (k : ℕ) → k < length net.plan.links → s.last k ≡ last N k (t.h (N.source k))
    pub stops : (p : ℕ) → SameStop p (t.h p) (s.stopped p) (t.stopped p)
    pub histories : (p : ℕ) → s.history p ≡ map (to_record g net p) (reverse (t.h p))
    pub enough : Enough N t.h

  -- What goes out waits last on its link.
  append_last : (o : Option (Outgoing C)) (f : ℕ → List (Event C)) (j : ℕ) → pending_with net.plan o f j ≡ put_last N j o (f j)
  unfolding put_last
  append_last None f j = refl
  append_last (Some x) f j = by_cases (ℕ_discrete x.link j)
      (λ e. rw (← e) (update_same f x.link _ ∙ sym (if_same x.link x.link _ (f x.link) refl)))
      (λ n. update_other f x.link j _ (λ e. n (sym e)) ∙ sym (if_other x.link j _ (f j) n))

  -- What is taken leaves its link.
  tail_without : (f : ℕ → List (Event C)) (k : ℕ) (a : Event C) (j : ℕ) → update f k (tail (f k)) j ≡ without j (entry k a) (f j)
  tail_without f k a j = by_cases (ℕ_discrete k j)
      (λ e. rw (← e) (update_same f k _ ∙ sym (if_same k k _ (f k) refl)))
      (λ n. update_other f k j _ (λ e. n (sym e)) ∙ sym (if_other k j _ (f j) n))

  -- The arrival of what goes out is the last on its link.
  arrive_newest : (o : Option (Outgoing C)) (f : ℕ → ℕ) (j : ℕ) (ms : List (Event C)) → f j ≡ newest (delay net.plan j) ms
      → last_with net.plan o f j ≡ newest (delay net.plan j) (post N j o ms)
  unfolding post newest
  arrive_newest None f j ms q = q
  arrive_newest (Some x) f j ms q = by_cases (ℕ_discrete x.link j)
      (λ e. rw (← e) (update_same f x.link _ ∙ sym (ap (newest (delay net.plan x.link)) (if_same x.link x.link _ ms refl))))
      (λ n. update_other f x.link j _ (λ e. n (sym e)) ∙ q ∙ sym (ap (newest (delay net.plan j)) (if_other x.link j _ ms n)))

  -- At the start.
  start_mirrors : Mirrors (start net) (begin N)
  unfolding state sent taken newest
  start_mirrors = record {
    states = λ p. refl;
    queues = λ k l. sym (reverse-reverse (opening_on net k net.opening));
    lasts = λ k l. last_newest (delay net.plan k) (opening_on net k net.opening) [];
    stops = λ p. tt;
    histories = λ p. refl;
    enough = λ k. omega arith;
  }

  module _ (limits : Limits net) (s : Sim C P) (t : Course C) (m : Mirrors s t) where
    -- The first pending event of a link is what waits there.
    first_next : (k : ℕ) → k < length net.plan.links → next N k (t.h (N.source k)) (t.h (N.target k)) ≡ oldest (s.pending k)
    first_next k l = queue_first N t.h k ∙ ap oldest (sym (m.queues k l))

    -- What is pending waits.
    pending_waits : (c : Choice C) → Pending net s c → Waits N t c.link c.event
    pending_waits c p =
        let here : N.target c.link ≡ c.process = ap (or_outside g net) p.leads in
        let l = target_there net.plan c.link c.process p.leads in
        record {
          is_link = l;
          is_process = rw here (target_below net.plan limits.within c.link c.process p.leads);
          goes = rw here (stop_none c.process (t.h c.process) (s.stopped c.process) (t.stopped c.process) (m.stops c.process) p.goes);
          is = first_next c.link l ∙ p.first;
          soon = p.soon;
        }

    -- The choice of the event a of the link k.
    abbrev choice_of : ℕ → Event C → Choice C
    choice_of k a = record { process = N.target k; link = k; event = a }

    -- And the other way.
    waits_pending : (k : ℕ) (a : Event C) → Waits N t k a → Pending net s (choice_of k a)
    waits_pending k a w = record {
      leads = from_target g net k (N.target k) w.is_link refl;
      first = sym (first_next k w.is_link) ∙ w.is;
      soon = w.soon;
      goes = none_stop (N.target k) (t.h (N.target k)) (s.stopped (N.target k)) (t.stopped (N.target k)) (m.stops (N.target k)) w.goes;
    }

    -- What is picked is chosen.
    picked_chosen : (c : Choice C) → Picked net s c → Chosen N t c.link c.event
    picked_chosen c p =
        let here : N.target c.link ≡ c.process = ap (or_outside g net) p.pending.leads in
        record { waits = pending_waits c p.pending; lowest = λ j b w. rw here (p.least (choice_of j b) (waits_pending j b w)) }

    module _ (same : Constant g) (ok : Proper N) (k : ℕ) (a : Event C) (ch : Chosen N t k a) where
      -- The process of the chosen event.
      abbrev p : ℕ
      p = N.target k

      -- The event as an entry.
      abbrev e : Entry C
      e = entry k a

      -- The choice of it.
      abbrev c : Choice C
      c = choice_of k a

      -- The histories once it is taken.
      abbrev h' : ℕ → List (Entry C)
      h' = grown N t.h k a

      -- The state of p.
      abbrev st : HasState g net p (t.h p)
      st = has_state g net same limits p ch.waits.is_process (t.h p)

      -- What goes out as p handles the event.
      abbrev out : Option (Outgoing C)
      out = (handle g net.plan p st.x k a).1

      -- The system sends the same.
      answers : answer N p (t.h p) e ≡ out
      unfolding answer
      answers = ap (λ (z : Option P). (rule_of g net p z e).1) st.is

      -- And has the same next state.
      stated : state N p (e ∷ t.h p) ≡ Some (handle g net.plan p st.x k a).0
      unfolding state
      stated = ap (λ (z : Option P). (rule_of g net p z e).0) st.is

      -- The link on which p sends has its last arrival.
      at_last : (x : Outgoing C) → out ≡ Some x → s.last x.link ≡ last N x.link (t.h p)
      at_last x w =
          let own = ok.own p ch.waits.is_process (t.h p) e x (answers ∙ w) in
          m.lasts x.link own.0 ∙ ap (λ (r : ℕ). last N x.link (t.h r)) own.1

      -- The breach that the simulation finds, if any.
      abbrev verdict : Option Breach
      verdict = breach_of p (a.time + g.lookahead st.x) (delay net.plan) s.last out

      -- The simulation finds the breach that the histories tell.
      verdict_at : breach_at p (t.h p) e ≡ verdict
      verdict_at =
          ap (λ o. breach_of p (a.time + N.lookahead p) (delay net.plan) (λ j. last N j (t.h p)) o) answers
          ∙ ap (λ n. breach_of p (a.time + n) (delay net.plan) (λ j. last N j (t.h p)) out) (sym st.look)
          ∙ breach_bounds p (a.time + g.lookahead st.x) (delay net.plan) (λ j. last N j (t.h p)) s.last out (λ x w. sym (at_last x w))

      -- Without one, the event is handled fairly.
      fair : verdict ≡ None → Fair N p (t.h p) e
      fair q = breach_none p (a.time + N.lookahead p) (delay net.plan) (λ j. last N j (t.h p)) (answer N p (t.h p) e) (verdict_at ∙ q)

      -- With one, it is not.
      unfair : (b : Breach) → verdict ≡ Some b → ¬ (Fair N p (t.h p) e)
      unfair b q f =
          let B = breach_some p (a.time + N.lookahead p) (delay net.plan) (λ j. last N j (t.h p)) (answer N p (t.h p) e) b (verdict_at ∙ q) in
          B.breaks (f B.x B.sends)

      -- Stops stay as the event is taken.
      stop_kept : (q : ℕ) → SameStop q (h' q) (s.stopped q) (t.stopped q)
      stop_kept q = by_cases (ℕ_discrete q p)
          (λ r. go (h' q) (s.stopped q) (t.stopped q) (m.stops q) (rw r ch.waits.goes))
          (λ n. subst (λ hs. SameStop q hs (s.stopped q) (t.stopped q)) (sym (update_other t.h p q (e ∷ t.h p) n)) (m.stops q))
        where
          go : (hs : List (Entry C)) (o : Option (Stop C)) (i : Option (Entry C)) → SameStop q (t.h q) o i → i ≡ None → SameStop q hs o i
          go hs None None x z = tt
          go hs None (Some i) x z = absurd x
          go hs (Some o) i x z = none_is_some (sym (none_stop q (t.h q) (Some o) i x z))

      -- The event is taken.
      take_mirrors : Mirrors (take_event g net s c (handle g net.plan p st.x k a).0 out) (record { h = h'; stopped = t.stopped })
      take_mirrors = record {
        states = λ q. by_cases (ℕ_discrete q p)
            (λ r. rw r (update_same s.state p _ ∙ sym (ap (state N p) (update_same t.h p (e ∷ t.h p)) ∙ stated)))
            (λ n. update_other s.state p q _ n ∙ m.states q ∙ sym (ap (state N q) (update_other t.h p q (e ∷ t.h p) n)));
        queues = λ j l.
            append_last out (update s.pending k (tail (s.pending k))) j
            ∙ ap (put_last N j out) (tail_without s.pending k a j ∙ ap (without j e) (m.queues j l))
            ∙ sym (queue_take N ok t.h m.enough p e ch.waits.is_process refl ch.waits.is j
            ∙ ap (λ o. put_last N j o (without j e (queue N t.h j))) answers);
        lasts = λ j l.
            arrive_newest out s.last j (sent N j (t.h (N.source j))) (m.lasts j l)
            ∙ sym (ap (newest (delay net.plan j))
            (sent_take N ok t.h m.enough p e ch.waits.is_process refl ch.waits.is j ∙ ap (λ o. post N j o (sent N j (t.h (N.source j)))) answers));
        stops = stop_kept;
        histories = λ q. by_cases (ℕ_discrete q p)
            (λ r. rw r (update_same s.history p _ ∙ ap (λ l. l ++ to_record g net p e ∷ []) (m.histories p)
            ∙ sym (map-append (to_record g net p) (reverse (t.h p)) (e ∷ [])) ∙ ap (map (to_record g net p)) (sym (reverse-cons e (t.h p)))
            ∙ ap (λ l. map (to_record g net p) (reverse l)) (sym (update_same t.h p (e ∷ t.h p)))))
            (λ n. update_other s.history p q _ n ∙ m.histories q ∙ ap (λ l. map (to_record g net q) (reverse l)) (sym (update_other t.h p q (e ∷ t.h p) n)));
        enough = enough_kept N ok t.h m.enough p e ch.waits.is_process refl ch.waits.is;
      }

      -- The process is stopped.
      stop_mirrors : (b : Breach) → verdict ≡ Some b → Mirrors (stop_process s c b) (record { h = t.h; stopped = update t.stopped p (Some e) })
      stop_mirrors b q = record {
        states = m.states;
        queues = m.queues;
        lasts = m.lasts;
        histories = m.histories;
        enough = m.enough;
        stops = λ r. by_cases (ℕ_discrete r p)
            (λ i. rw (update_is s.stopped p r (Some (record { choice = c; breach = b })) i, update_is t.stopped p r (Some e) i) (rw i (refl, verdict_at ∙ q)))
            (λ n. rw (update_other s.stopped p r (Some (record { choice = c; breach = b })) n, update_other t.stopped p r (Some e) n) (m.stops r));
      }

      -- A turn of the simulation, and the turn of the course that it is.
      record Turned (r : Sim C P) : Type 0 where
        after : Course C
        is_turn : Turn N t after
        mirrors : Mirrors r after

      -- The turn, by what was found.
      settled : (v : Option Breach) → verdict ≡ v → Turned (settle g net s c (handle g net.plan p st.x k a) v)
      settled None q = record { after = record { h = h'; stopped = t.stopped }; is_turn = takes ch (fair q); mirrors = take_mirrors }
      settled (Some b) q = record { after = record { h = t.h; stopped = update t.stopped p (Some e) }; is_turn = stops ch (unfair b q); mirrors = stop_mirrors b q }

      -- The turn of the simulation.
      turned : Turned (act g net s c (s.state p))
      turned = subst (λ (z : Option P). Turned (act g net s c z)) (sym (m.states p ∙ st.is)) (settled verdict refl)

  module _ (same : Constant g) (limits : Limits net) (ok : Proper N) where
    -- A course that the simulation s mirrors.
    pub record Told (s : Sim C P) : Type 0 where
      pub course : Course C
      pub comes : Comes N course
      pub mirrors : Mirrors s course

    -- A turn leads on.
    turn_told : (s : Sim C P) (t : Told s) (c : Choice C) → lowest net s ≡ Some c → Told (turn g net s (Some c))
    turn_told s t c e =
        let pick = picked net s c e in
        let ch = picked_chosen limits s t.course t.mirrors c pick in
        let r = turned limits s t.course t.mirrors same ok c.link c.event ch in
        let here : N.target c.link ≡ c.process = ap (or_outside g net) pick.pending.leads in
        let d : Choice C = record { process = N.target c.link; link = c.link; event = c.event } in
        let is : d ≡ c = λ i. record { process = here i; link = c.link; event = c.event } in
        let told : Told (turn g net s (Some d)) = record { course = r.after; comes = goes_on t.comes r.is_turn; mirrors = r.mirrors } in
        subst (λ (z : Choice C). Told (turn g net s (Some z))) is told

    -- So do many.
    turns_told : (n : ℕ) (s : Sim C P) → Told s → Told (turns g net n s)
    turns_told zero s t = t
    turns_told (suc n) s t = turns_told n (turn g net s (lowest net s)) (go (lowest net s) refl)
      where
        go : (o : Option (Choice C)) → lowest net s ≡ o → Told (turn g net s o)
        go None e = t
        go (Some c) e = turn_told s t c e

    -- The whole simulation is a course.
    pub told : Told (simulated g net)
    told = turns_told (enough g net) (start net) (record { course = begin N; comes = starts; mirrors = start_mirrors })

    -- Which ends where the simulation does.
    pub course_ends : Over g net → Ends N told.course
    course_ends over = record {
      comes = told.comes;
      over = λ k a w. none_pending net (simulated g net) over _ (waits_pending limits (simulated g net) told.course told.mirrors k a w);
    }
