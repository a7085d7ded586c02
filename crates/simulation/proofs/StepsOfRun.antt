-- Each step takes a run where the kernel of histories goes.
use Rattle.std.proofs.Common.{◌≡◌, ℕ, suc, ◌+◌, ◌<◌, ◌≤◌, Bool, true, false, cond, eqb, List, [], ◌∷◌, ◌++◌, map, reverse, set, Some, None, Option, Result, sym, refl, ap, ◌∙◌, subst, append-nil, arith, ltb-true, eq-eqb, ne_eqb}
use mathlib.Core.List.{reverse-cons, map-append}
use mathlib.Core.Logic.{by_cases}
use native.Mathlib.Decide.{ℕ_discrete}
use Rattle.model.specs.declared.answer.Stepped.{Stepped}
use Rattle.model.specs.declared.event.Event.{Event}
use Rattle.model.specs.declared.record.Record.{Record}
use Rattle.model.specs.declared.refusal.Refusal.{Refusal}
use Rattle.model.specs.Lists.{at, update}
use Rattle.model.specs.Sums.{plus}
use Rattle.simulation.specs.Net.{Program, Net, Outgoing, handle, record_of}
use Rattle.simulation.specs.View.{View, history, Safe, as_prepared}
use Rattle.simulation.specs.Step.{Marks, Ready, Idles, Takes, Step, marks_with, round_over, breach}
use Rattle.simulation.specs.Prepare.{Limits}
use Rattle.simulation.proofs.Tests.{some_same, true_false, and_true, each_true, each_all, update_same, update_other}
use Rattle.simulation.proofs.Places.{at_lt, set_at, set_other}
use Rattle.simulation.proofs.Breaches.{breach_none}
use Rattle.simulation.proofs.System.{System, Entry, entry, taken, state, answer, Fine, Proper}
use Rattle.simulation.proofs.Queues.{Enough, enough_kept}
use Rattle.simulation.proofs.Kernel as K
use Rattle.simulation.proofs.Kernel.{Kernel, Counted, take_event, tell, Act, idle, takes, Tick, refused, marks, rounds_up, Gets, boots, ticks}
use Rattle.simulation.proofs.OfNet.{Constant, rule_of, system, to_record, has_state}
use Rattle.simulation.proofs.NullsAndOpenings.{told}
use Rattle.simulation.proofs.LinksOfRun.{Holds, safe_to, safe_from, tells, takes_out}

-- The history of a log with more records has those of p last.
history_append : (p : ℕ) (xs ys : List Record) → history p (xs ++ ys) ≡ history p xs ++ history p ys
history_append p [] ys = refl
history_append p (x ∷ xs) ys = go (eqb x.process p) (history_append p xs ys)
  where
    go : (b : Bool) → history p (xs ++ ys) ≡ history p xs ++ history p ys
        → cond b (x ∷ history p (xs ++ ys)) (history p (xs ++ ys)) ≡ cond b (x ∷ history p xs) (history p xs) ++ history p ys
    go true e = ap (λ k. x ∷ k) e
    go false e = e

module _ {C P : Type 0} (g : Program C P) (net : Net C P) where
  -- The net as a system.
  abbrev N : System C (Option P)
  N = system g net

  -- The run v is where the counted kernel c is.
  pub record Shows (v : View C P) (c : Counted C) : Type 0 where
    pub plan : v.plan ≡ net.plan
    pub links : Holds g net v.links c.kernel
    pub states : (p : ℕ) → at v.processes p ≡ state N p (c.kernel.h p)
    pub histories : (p : ℕ) → history p v.log ≡ map (to_record g net p) (reverse (c.kernel.h p))
    pub marked : (q : ℕ) → v.marked q ≡ c.marked q
    pub rounds : v.rounds ≤ c.rounds

  -- A kernel never takes more than was sent.
  act_enough : Proper N → {s : Kernel C} {p : ℕ} {s' : Kernel C} → Enough N s.h → Act N s p s' → Enough N s'.h
  act_enough ok n (idle l i) = n
  act_enough ok {s = s} {p = p} n (takes e a f) = enough_kept N ok s.h n p e a.is_process a.mine a.waits

  -- So it is all the way.
  gets_enough : Proper N → {c : Counted C} → Gets N c → Enough N c.kernel.h
  gets_enough ok boots = λ k. unfold taken in omega arith
  gets_enough ok (ticks d refused) = gets_enough ok d
  gets_enough ok (ticks d (marks a n)) = act_enough ok (gets_enough ok d) a
  gets_enough ok (ticks d (rounds_up a n)) = act_enough ok (gets_enough ok d) a

  -- A step of the kernel to s, with its marks and rounds as the run w has them.
  record Ticked (c : Counted C) (s : Kernel C) (w : View C P) : Type 0 where
    now_marked : ℕ → Bool
    now_rounds : ℕ
    tick : Tick N c (record { kernel = s; marked = now_marked; rounds = now_rounds })
    same_marked : (q : ℕ) → w.marked q ≡ now_marked q
    same_rounds : w.rounds ≤ now_rounds

  -- Where a call has led.
  pub record Moved (c : Counted C) (w : View C P) : Type 0 where
    pub to : Counted C
    pub tick : Tick N c to
    pub shows : Shows w to

  -- The run v with the plan of the net.
  abbrev pub planned : View C P → View C P
  planned v = record { plan = net.plan; processes = v.processes; links = v.links; log = v.log; room = v.room; marked = v.marked; rounds = v.rounds }

  -- It is v, if that is its plan.
  pub planned_same : (v : View C P) → v.plan ≡ net.plan → planned v ≡ v
  planned_same v e = λ i. record { plan = sym e i; processes = v.processes; links = v.links; log = v.log; room = v.room; marked = v.marked; rounds = v.rounds }

  module _ (same : Constant g) (limits : Limits net) (ok : Proper N) (v : View C P) (c : Counted C) (gets : Gets N c) (shows : Shows v c) (p : ℕ) where
    -- The run, over the plan of the net.
    abbrev u : View C P
    u = planned v

    -- The histories of the kernel.
    abbrev h : ℕ → List (Entry C)
    h = c.kernel.h

    -- p is marked in both alike.
    ticked : (s : Kernel C) (w : View C P) → Act N c.kernel p s → Marks u p w → Ticked c s w
    ticked s w act mk = go (round_over u p) refl
      where
        same_marks : (q : ℕ) → marks_with u p q ≡ update c.marked p true q
        same_marks q = ap (λ b. cond (eqb q p) true b) (shows.marked q)

        go : (b : Bool) → round_over u p ≡ b → Ticked c s w
        go true e = let r = shows.rounds in let x = mk.rounds ∙ ap (λ b. cond b (plus v.rounds 1) v.rounds) e in record {
          now_marked = λ (q : ℕ). false;
          now_rounds = suc c.rounds;
          tick = rounds_up act (λ q l. sym (same_marks q) ∙ each_true net.plan.processes (marks_with u p) e q l);
          same_marked = λ q. mk.marked q ∙ ap (λ b. cond b false (marks_with u p q)) e;
          same_rounds = omega arith;
        }
        go false e = let r = shows.rounds in let x = mk.rounds ∙ ap (λ b. cond b (plus v.rounds 1) v.rounds) e in record {
          now_marked = update c.marked p true;
          now_rounds = c.rounds;
          tick = marks act (λ a. true_false (each_all net.plan.processes (marks_with u p) (λ q l. same_marks q ∙ a q l)) e);
          same_marked = λ q. mk.marked q ∙ ap (λ b. cond b false (marks_with u p q)) e ∙ same_marks q;
          same_rounds = omega arith;
        }

    module _ (x : P) (ready : Ready u p x) where
      -- The process is there.
      is_process : p < net.plan.processes
      is_process = ltb-true p net.plan.processes (and_true (as_prepared u) _ ready.there).1

      -- Its state is what its history tells.
      is_state : state N p (h p) ≡ Some x
      is_state = sym (shows.states p) ∙ ready.state

      -- Its lookahead is the first one.
      pub look : g.lookahead x ≡ N.lookahead p
      look =
          let y = has_state g net same limits p is_process (h p) in
          ap g.lookahead (some_same is_state y.is) ∙ y.look

      -- Nothing is safe.
      idled : (nulls : ℕ) (w : View C P) → ((i : ℕ) (e : Event C) → ¬ (Safe net.plan v.links p i e)) → Idles g u p x nulls w → Moved c w
      idled nulls w no-safe i =
          let act : Act N c.kernel p (tell N c.kernel p) =
          idle is_process (λ e a. no-safe e.link e.event (safe_from g net v.links c.kernel shows.links p e a)) in
          let t = ticked (tell N c.kernel p) w act i.closes.marks in
          record {
            to = record { kernel = tell N c.kernel p; marked = t.now_marked; rounds = t.now_rounds };
            tick = t.tick;
            shows = record {
              plan = i.closes.plan;
              links = tells g net v.links c.kernel shows.links p (g.lookahead x) w.links is_process look (told i.closes.tell);
              states = λ q. ap (λ xs. at xs q) i.processes ∙ shows.states q;
              histories = λ q. ap (history q) i.log ∙ shows.histories q;
              marked = t.same_marked;
              rounds = t.same_rounds;
            };
          }

      -- The event e of the link i is safe.
      module _ (i : ℕ) (e : Event C) (safe : Safe net.plan v.links p i e) where
        -- The event as an entry.
        abbrev ev : Entry C
        ev = entry i e

        -- What goes out as p handles it.
        abbrev out : Option (Outgoing C)
        out = (handle g net.plan p x i e).1

        -- It is safe in the kernel.
        pub kernel_safe : K.Safe N c.kernel p ev
        kernel_safe = safe_to g net v.links c.kernel shows.links p i e is_process safe

        -- The system sends the same.
        pub answers : answer N p (h p) ev ≡ out
        unfolding answer
        answers = ap (λ (z : Option P). (rule_of g net p z ev).1) is_state

        -- And has the same next state.
        stated : state N p (ev ∷ h p) ≡ Some (handle g net.plan p x i e).0
        unfolding state
        stated = ap (λ (z : Option P). (rule_of g net p z ev).0) is_state

        -- What is no breach by the floors of the links is none by those of the kernel.
        fine : breach g u p x i e ≡ None → Fine N p (h p) ev c.kernel.floor
        fine q y w =
            let own = (ok.own p is_process (h p) ev y w).0 in
            let k = breach_none p (e.time + g.lookahead x) v.links.delay v.links.floor out q y (sym answers ∙ w) in
            let k1 = k.ahead in
            let k3 = k.behind in
            let l = look in
            let d = shows.links.delays y.link own in
            let f = shows.links.floors y.link own in
            record { ahead = omega arith; near = k.near; behind = omega arith }

        -- The states once it is taken.
        states_after : (q : ℕ) → at (set v.processes p (handle g net.plan p x i e).0) q ≡ state N q (update h p (ev ∷ h p) q)
        states_after q = by_cases (ℕ_discrete q p)
            (λ r. subst (λ (z : ℕ). at (set v.processes p (handle g net.plan p x i e).0) z ≡ state N z (update h p (ev ∷ h p) z)) (sym r)
            (set_at v.processes p _ (at_lt v.processes p x ready.state) ∙ sym (ap (state N p) (update_same h p (ev ∷ h p)) ∙ stated)))
            (λ n. set_other v.processes p q _ n ∙ shows.states q ∙ sym (ap (state N q) (update_other h p q (ev ∷ h p) n)))

        -- The histories once it is taken.
        histories_after : (q : ℕ) → history q (v.log ++ record_of g p i e ∷ []) ≡ map (to_record g net q) (reverse (update h p (ev ∷ h p) q))
        histories_after q =
            history_append q v.log (record_of g p i e ∷ []) ∙ ap (λ z. z ++ history q (record_of g p i e ∷ [])) (shows.histories q) ∙ by_cases (ℕ_discrete q p)
            (λ r. subst (λ (z : ℕ).
            map (to_record g net z) (reverse (h z)) ++ history z (record_of g p i e ∷ []) ≡ map (to_record g net z) (reverse (update h p (ev ∷ h p) z))) (sym r)
            (ap (λ b. map (to_record g net p) (reverse (h p)) ++ cond b (record_of g p i e ∷ []) []) (eq-eqb p p refl)
            ∙ sym (map-append (to_record g net p) (reverse (h p)) (ev ∷ [])) ∙ ap (map (to_record g net p)) (sym (reverse-cons ev (h p)))
            ∙ ap (λ z. map (to_record g net p) (reverse z)) (sym (update_same h p (ev ∷ h p)))))
            (λ n. ap (λ b. map (to_record g net q) (reverse (h q)) ++ cond b (record_of g p i e ∷ []) []) (ne_eqb p q (λ r. n (sym r)))
            ∙ append-nil _ ∙ ap (λ z. map (to_record g net q) (reverse z)) (sym (update_other h p q (ev ∷ h p) n)))

        -- And it is taken.
        took : (nulls : ℕ) (w : View C P) → breach g u p x i e ≡ None → Takes g u p x i e nulls w → Moved c w
        took nulls w b t =
            let s = take_event N c.kernel p ev in
            let act : Act N c.kernel p (tell N s p) = takes ev kernel_safe (fine b) in
            let k = ticked (tell N s p) w act t.closes.marks in
            let held = takes_out g net ok v.links c.kernel shows.links (gets_enough ok gets) p i e kernel_safe
            t.without t.take out t.with_sent answers t.put in
            record {
              to = record { kernel = tell N s p; marked = k.now_marked; rounds = k.now_rounds };
              tick = k.tick;
              shows = record {
                plan = t.closes.plan;
                links = tells g net t.with_sent s held p (g.lookahead x) w.links is_process look (told t.closes.tell);
                states = λ q. ap (λ xs. at xs q) t.processes ∙ states_after q;
                histories = λ q. ap (history q) t.log ∙ histories_after q;
                marked = k.same_marked;
                rounds = k.same_rounds;
              };
            }

    -- A refused step moves nothing.
    stays : Moved c u
    stays = record {
      to = c;
      tick = refused;
      shows = record {
        plan = refl;
        links = shows.links;
        states = shows.states;
        histories = shows.histories;
        marked = shows.marked;
        rounds = shows.rounds;
      };
    }

    -- A step over the plan of the net.
    planned_stepped : (r : Result (Stepped C) Refusal) (w : View C P) → Step g u p r w → Moved c w
    planned_stepped r w (Step.absent e) = stays
    planned_stepped r w (Step.held y s f) = stays
    planned_stepped r w (Step.log_full y s f l) = stays
    planned_stepped r w (Step.breached y s f l b) = stays
    planned_stepped r w (Step.idles {s = x} {nulls = n} y no-safe i) = idled x y n w no-safe i
    planned_stepped r w (Step.takes {s = x} {i = i} {e = e} {nulls = n} y s f l b t) = took x y i e s n w b t

    -- A step moves the run as the kernel moves.
    pub stepped : (r : Result (Stepped C) Refusal) (w : View C P) → Step g v p r w → Moved c w
    stepped r w st = planned_stepped r w (subst (λ (z : View C P). Step g z p r w) (sym (planned_same v shows.plan)) st)
