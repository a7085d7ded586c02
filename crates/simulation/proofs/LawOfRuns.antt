-- The law of runs, from what the histories of a run and of the simulation tell.
use Rattle.std.proofs.Common.{◌≡◌, ℕ, ◌+◌, ◌<◌, ◌≤◌, true, false, eqb, List, ◌++◌, map, reverse, length, Some, None, Err, Option, Result, sym, refl, ap, ◌∙◌, subst, ap₂, ⊎_elim, arith, eqb-true}
use mathlib.Core.List.{map-append}
use lib.ListN.{length-map, length-reverse}
use Rattle.model.specs.declared.answer.Stepped.{Stepped}
use Rattle.model.specs.declared.event.Event.{Event}
use Rattle.model.specs.declared.record.Record.{Record}
use Rattle.model.specs.declared.refusal.Breach.{Breach}
use Rattle.model.specs.declared.refusal.Refusal.{Refusal}
use Rattle.model.specs.declared.refusal.Refusal.TheVariants.{Breached}
use Rattle.model.specs.Lists.{each}
use Rattle.model.specs.Shape.{Shape, delay}
use Rattle.simulation.specs.Net.{Program, Net, Outgoing, handle, breach_of}
use Rattle.simulation.specs.Simulation.{Stop, simulated, crossings, least_reach, round_figure}
use Rattle.simulation.specs.View.{View, history, clock, Safe, as_prepared}
use Rattle.simulation.specs.Step.{Step, Ready, breach}
use Rattle.simulation.specs.Calls.{Call, done}
use Rattle.simulation.specs.Prepare.{Limits, After}
use Rattle.simulation.specs.Law.{Begins, Agree, Over, Whole, NoneStopped, Follows, Law}
use Rattle.simulation.proofs.Tests.{none_is_some, some_same, and_true, each_true}
use Rattle.simulation.proofs.Sums.{total_equal}
use Rattle.simulation.proofs.Histories.{⊑_cases, ⊑_equal, ⊑_reverse}
use Rattle.simulation.proofs.Breaches.{breach_some, breach_same}
use Rattle.simulation.proofs.System.{System, Entry, entry, answer, last, Fine, Quiet, Stuck, Proper}
use Rattle.simulation.proofs.MergeLaw.{Merged, Settled, ends_merged, ends_settled, stuck_stopped}
use Rattle.simulation.proofs.Course.{Course, Ends}
use Rattle.simulation.proofs.Kernel as K
use Rattle.simulation.proofs.Kernel.{Kernel, Counted, boot, events, Gets, boots, ticks}
use Rattle.simulation.proofs.OneSafe.{one_safe}
use Rattle.simulation.proofs.KeptByCalls.{kept_after}
use Rattle.simulation.proofs.FollowsMerged as F
use Rattle.simulation.proofs.FollowsMerged.{all_taken, breaches_there, gets_follows}
use Rattle.simulation.proofs.Rounds.{levels, finishes}
use Rattle.simulation.proofs.OfNet.{Constant, Reaching, system, to_record, proper}
use Rattle.simulation.proofs.SimulationEnds.{simulation_over}
use Rattle.simulation.proofs.SimulationCourse.{breach_at, SameStop, told, course_ends}
use Rattle.simulation.proofs.SmallestReach.{reach_bounds, reach_positive}
use Rattle.simulation.proofs.LinksOfRun.{clocks}
use Rattle.simulation.proofs.StepsOfRun.{Shows, planned, planned_same, stepped, look, kernel_safe, answers}
use Rattle.simulation.proofs.PreparedRun.{opening_rising, prepared_shows}

-- A history has as many records as entries.
length_records : {A : Type 0} (f : A → Record) (xs : List A) → length (map f (reverse xs)) ≡ length xs
length_records f xs = length-map (reverse xs) f ∙ length-reverse xs

module _ {C P : Type 0} (g : Program C P) (net : Net C P) (same : Constant g) where
  -- The net as a system.
  abbrev N : System C (Option P)
  N = system g net

  -- The run v is where some kernel gets.
  record Reached (v : View C P) : Type 0 where
    c : Counted C
    gets : Gets N c
    shows : Shows g net v c

  -- Every call leads there.
  module _ (limits : Limits net) (ok : Proper N) where
    -- A step leads on.
    step : (v w : View C P) (p : ℕ) (a : Result (Stepped C) Refusal) → Reached v → Step g v p a w → Reached w
    step v w p a r s =
        let m = stepped g net same limits ok v r.c r.gets r.shows p a w s in
        record { c = m.to; gets = ticks r.gets m.tick; shows = m.shows }

    -- So a run stands, after any calls, where some kernel gets.
    reaches : {cs : List Call} {v : View C P} → After g net cs v → Reached v
    reaches = kept_after g Reached step net
        (λ v pd. record { c = record { kernel = boot N; marked = λ (q : ℕ). false; rounds = 0 }; gets = boots; shows = prepared_shows g net v pd })

  -- A net of which a run was prepared is within its limits.
  after_limits : {cs : List Call} {v : View C P} → After g net cs v → Limits net
  after_limits (After.prepared pd) = pd.limits
  after_limits (After.called c a x d) = after_limits x

  -- And proper, if every reach is 1 or more.
  after_proper : Reaching g net → {cs : List Call} {v : View C P} → After g net cs v → Proper N
  after_proper far (After.prepared {v = v} pd) = proper g net far (opening_rising g net v pd)
  after_proper far (After.called c a x d) = after_proper far x

  module _ (far : Reaching g net) (limits : Limits net) (ok : Proper N) where
    -- The simulation is at its end.
    over : Over g net
    over = simulation_over g net same far limits

    -- Its end, told by histories.
    abbrev end : Course C
    end = (told g net same limits ok).course

    -- The course ends there.
    ends : Ends N end
    ends = course_ends g net same limits ok over

    -- Its histories are merged.
    merged : Merged N end.h
    merged = ends_merged N ok ends

    -- And settled.
    settled : Settled N end.h
    settled = ends_settled N ok ends

    -- The simulation's histories are theirs.
    sim_histories : (p : ℕ) → (simulated g net).history p ≡ map (to_record g net p) (reverse (end.h p))
    sim_histories = (told g net same limits ok).mirrors.histories

    -- And its stops.
    sim_stops : (p : ℕ) → SameStop g net p (end.h p) ((simulated g net).stopped p) (end.stopped p)
    sim_stops = (told g net same limits ok).mirrors.stops

    -- The round figure counts the events of the course.
    figure : round_figure g net ≡ events net.plan.processes end.h + crossings net.plan.horizon (least_reach g net (length net.plan.links))
    figure = ap (λ n. n + crossings net.plan.horizon (least_reach g net (length net.plan.links)))
        (total_equal net.plan.processes (λ p. length ((simulated g net).history p)) (λ p. length (end.h p))
        (λ q. ap length (sim_histories q) ∙ length_records (to_record g net q) (end.h q)))

    -- Where the simulation stops no process, nothing is left waiting.
    all_quiet : NoneStopped g net → (p : ℕ) → p < net.plan.processes → Quiet N end.h p
    all_quiet n p l = ⊎_elim (λ q. q)
        (λ u. absurd (go ((simulated g net).stopped p) (end.stopped p) (sim_stops p) (n p l) (stuck_stopped N ok ends p u.0 u.1)))
        (settled p l)
      where
        go : (o : Option (Stop C)) (i : Option (Entry C)) {e : Entry C} → SameStop g net p (end.h p) o i → o ≡ None → i ≡ Some e → ⊥
        go None None x q w = none_is_some w
        go None (Some i) x q w = x
        go (Some z) i x q w = none_is_some (sym q)

    module _ (v : View C P) (r : Reached v) where
      -- The kernel where the run stands.
      abbrev s : Kernel C
      s = r.c.kernel

      -- It is on the way to the end of the simulation.
      follows : F.Follows N ok end.h merged s
      follows = gets_follows N ok end.h merged settled r.gets

      -- A history that the course has whole is whole.
      whole : (p : ℕ) → s.h p ≡ end.h p → Whole g net v p
      whole p e = r.shows.histories p ∙ ap (λ z. map (to_record g net p) (reverse z)) e ∙ sym (sim_histories p)

      -- Each history of the run begins the simulation's.
      begins : (p : ℕ) → Begins (history p v.log) ((simulated g net).history p)
      begins p =
          let x = ⊑_reverse (follows.begins p) in (
            map (to_record g net p) x.0,
            sim_histories p ∙ ap (map (to_record g net p)) x.1 ∙ map-append (to_record g net p) (reverse (s.h p)) x.0
                ∙ ap (λ z. z ++ map (to_record g net p) x.0) (sym (r.shows.histories p)),
          )

      -- With R rounds, every clock is the horizon and every history is whole.
      in_time : NoneStopped g net → round_figure g net ≤ v.rounds → (p : ℕ) → p < net.plan.processes
          → (clock v.plan v.links p ≡ net.plan.horizon) × Whole g net v p
      in_time n l p i =
          let m = r.shows.rounds in
          let e = figure in
          let o = least_reach g net (length net.plan.links) in
          let z = levels N o (λ k k1 k2. reach_bounds g net limits (length net.plan.links) k (omega arith) k1 k2)
          (reach_positive g net limits far (length net.plan.links) (omega arith)) in
          let x = finishes N ok end.h merged (all_quiet n) z.0 (crossings net.plan.horizon o) z.1 r.gets (omega arith) p i in
          (ap (λ (y : Shape). clock y v.links p) r.shows.plan ∙ clocks g net v.links s r.shows.links p ∙ x.1, whole p x.0)

      -- In a finished run a process whose history went on would have a clock below the horizon.
      finished : done v ≡ true → (p : ℕ) → Whole g net v p
      finished d p = whole p (⊎_elim (λ e. e) (λ y. all_there (merged p (s.h p) y.0 y.1).lowest.is_process) (⊑_cases (follows.begins p)))
        where
          here : done (planned g net v) ≡ true
          here = subst (λ (z : View C P). done z ≡ true) (sym (planned_same g net v r.shows.plan)) d

          all_there : p < net.plan.processes → s.h p ≡ end.h p
          all_there l =
              let t = (and_true (as_prepared (planned g net v)) (each net.plan.processes (λ q. eqb (clock net.plan v.links q) net.plan.horizon)) here).1 in
              let e = eqb-true (clock net.plan v.links p) net.plan.horizon
              (each_true net.plan.processes (λ q. eqb (clock net.plan v.links q) net.plan.horizon) t p l) in
              let f = clocks g net v.links s r.shows.links p in
              all_taken N ok end.h merged s follows p (omega arith)

      -- A step of the state x finds that the safe event e is the breach b.
      module _ (p : ℕ) (b : Breach) (x : P) (i : ℕ) (e : Event C) (ready : Ready (planned g net v) p x) (safe : Safe net.plan v.links p i e)
          (q : breach g (planned g net v) p x i e ≡ Some b) where
        -- The event as an entry.
        abbrev ev : Entry C
        ev = entry i e

        -- What goes out as it is handled.
        abbrev out : Option (Outgoing C)
        out = (handle g net.plan p x i e).1

        -- The system sends the same.
        sends : answer N p (s.h p) ev ≡ out
        sends = answers g net same limits ok v r.c r.gets r.shows p x ready i e safe

        -- The lookahead is the first one.
        looks : g.lookahead x ≡ N.lookahead p
        looks = look g net same limits ok v r.c r.gets r.shows p x ready

        -- The event is safe in the kernel.
        is_safe : K.Safe N s p ev
        is_safe = kernel_safe g net same limits ok v r.c r.gets r.shows p x ready i e safe

        -- What goes out goes on a link that is there.
        own_link : (y : Outgoing C) → out ≡ Some y → y.link < length net.plan.links
        own_link y w = (ok.own p is_safe.is_process (s.h p) ev y (sends ∙ w)).0

        -- It is a breach by the floors of the kernel.
        not_fine : ¬ (Fine N p (s.h p) ev s.floor)
        not_fine fine =
            let B = breach_some p (e.time + g.lookahead x) v.links.delay v.links.floor out b q in
            let k = fine B.x (sends ∙ B.sends) in
            let k1 = k.ahead in
            let k3 = k.behind in
            let d = r.shows.links.delays B.x.link (own_link B.x B.sends) in
            let f = r.shows.links.floors B.x.link (own_link B.x B.sends) in
            let l = looks in
            B.breaks (record { ahead = omega arith; near = k.near; behind = omega arith })

        -- The simulation has p stuck at that event.
        stuck_there : (s.h p ≡ end.h p) × Stuck N end.h p ev
        stuck_there = breaches_there N ok end.h merged s follows settled p ev is_safe not_fine

        -- And finds the same breach there.
        same_breach : (d : Breach) → breach_at g net p (end.h p) ev ≡ Some d → d ≡ b
        same_breach d w =
            let here : breach_of p (e.time + g.lookahead x) (delay net.plan) (λ j. last N j (s.h p)) out ≡ Some d =
            ap₂ (λ (n : ℕ) (o : Option (Outgoing C)). breach_of p (e.time + n) (delay net.plan) (λ j. last N j (s.h p)) o) looks (sym sends)
            ∙ ap (λ hs. breach_at g net p hs ev) stuck_there.0 ∙ w in
            breach_same p (e.time + g.lookahead x) (delay net.plan) v.links.delay (λ j. last N j (s.h p)) v.links.floor out d b
            (λ y u. r.shows.links.delays y.link (own_link y u)) here q

        -- So the simulation stops p at that event and by that breach.
        breach_there : (simulated g net).stopped p ≡ Some (record { choice = record { process = p; link = i; event = e }; breach = b })
        breach_there = go ((simulated g net).stopped p) refl (end.stopped p) (sim_stops p) (stuck_stopped N ok ends p ev stuck_there.1)
          where
            go : (o : Option (Stop C)) → (simulated g net).stopped p ≡ o → (n : Option (Entry C)) → SameStop g net p (end.h p) o n → n ≡ Some ev
                → (simulated g net).stopped p ≡ Some (record { choice = record { process = p; link = i; event = e }; breach = b })
            go None u None y w = none_is_some w
            go None u (Some d) y w = absurd y
            go (Some z) u None y w = absurd y
            go (Some z) u (Some d) y w =
                let one : d ≡ ev = some_same refl w in
                let c : z.choice ≡ record { process = p; link = i; event = e } =
                y.0 ∙ ap (λ (n : Entry C). record { process = p; link = n.link; event = n.event }) one in
                let t : z.breach ≡ b = same_breach z.breach (ap (breach_at g net p (end.h p)) (sym one) ∙ y.1) in
                let all : z ≡ record { choice = record { process = p; link = i; event = e }; breach = b } = λ j. record { choice = c j; breach = t j } in
                u ∙ ap (λ (n : Stop C). Some n) all

      -- A breach that a step reports, over the plan of the net.
      planned_breaches : (p i : ℕ) (e : Event C) (b : Breach) (w : View C P) → Safe net.plan v.links p i e
          → Step g (planned g net v) p (Err (Breached b)) w
          → ((simulated g net).stopped p ≡ Some (record { choice = record { process = p; link = i; event = e }; breach = b })) × Whole g net v p
      planned_breaches p i e b w safe (Step.breached {s = x} {i = j} {e = d} y sf f l q) =
          let one = one_safe C net.plan v.links p j i d e sf safe in
          let ev : entry j d ≡ entry i e = ap₂ entry one.0 one.1 in (
            breach_there p b x j d y sf q ∙ ap (λ (n : Entry C). Some (record { choice = record { process = p; link = n.link; event = n.event }; breach = b })) ev,
            whole p (stuck_there p b x j d y sf q).0,
          )

      -- The same, over the plan of the run.
      breaches : (p i : ℕ) (e : Event C) (b : Breach) (w : View C P) → Safe v.plan v.links p i e → Step g v p (Err (Breached b)) w
          → ((simulated g net).stopped p ≡ Some (record { choice = record { process = p; link = i; event = e }; breach = b })) × Whole g net v p
      breaches p i e b w safe st = planned_breaches p i e b w
          (subst (λ (z : Shape). Safe z v.links p i e) r.shows.plan safe)
          (subst (λ (z : View C P). Step g z p (Err (Breached b)) w) (sym (planned_same g net v r.shows.plan)) st)

      -- All that the law says of one run.
      follows_simulation : Follows g net v
      follows_simulation = record { over = over; begins = begins; in_time = in_time; finished = finished; breaches = breaches }

    -- And of two: histories that are equally long are equal.
    agree : (v w : View C P) → Reached v → Reached w → Agree v w
    agree v w x y p = (
      λ e. ap length e,
      λ e.
          let f : length (x.c.kernel.h p) ≡ length (y.c.kernel.h p) =
          sym (length_records (to_record g net p) (x.c.kernel.h p)) ∙ sym (ap length (x.shows.histories p)) ∙ e
          ∙ ap length (y.shows.histories p) ∙ length_records (to_record g net p) (y.c.kernel.h p) in
          x.shows.histories p
          ∙ ap (λ z. map (to_record g net p) (reverse z)) (⊑_equal ((follows v x).begins p) ((follows w y).begins p) f)
          ∙ sym (y.shows.histories p),
    )

-- The law, where no event changes a lookahead and every reach of a net within its limits is 1 or more.
pub law : {C P : Type 0} (g : Program C P) → Constant g → ((net : Net C P) → Limits net → Reaching g net) → Law g
law g same far net v w cs ds a b =
    let limits = after_limits g net same a in
    let ok = after_proper g net same (far net limits) a in
    let x = reaches g net same limits ok a in
    let y = reaches g net same limits ok b in (
      agree g net same (far net limits) limits ok v w x y,
      follows_simulation g net same (far net limits) limits ok v x,
      follows_simulation g net same (far net limits) limits ok w y,
    )
