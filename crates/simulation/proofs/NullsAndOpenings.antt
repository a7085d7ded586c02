-- What nulls and opening events make of the links.
use Rattle.std.proofs.Common.{◌≡◌, ℕ, ◌+◌, ◌<◌, ◌≤◌, max, Bool, true, false, cond, ◌||◌, eqb, ◌≢◌, List, [], ◌∷◌, ◌++◌, sym, refl, ap, ◌∙◌, subst, append_assoc, append-nil, arith, eq-eqb, ne_eqb}
use mathlib.Core.List.{reverse_aux}
use mathlib.Core.Logic.{by_cases}
use native.Mathlib.Decide.{ℕ_discrete}
use Rattle.model.specs.declared.event.Event.{Event}
use Rattle.model.specs.declared.opening.Opening.{Opening}
use Rattle.model.specs.Linking.{PutDone}
use Rattle.model.specs.Pile.{Pile}
use Rattle.model.specs.Shape.{delay}
use Rattle.simulation.specs.Net.{Net}
use Rattle.simulation.specs.Simulation.{arriving, last_arrival, opening_on}
use Rattle.simulation.specs.Step.{Nulls}
use Rattle.simulation.specs.Prepare.{Opens}
use Rattle.simulation.proofs.Tests.{if_same, if_other}
use Rattle.simulation.proofs.Places.{elem}
use Rattle.simulation.proofs.System.{Rising, newest}

-- A floor that is as high already stays.
high_enough : (a b : Bool) (x y : ℕ) → y ≤ x → cond b (max x y) x ≡ cond (a || b) (max x y) x
high_enough true true x y l = refl
high_enough true false x y l = omega arith
high_enough false b x y l = refl

-- A floor that is raised is not raised again.
raised_once : (t : ℕ) (a b : Bool) (f d f' d' : ℕ) → f' ≡ t + d → d' ≡ d → f < t + d → a ≡ true
    → cond b (max f' (t + d')) f' ≡ cond (a || b) (max f (t + d)) f
raised_once t a true f d f' d' e i l q = rw q (omega arith)
raised_once t a false f d f' d' e i l q = rw q (omega arith)

module _ {C : Type 0} where
  -- Nulls at t on the links ks: their floors are raised, and nothing else changes.
  pub record Told (t : ℕ) (ks : List ℕ) (m w : Pile C) : Type 0 where
    pub count : w.count ≡ m.count
    pub waiting : (j : ℕ) → j < m.count → w.waiting j ≡ m.waiting j
    pub delay : (j : ℕ) → j < m.count → w.delay j ≡ m.delay j
    pub floor : (j : ℕ) → j < m.count → w.floor j ≡ cond (elem j ks) (max (m.floor j) (t + m.delay j)) (m.floor j)

  -- What nulls do.
  pub told : {t : ℕ} {ks : List ℕ} {m w : Pile C} {n : ℕ} → Nulls t ks m n w → Told t ks m w
  told Nulls.no_more = record { count = refl; waiting = λ j l. refl; delay = λ j l. refl; floor = λ j l. refl }
  told {t = t} {m = m} (Nulls.skips {k = k} {ks = ks} low r) =
      let i = told r in
      record {
        count = i.count;
        waiting = i.waiting;
        delay = i.delay;
        floor = λ j l. i.floor j l ∙ by_cases (ℕ_discrete j k)
            (λ e. high_enough (eqb j k) (elem j ks) (m.floor j) (t + m.delay j) (rw e low))
            (λ d. ap (λ b. cond (b || elem j ks) (max (m.floor j) (t + m.delay j)) (m.floor j)) (sym (ne_eqb j k d)));
      }
  told {t = t} {m = m} (Nulls.raises {k = k} {ks = ks} {l = u} low nd r) =
      let i = told r in
      let c = nd.steady.count in
      record {
        count = i.count ∙ nd.steady.count;
        waiting = λ j l. i.waiting j (omega arith) ∙ by_cases (ℕ_discrete j k) (λ e. rw e nd.waiting) (λ d. nd.apart.waiting j l d);
        delay = λ j l. i.delay j (omega arith) ∙ (nd.steady.settled j l).delay;
        floor = λ j l. i.floor j (omega arith) ∙ by_cases (ℕ_discrete j k)
            (λ e. subst (λ (x : ℕ).
            cond (elem x ks) (max (u.floor x) (t + u.delay x)) (u.floor x) ≡ cond (elem x (k ∷ ks)) (max (m.floor x) (t + m.delay x)) (m.floor x)) (sym e)
            (raised_once t (eqb k k) (elem k ks) (m.floor k) (m.delay k) (u.floor k) (u.delay k)
            nd.floor (nd.steady.settled k nd.timely.there).delay low (eq-eqb k k refl)))
            (λ d. rw (nd.apart.floor j l d, (nd.steady.settled j l).delay)
            (ap (λ b. cond (b || elem j ks) (max (m.floor j) (t + m.delay j)) (m.floor j)) (sym (ne_eqb j k d))));
      }

module _ {C P : Type 0} (net : Net C P) where
  -- The links have the delays of the plan.
  abbrev Delays : Pile C → Type 0
  Delays m = (j : ℕ) → j < m.count → m.delay j ≡ delay net.plan j

  -- Opening events put: they wait in order, the last is the floor, and their arrivals rise.
  pub record Opened (os : List (Opening C)) (m w : Pile C) : Type 0 where
    pub count : w.count ≡ m.count
    pub delays : Delays w
    pub waiting : (j : ℕ) → j < m.count → w.waiting j ≡ m.waiting j ++ opening_on net j os
    pub floor : (j : ℕ) → j < m.count → w.floor j ≡ last_arrival (m.floor j) (opening_on net j os)
    pub rising : (j : ℕ) → j < m.count → (acc : List (Event C)) → Rising acc → newest 0 acc ≤ m.floor j → Rising (reverse_aux (opening_on net j os) acc)

  -- The first of them, o, is put.
  module _ (m u : Pile C) (o : Opening C) (os : List (Opening C)) (d : Delays m) (pd : PutDone m o.link o.time o.cargo u) where
    -- The event as it arrives.
    arrival : Event C
    arrival = arriving net.plan o.link o.time o.cargo

    -- It is the first opening event of its link.
    opening_here : opening_on net o.link (o ∷ os) ≡ arrival ∷ opening_on net o.link os
    unfolding arrival
    opening_here = if_same o.link o.link (arriving net.plan o.link o.time o.cargo ∷ opening_on net o.link os) (opening_on net o.link os) refl

    -- Other links have the opening events that are left.
    opening_there : (j : ℕ) → o.link ≢ j → opening_on net j (o ∷ os) ≡ opening_on net j os
    opening_there j n = if_other o.link j (arriving net.plan j o.time o.cargo ∷ opening_on net j os) (opening_on net j os) n

    -- It waits last.
    put_waiting : u.waiting o.link ≡ m.waiting o.link ++ arrival ∷ []
    unfolding arrival
    put_waiting = pd.waiting ∙ ap (λ (n : ℕ). m.waiting o.link ++ record { time = o.time + n; cargo = o.cargo } ∷ []) (d o.link pd.timely.there)

    -- Its arrival is the floor.
    put_floor : u.floor o.link ≡ arrival.time
    unfolding arrival
    put_floor = pd.floor ∙ ap (λ (n : ℕ). o.time + n) (d o.link pd.timely.there)

    -- What waits, and is still to be put, stays the same on each link.
    waiting_on : (j : ℕ) → j < m.count → u.waiting j ++ opening_on net j os ≡ m.waiting j ++ opening_on net j (o ∷ os)
    waiting_on j l = by_cases (ℕ_discrete o.link j)
        (λ e. subst (λ (x : ℕ). u.waiting x ++ opening_on net x os ≡ m.waiting x ++ opening_on net x (o ∷ os)) e
        (ap (λ q. q ++ opening_on net o.link os) put_waiting ∙ append_assoc (m.waiting o.link) (arrival ∷ []) (opening_on net o.link os)
        ∙ ap (λ q. m.waiting o.link ++ q) (sym opening_here)))
        (λ n. ap (λ q. q ++ opening_on net j os) (pd.apart.waiting j l (λ e. n (sym e))) ∙ ap (λ q. m.waiting j ++ q) (sym (opening_there j n)))

    -- So does the last arrival.
    floor_on : (j : ℕ) → j < m.count → last_arrival (u.floor j) (opening_on net j os) ≡ last_arrival (m.floor j) (opening_on net j (o ∷ os))
    floor_on j l = by_cases (ℕ_discrete o.link j)
        (λ e. subst (λ (x : ℕ). last_arrival (u.floor x) (opening_on net x os) ≡ last_arrival (m.floor x) (opening_on net x (o ∷ os))) e
        (ap (λ f. last_arrival f (opening_on net o.link os)) put_floor ∙ ap (last_arrival (m.floor o.link)) (sym opening_here)))
        (λ n. ap (λ f. last_arrival f (opening_on net j os)) (pd.apart.floor j l (λ e. n (sym e))) ∙ ap (last_arrival (m.floor j)) (sym (opening_there j n)))

    -- With the floor f, these opening events of the link j go on rising.
    abbrev GoesOn : ℕ → List (Opening C) → ℕ → Type 0
    GoesOn f xs j = (acc : List (Event C)) → Rising acc → newest 0 acc ≤ f → Rising (reverse_aux (opening_on net j xs) acc)

    -- Its arrival is not below the floor, so the arrivals of its link rise.
    rising_here : GoesOn (u.floor o.link) os o.link → GoesOn (m.floor o.link) (o ∷ os) o.link
    unfolding Rising newest
    rising_here i acc r n =
        let f = put_floor in
        let b = pd.timely.behind in
        let e = pd.floor in
        subst (λ (q : List (Event C)). Rising (reverse_aux q acc)) (sym opening_here) (i (arrival ∷ acc) (omega arith, r) (omega arith))

    -- And those of the other links.
    rising_on : (j : ℕ) → j < m.count → GoesOn (u.floor j) os j → GoesOn (m.floor j) (o ∷ os) j
    rising_on j l i = by_cases (ℕ_discrete o.link j)
        (λ e. subst (λ (x : ℕ). GoesOn (m.floor x) (o ∷ os) x) e (rising_here (subst (λ (x : ℕ). GoesOn (u.floor x) os x) (sym e) i)))
        (λ n acc r f. subst (λ (q : List (Event C)). Rising (reverse_aux q acc)) (sym (opening_there j n)) (i acc r (rw (pd.apart.floor j l (λ e. n (sym e))) f)))

  -- What opening events do.
  pub opened : {os : List (Opening C)} {m w : Pile C} → Delays m → Opens net.plan os m w → Opened os m w
  opened {m = m} d Opens.no_more = record {
    count = refl;
    delays = d;
    waiting = λ j l. sym (append-nil (m.waiting j));
    floor = λ j l. refl;
    rising = λ j l acc r n. r;
  }
  opened {m = m} d (Opens.puts {o = o} {os = os} {l = u} from pd r) =
      let c = pd.steady.count in
      let du : Delays u = λ j l. (pd.steady.settled j (omega arith)).delay ∙ d j (omega arith) in
      let i = opened du r in
      record {
        count = i.count ∙ pd.steady.count;
        delays = i.delays;
        waiting = λ j l. i.waiting j (omega arith) ∙ waiting_on m u o os d pd j l;
        floor = λ j l. i.floor j (omega arith) ∙ floor_on m u o os d pd j l;
        rising = λ j l. rising_on m u o os d pd j l (i.rising j (omega arith));
      }
