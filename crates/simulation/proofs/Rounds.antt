-- A kernel gets on: in each round an event is taken, or the floors rise, so that enough rounds finish it.
use Rattle.std.proofs.Common.{◌≡◌, ℕ, suc, ◌+◌, ◌-◌, ◌*◌, ◌/◌, ◌<◌, ◌≤◌, min, max, Bool, true, false, ◌⊎◌, List, [], ◌∷◌, length, Some, None, Option, sym, refl, ◌∙◌, inl, inr, ⊎_elim, mul-le-mul_right, arith}
use mathlib.Core.Logic.{by_cases, if_neg}
use native.Mathlib.Decide.{dec_lt, dec_le}
use Rattle.model.specs.declared.event.Event.{Event}
use Rattle.model.specs.Lists.{update}
use Rattle.simulation.specs.Simulation.{crossings}
use Rattle.simulation.proofs.Tests.{true_false, if_cases, update_cases}
use Rattle.simulation.proofs.Sums.{total_mono, total_tight, total_drop}
use Rattle.simulation.proofs.Histories.{⊑_length, ⊑_whole, nth_kept}
use Rattle.simulation.proofs.System.{System, Entry, taken, answer, Fine, Quiet, Proper}
use Rattle.simulation.proofs.SentEvents.{sent_⊑}
use Rattle.simulation.proofs.MergeLaw.{Merged, Settled}
use Rattle.simulation.proofs.Kernel.{Kernel, Counted, events, opened_floor, nulled_floor, first_floor, boot, waiting, link_clock, clock, Safe, take_event, promise, tell}
use Rattle.simulation.proofs.Kernel.{Act, idle, takes, Everyone, refused, marks, rounds_up, Gets, boots, ticks}
use Rattle.simulation.proofs.Clocks.{due_some, due_none, due_mono, clock_least, clock_greatest, clock_horizon, idle_clock}
use Rattle.simulation.proofs.FollowsMerged.{Follows, raised_cases, all_taken, gets_follows}

-- No reach is below the smallest.
abbrev pub Bounds : Option ℕ → ℕ → Type 0
Bounds None r = ⊥
Bounds (Some q) r = q ≤ r

-- The smallest is 1 or more.
abbrev pub Positive : Option ℕ → Type 0
Positive None = Unit {0}
Positive (Some q) = 1 ≤ q

-- A quotient that is rounded up reaches the number.
rounded_up : (H r : ℕ) → 1 ≤ r → H ≤ (H + (r - 1)) / r * r
rounded_up H r l = omega arith

module _ {C S : Type 0} (sys : System C S) where
  -- Nulls only raise floors.
  tell_floor : (s : Kernel C) (p k : ℕ) → s.floor k ≤ (tell sys s p).floor k
  tell_floor s p k = let c = if_cases (sys.source k) p (max (s.floor k) (promise sys s p k)) (s.floor k) in omega arith

  -- Those of p raise its links to its promise.
  tell_own : (s : Kernel C) (p k : ℕ) → sys.source k ≡ p → promise sys s p k ≤ (tell sys s p).floor k
  tell_own s p k e = let c = if_cases (sys.source k) p (max (s.floor k) (promise sys s p k)) (s.floor k) in omega arith

  -- A sending that is no breach only raises floors.
  take_floor : (s : Kernel C) (p : ℕ) (e : Entry C) → Fine sys p (s.h p) e s.floor → (k : ℕ) → s.floor k ≤ (take_event sys s p e).floor k
  take_floor s p e f k = ⊎_elim
      (λ c. rw c.1 (omega arith))
      (λ c. let b : s.floor k ≤ c.0.time + sys.delay k = rw c.2 at (f c.0 c.1).behind in rw c.4 b)
      (raised_cases sys k (answer sys p (s.h p) e) [] s.floor)

  -- Nulls only raise clocks.
  tell_clock : (s : Kernel C) (p q : ℕ) → clock sys s q ≤ clock sys (tell sys s p) q
  tell_clock s p q = clock_greatest sys (tell sys s p) q (clock sys s q) (clock_horizon sys s q)
      (λ k l t. let c = clock_least sys s q k l t in
      let d = due_mono (waiting sys s k) (s.floor k) ((tell sys s p).floor k) (tell_floor s p k) in
      omega arith)

  -- As p takes e, no history gets shorter.
  longer : (s : Kernel C) (p : ℕ) (e : Entry C) (q : ℕ) → length (s.h q) ≤ length (update s.h p (e ∷ s.h p) q)
  longer s p e q = ⊎_elim (λ c. rw (c.1, c.0) (omega arith)) (λ c. rw c.1 (omega arith)) (update_cases s.h p q (e ∷ s.h p))

  -- A taken event counts.
  take_more : (s : Kernel C) (p : ℕ) (e : Entry C) → p < sys.processes
      → events sys.processes s.h + 1 ≤ events sys.processes (update s.h p (e ∷ s.h p))
  take_more s p e l = total_drop sys.processes (λ q. length (s.h q)) (λ q. length (update s.h p (e ∷ s.h p) q)) 1 p (λ q i. longer s p e q) l
      (⊎_elim (λ c. rw c.1 (omega arith)) (λ c. absurd (c.0 refl)) (update_cases s.h p p (e ∷ s.h p)))

  -- If all floors are at the horizon, and nothing waits before it at p, the clock of p is the horizon.
  quiet_clock : (s : Kernel C) (p : ℕ) → Quiet sys s.h p → ((k : ℕ) → k < sys.links → sys.horizon ≤ s.floor k) → clock sys s p ≡ sys.horizon
  quiet_clock s p u f =
      let b = clock_horizon sys s p in
      let g = clock_greatest sys s p sys.horizon (omega arith) (λ k l t. go k l t (waiting sys s k) refl) in
      omega arith
    where
      go : (k : ℕ) → k < sys.links → sys.target k ≡ p → (o : Option (Event C)) → waiting sys s k ≡ o → sys.horizon ≤ link_clock sys s k
      go k l t None e = rw (due_none (s.floor k) e) (f k l)
      go k l t (Some a) e = rw (due_some (s.floor k) e) (u k a l t (rw t at e))

  -- Levels that the floors climb, one with each round in which nothing is taken; from the Z-th on they are the horizon.
  pub record Levels (level : ℕ → ℕ) (Z : ℕ) : Type 0 where
    pub start : (k : ℕ) → k < sys.links → sys.source k < sys.processes → level 0 ≤ 0
    pub next_level : (z k : ℕ) → k < sys.links → sys.source k < sys.processes
        → level (suc z) ≤ level z + (sys.lookahead (sys.source k) + sys.delay k)
    pub capped : (z : ℕ) → level z ≤ sys.horizon
    pub full : (z : ℕ) → Z ≤ z → sys.horizon ≤ level z

  -- With the smallest reach, as many levels as it goes into the horizon, rounded up, will do; without links from processes, none.
  pub levels : (o : Option ℕ)
      → ((k : ℕ) → k < sys.links → sys.source k < sys.processes → Bounds o (sys.lookahead (sys.source k) + sys.delay k)) → Positive o
      → (level : ℕ → ℕ) × Levels level (crossings sys.horizon o)
  levels None b p = (
    λ z. sys.horizon,
    record {
      start = λ k l q. absurd (b k l q);
      next_level = λ z k l q. omega arith;
      capped = λ z. omega arith;
      full = λ z l. omega arith;
    },
  )
  levels (Some r) b p = (
    λ z. min sys.horizon (z * r),
    record {
      start = λ k l q. omega arith;
      next_level = λ z k l q. let i = b k l q in omega arith;
      capped = λ z. omega arith;
      full = λ z l. let m = mul-le-mul_right r l in let u = rounded_up sys.horizon r p in omega arith;
    },
  )

  module _ (ok : Proper sys) (h : ℕ → List (Entry C)) (merged : Merged sys h) (quiet : (p : ℕ) → p < sys.processes → Quiet sys h p)
      (level : ℕ → ℕ) (Z : ℕ) (levels : Levels level Z) where
    -- Histories that leave nothing waiting are settled.
    settled : Settled sys h
    settled p l = inl (quiet p l)

    -- Each round that is over was spent on an event or raised the floors by a level.
    record Lively (s : Kernel C) (marked : ℕ → Bool) (rounds : ℕ) : Type 0 where
      height : ℕ  -- the level of the floors
      spent : ℕ  -- the rounds that were spent on an event
      bound : rounds ≤ height + spent
      few : spent ≤ events sys.processes s.h
      outside : (k : ℕ) → k < sys.links → sys.processes ≤ sys.source k → sys.horizon ≤ s.floor k
      floors : (k : ℕ) → k < sys.links → sys.source k < sys.processes → level height ≤ s.floor k
      -- If none was taken in this round, a process that has stepped in it raised its own links by a level more.
      fresh : events sys.processes s.h ≤ spent → (p : ℕ) → p < sys.processes → marked p ≡ true
          → (level height ≤ clock sys s p) × ((k : ℕ) → k < sys.links → sys.source k ≡ p → level (suc height) ≤ s.floor k)
      -- The floors go past the last level only once all events are taken.
      late : (height ≤ Z) ⊎ (events sys.processes h ≤ events sys.processes s.h)

    -- All floors are at the level, those of links from outside too.
    all_floors : {s : Kernel C} {marked : ℕ → Bool} {rounds : ℕ} (v : Lively s marked rounds) → (k : ℕ) → k < sys.links → level v.height ≤ s.floor k
    all_floors v k l = by_cases (dec_lt (sys.source k) sys.processes) (v.floors k l)
        (λ n. let o = v.outside k l (omega arith) in let c = levels.capped v.height in omega arith)

    -- At first no round is over.
    boot_lively : Lively (boot sys) (λ q. false) 0
    unfolding first_floor
    boot_lively = record {
      height = 0;
      spent = 0;
      bound = omega arith;
      few = omega arith;
      outside = λ k l q. let n : ¬ (sys.source k < sys.processes) = omega arith in
          rw (if_neg (dec_lt (sys.source k) sys.processes) n (opened_floor sys k) (nulled_floor sys k)) (omega arith);
      floors = λ k l q. let z = levels.start k l q in omega arith;
      fresh = λ e p l t. absurd (true_false t refl);
      late = inl (omega arith);
    }

    -- A step without an event finds its clock at the level of the floors, and raises its own links by a level.
    idle_lively : (s : Kernel C) (marked : ℕ → Bool) (rounds p : ℕ) → Lively s marked rounds → p < sys.processes → ((e : Entry C) → ¬ (Safe sys s p e))
        → Lively (tell sys s p) (update marked p true) rounds
    idle_lively s marked rounds p v l n = record {
      height = v.height;
      spent = v.spent;
      bound = v.bound;
      few = v.few;
      outside = λ k i q. let o = v.outside k i q in let t = tell_floor s p k in omega arith;
      floors = λ k i q. let o = v.floors k i q in let t = tell_floor s p k in omega arith;
      fresh = λ e q i m. ⊎_elim (λ c. rw c.0 (here, out)) (λ c. old e q i (sym c.1 ∙ m)) (update_cases marked p q true);
      late = v.late;
    }
      where
        before : level v.height ≤ clock sys s p
        before = idle_clock sys s p l n (level v.height) (levels.capped v.height) (all_floors v)

        here : level v.height ≤ clock sys (tell sys s p) p
        here = let t = tell_clock s p p in let b = before in omega arith

        out : (k : ℕ) → k < sys.links → sys.source k ≡ p → level (suc v.height) ≤ (tell sys s p).floor k
        out k i e =
            let t = tell_own s p k e in
            let b = before in
            let u : level (suc v.height) ≤ level v.height + (sys.lookahead p + sys.delay k) = rw e at (levels.next_level v.height k i (rw e l)) in
            omega arith

        old : events sys.processes s.h ≤ v.spent → (q : ℕ) → q < sys.processes → marked q ≡ true
            → (level v.height ≤ clock sys (tell sys s p) q) × ((k : ℕ) → k < sys.links → sys.source k ≡ q → level (suc v.height) ≤ (tell sys s p).floor k)
        old e q i m =
            let f = v.fresh e q i m in
            let t = tell_clock s p q in
            (omega arith, λ k j r. let g = f.1 k j r in let u = tell_floor s p k in omega arith)

    -- A step with an event makes the round one that is spent.
    takes_lively : (s : Kernel C) (marked mark : ℕ → Bool) (rounds p : ℕ) (e : Entry C) → Lively s marked rounds → Safe sys s p e
        → Fine sys p (s.h p) e s.floor
        → Lively (tell sys (take_event sys s p e) p) mark rounds
    takes_lively s marked mark rounds p e v a f =
        let m = take_more s p e a.is_process in
        let w = v.few in
        record {
          height = v.height;
          spent = v.spent;
          bound = v.bound;
          few = omega arith;
          outside = λ k i q. let o = v.outside k i q in let t = rises k in omega arith;
          floors = λ k i q. let o = v.floors k i q in let t = rises k in omega arith;
          fresh = λ n. absurd (omega arith);
          late = ⊎_elim (λ z. inl z) (λ n. inr (omega arith)) v.late;
        }
      where
        rises : (k : ℕ) → s.floor k ≤ (tell sys (take_event sys s p e) p).floor k
        rises k = let t = take_floor s p e f k in let u = tell_floor (take_event sys s p e) p k in omega arith

    -- Any step keeps the count.
    act_lively : {s : Kernel C} {p : ℕ} {s' : Kernel C} {marked : ℕ → Bool} {rounds : ℕ} → Lively s marked rounds → Act sys s p s'
        → Lively s' (update marked p true) rounds
    act_lively {s = s} {p = p} {marked = marked} {rounds = rounds} v (idle l n) = idle_lively s marked rounds p v l n
    act_lively {s = s} {p = p} {marked = marked} {rounds = rounds} v (takes e a f) = takes_lively s marked (update marked p true) rounds p e v a f

    -- Whole histories have all events.
    all_events : (s : Kernel C) → ((p : ℕ) → p < sys.processes → s.h p ≡ h p) → events sys.processes h ≤ events sys.processes s.h
    all_events s f = total_mono sys.processes (λ p. length (h p)) (λ p. length (s.h p)) (λ p l. rw (f p l) (omega arith))

    -- A round that is over without an event raised all floors by a level; any other was spent.
    round_lively : (s : Kernel C) (marked : ℕ → Bool) (rounds : ℕ) → Follows sys ok h merged s → Lively s marked rounds → Everyone sys marked
        → Lively s (λ q. false) (suc rounds)
    round_lively s marked rounds f v every = by_cases (dec_le (events sys.processes s.h) v.spent) calm busy
      where
        calm : events sys.processes s.h ≤ v.spent → Lively s (λ q. false) (suc rounds)
        calm n = let b = v.bound in record {
          height = suc v.height;
          spent = v.spent;
          bound = omega arith;
          few = v.few;
          outside = v.outside;
          floors = λ k l q. (v.fresh n (sys.source k) q (every (sys.source k) q)).1 k l refl;
          fresh = λ e p l t. absurd (true_false t refl);
          late = by_cases (dec_lt v.height Z) (λ l. inl l)
              (λ l. inr (all_events s (λ p i. all_taken sys ok h merged s f p
              (let c = (v.fresh n p i (every p i)).0 in let g = levels.full v.height (omega arith) in omega arith))));
        }

        busy : ¬ (events sys.processes s.h ≤ v.spent) → Lively s (λ q. false) (suc rounds)
        busy n = let b = v.bound in record {
          height = v.height;
          spent = suc v.spent;
          bound = omega arith;
          few = omega arith;
          outside = v.outside;
          floors = v.floors;
          fresh = λ e p l t. absurd (true_false t refl);
          late = v.late;
        }

    -- So the count is kept all the way.
    gets_lively : {c : Counted C} → Gets sys c → Lively c.kernel c.marked c.rounds
    gets_lively boots = boot_lively
    gets_lively (ticks g refused) = gets_lively g
    gets_lively (ticks g (marks a n)) = act_lively (gets_lively g) a
    gets_lively (ticks {c = c} g (rounds_up {p = p} {s = s} a n)) =
        round_lively s (update c.marked p true) c.rounds (gets_follows sys ok h merged settled (ticks g (rounds_up a n))) (act_lively (gets_lively g) a) n

    -- Where a history is whole, nothing is left waiting.
    quiet_there : (s : Kernel C) → Follows sys ok h merged s → (p : ℕ) → p < sys.processes → s.h p ≡ h p → Quiet sys s.h p
    quiet_there s f p l e j b i t w = quiet p l j b i t (nth_kept (sent_⊑ sys j (f.begins (sys.source j))) (taken j (h p)) (rw e at w))

    -- After as many rounds as there are events and levels, every history is whole and every clock is the horizon.
    pub finishes : {c : Counted C} → Gets sys c → events sys.processes h + Z ≤ c.rounds
        → (p : ℕ) → p < sys.processes → (c.kernel.h p ≡ h p) × (clock sys c.kernel p ≡ sys.horizon)
    finishes {c = c} g r p l =
        let s = c.kernel in
        let f = gets_follows sys ok h merged settled g in
        let v = gets_lively g in
        let b = v.bound in
        let w = v.few in
        let o = v.late in
        let m = total_mono sys.processes (λ q. length (s.h q)) (λ q. length (h q)) (λ q i. ⊑_length (f.begins q)) in
        let n = total_tight sys.processes (λ q. length (s.h q)) (λ q. length (h q)) (λ q i. ⊑_length (f.begins q)) (omega arith) p l in
        let e = ⊑_whole (f.begins p) n in
        let u = levels.full v.height (omega arith) in
        (e, quiet_clock s p (quiet_there s f p l e) (λ k i. let a = all_floors v k i in omega arith))
