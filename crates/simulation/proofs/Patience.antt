-- How long a run can be kept busy: every null that is put and every event that is taken uses some of its patience up.
use Rattle.std.proofs.Common.{◌≡◌, ℕ, ◌+◌, ◌-◌, ◌<◌, ◌≤◌, Bool, true, false, ◌&&◌, eqb, List, [], ◌∷◌, length, Some, None, Option, Result, refl, ap, ◌∙◌, arith, length-append, eq-eqb, ne_eqb}
use mathlib.Core.Logic.{by_cases}
use native.Mathlib.Decide.{ℕ_discrete}
use Rattle.model.specs.declared.answer.Stepped.{Stepped}
use Rattle.model.specs.declared.event.Event.{Event}
use Rattle.model.specs.declared.refusal.Refusal.{Refusal}
use Rattle.model.specs.Linking.{Steady, Apart, TakeDone}
use Rattle.model.specs.Lists.{total}
use Rattle.model.specs.Pile.{Pile}
use Rattle.model.specs.Shape.{in_links}
use Rattle.simulation.specs.Net.{Program, Outgoing}
use Rattle.simulation.specs.View.{View, least_clock}
use Rattle.simulation.specs.Step.{Sent, Nulls, Closes, Step}
use Rattle.simulation.specs.Calls.{quiet, Pass, Passes}
use Rattle.simulation.proofs.Sums.{total_drop, total_most}

-- No null raises a floor past this: the largest horizon, lookahead and delay.
abbrev highest : ℕ
highest = 1020000

-- The smallest clock is no later than the horizon.
least_below : {C : Type 0} (m : Pile C) (horizon : ℕ) (ks : List ℕ) → least_clock m horizon ks ≤ horizon
least_below m horizon [] = omega arith
least_below m horizon (k ∷ ks) = let i = least_below m horizon ks in omega arith

module _ {C : Type 0} where
  -- The links are 128 at most, with delays of 10,000 at most.
  pub record Near (m : Pile C) : Type 0 where
    pub few : m.count ≤ 128
    pub delays : (k : ℕ) → k < m.count → m.delay k ≤ 10000

  -- By how much nulls may still raise the floors.
  abbrev slack : Pile C → ℕ
  slack m = total m.count (λ k. highest - m.floor k)

  -- It is limited.
  slack_most : (m : Pile C) → Near m → slack m ≤ 130560000
  slack_most m near = let t = total_most m.count (λ k. highest - m.floor k) highest (λ k. omega arith) in let f = near.few in omega arith

  -- From the links m to n at least d of it is used up.
  record Uses (m : Pile C) (d : ℕ) (n : Pile C) : Type 0 where
    near : Near n
    less : slack n + d ≤ slack m

  -- A call on the link k that leaves d less of it there.
  uses : (m n : Pile C) (k d : ℕ) → Near m → Steady m n → Apart m n k → k < m.count → (highest - n.floor k) + d ≤ highest - m.floor k → Uses m d n
  uses m n k d near steady apart there e =
      let c = steady.count in
      record {
        near = record {
          few = let f = near.few in omega arith;
          delays = λ j l. let s = (steady.settled j (omega arith)).delay in let t = near.delays j (omega arith) in omega arith;
        };
        less = rw c (total_drop m.count (λ j. highest - n.floor j) (λ j. highest - m.floor j) d k
            (λ j l. by_cases (ℕ_discrete j k) (λ q. rw q (omega arith)) (λ q. let a = apart.floor j l q in omega arith))
            there e);
      }

  -- A put may use some of it up.
  sent_uses : (m n : Pile C) (o : Option (Outgoing C)) → Near m → Sent m o n → Uses m 0 n
  sent_uses m n None near s = rw s (record { near = near; less = omega arith })
  sent_uses m n (Some x) near s =
      let b = s.timely.behind in
      let f = s.floor in
      uses m n x.link 0 near s.steady s.apart s.timely.there (omega arith)

  -- A take uses none of it up.
  take_uses : (m n : Pile C) (i : ℕ) (e : Event C) → Near m → TakeDone m i e n → Uses m 0 n
  take_uses m n i e near t = let f = t.floor in uses m n i 0 near t.steady t.apart t.there (omega arith)

  -- Each null uses up 1 at least.
  nulls_use : {t : ℕ} {ks : List ℕ} {m n : Pile C} {count : ℕ} → t ≤ 1010000 → Near m → Nulls t ks m count n → Uses m count n
  nulls_use {m = m} b near Nulls.no_more = record { near = near; less = omega arith }
  nulls_use b near (Nulls.skips low r) = nulls_use b near r
  nulls_use {m = m} b near (Nulls.raises {k = k} {l = l} low nd r) =
      let f = nd.floor in
      let d = near.delays k nd.timely.there in
      let u = uses m l k 1 near nd.steady nd.apart nd.timely.there (omega arith) in
      let i = nulls_use b u.near r in
      let x = u.less in
      let y = i.less in
      record { near = i.near; less = omega arith }

-- 1 unless quiet.
abbrev lively : Bool → ℕ
lively true = 0
lively false = 1

-- Where no null is put, none is counted.
lively_nulls : (n : ℕ) → lively (eqb n 0) ≤ n
lively_nulls n = by_cases (ℕ_discrete n 0) (λ e. rw (eq-eqb n 0 e) (omega arith)) (λ d. rw (ne_eqb n 0 d) (omega arith))

-- Two things done are quiet if both are.
lively_both : (a b : Bool) → lively (a && b) ≤ lively a + lively b
lively_both true b = omega arith
lively_both false b = omega arith

module _ {C P : Type 0} where
  -- The links, the horizon and the log are within their limits.
  pub record Limited (v : View C P) : Type 0 where
    pub near : Near v.links
    pub horizon : v.plan.horizon ≤ 1000000
    pub room : v.room ≤ 65536

  -- What the links have left, and the room in the log.
  abbrev pub patience : View C P → ℕ
  patience v = slack v.links + (v.room - length v.log)

  -- There is only so much.
  pub patience_most : (v : View C P) → Limited v → patience v ≤ 130625536
  patience_most v l = let s = slack_most v.links l.near in let r = l.room in omega arith

  -- A step or a pass from v to w, quiet or not.
  pub record Wears (v : View C P) (q : Bool) (w : View C P) : Type 0 where
    pub limited : Limited w
    pub less : patience w + lively q ≤ patience v

-- Where no lookahead is more than 10,000.
module _ {C P : Type 0} (g : Program C P) (short : (s : P) → g.lookahead s ≤ 10000) where
  -- The end of a step, over the links m: each null wears it.
  closes_wears : (v w : View C P) (p : ℕ) (s : P) (m : Pile C) (nulls : ℕ) → Limited v → Near m → Closes v p (g.lookahead s) m nulls w
      → Limited w × (slack w.links + nulls ≤ slack m)
  closes_wears v w p s m nulls l near c =
      let h = l.horizon in
      let k = least_below m v.plan.horizon (in_links v.plan p) in
      let a = short s in
      let u = nulls_use (omega arith) near c.tell in
      (record { near = u.near; horizon = rw c.plan h; room = rw c.room l.room }, u.less)

  -- A step wears patience, unless it is quiet.
  pub step_wears : (v w : View C P) (p : ℕ) (r : Result (Stepped C) Refusal) → Limited v → Step g v p r w → Wears v (quiet r) w
  step_wears v w p r l (Step.absent e) = record { limited = l; less = omega arith }
  step_wears v w p r l (Step.held y s f) = record { limited = l; less = omega arith }
  step_wears v w p r l (Step.log_full y s f k) = record { limited = l; less = omega arith }
  step_wears v w p r l (Step.breached y s f k b) = record { limited = l; less = omega arith }
  step_wears v w p r l (Step.idles {s = s} {nulls = nulls} y no-safe i) =
      let c = closes_wears v w p s v.links nulls l l.near i.closes in
      let x = c.1 in
      let n = lively_nulls nulls in
      let room = i.closes.room in
      let log = ap length i.log in
      record { limited = c.0; less = omega arith }
  step_wears v w p r l (Step.takes {s = s} {i = i} {e = e} {nulls = nulls} y safe f k b t) =
      let u = take_uses v.links t.without i e l.near t.take in
      let z = sent_uses t.without t.with_sent _ u.near t.put in
      let c = closes_wears v w p s t.with_sent nulls l z.near t.closes in
      let x0 = u.less in
      let x1 = z.less in
      let x2 = c.1 in
      let room = t.closes.room in
      let log = ap length t.log ∙ length-append v.log _ in
      record { limited = c.0; less = omega arith }

  -- So does a pass.
  pass_wears : {v w : View C P} {n : ℕ} {q : Bool} → Limited v → Pass g v n q w → Wears v q w
  pass_wears l Pass.begins = record { limited = l; less = omega arith }
  pass_wears l (Pass.steps {p = p} {q = q} {w = w} {u = u} {r = r} x s) =
      let a = pass_wears l x in
      let b = step_wears w u p r a.limited s in
      let a1 = a.less in
      let b1 = b.less in
      let c = lively_both q (quiet r) in
      record { limited = b.limited; less = omega arith }

  -- So many passes of which none is quiet wear as much.
  pub passes_wear : {v w : View C P} {n : ℕ} {q : Bool} → Limited v → Passes g v n q w → q ≡ false → Limited w × (patience w + n ≤ patience v)
  passes_wear l Passes.none e = (l, omega arith)
  passes_wear l (Passes.another {q = q} x p) e =
      let a = passes_wear l x refl in
      let b = pass_wears a.0 p in
      let a1 = a.1 in
      let b1 = b.less in
      let c : lively q ≡ 1 = ap lively e in
      (b.limited, omega arith)
