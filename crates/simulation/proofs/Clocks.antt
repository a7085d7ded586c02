-- The clock of a process is the smallest of the horizon and the clocks of its in-links, and what is safe by it.
use Rattle.std.proofs.Common.{◌≡◌, ℕ, zero, suc, ◌<◌, ◌≤◌, min, ◌≢◌, ◌⊎◌, Some, None, Option, sym, refl, ◌∙◌, inl, inr, ⊎_elim, arith}
use mathlib.Core.Logic.{by_cases}
use native.Mathlib.Decide.{ℕ_discrete, dec_lt}
use Rattle.model.specs.declared.event.Event.{Event}
use Rattle.simulation.specs.View.{due}
use Rattle.simulation.proofs.Tests.{if_cases}
use Rattle.simulation.proofs.System.{System, Entry, entry, Before}
use Rattle.simulation.proofs.Kernel.{Kernel, waiting, link_clock, clock_below, clock, Safe}

-- Where an event waits, it is what is due.
pub due_some : {C : Type 0} {o : Option (Event C)} {a : Event C} (f : ℕ) → o ≡ Some a → due o f ≡ a.time
due_some {a = a} f e = rw e

-- Where none waits, the floor is.
pub due_none : {C : Type 0} {o : Option (Event C)} (f : ℕ) → o ≡ None → due o f ≡ f
due_none f e = rw e

-- With a higher floor, what is due is no sooner.
pub due_mono : {C : Type 0} (o : Option (Event C)) (f g : ℕ) → f ≤ g → due o f ≤ due o g
due_mono None f g l = l
due_mono (Some a) f g l = omega arith

module _ {C S : Type 0} (sys : System C S) (s : Kernel C) (p : ℕ) where
  -- The clock with one link more.
  clock_suc : (m : ℕ)
      → ((sys.target m ≡ p) × (clock_below sys s p (suc m) ≡ min (link_clock sys s m) (clock_below sys s p m)))
      ⊎ ((sys.target m ≢ p) × (clock_below sys s p (suc m) ≡ clock_below sys s p m))
  unfolding clock_below
  clock_suc m = if_cases (sys.target m) p (min (link_clock sys s m) (clock_below sys s p m)) (clock_below sys s p m)

  -- No link below m that leads to p has an earlier clock.
  below_least : (m k : ℕ) → k < m → sys.target k ≡ p → clock_below sys s p m ≤ link_clock sys s k
  below_least zero k l t = absurd (omega arith)
  below_least (suc m) k l t = by_cases (ℕ_discrete k m)
      (λ q. ⊎_elim (λ c. rw (c.1, q) (omega arith)) (λ c. absurd (c.0 (rw (← q) t))) (clock_suc m))
      (λ n. let i = below_least m k (omega arith) t in let c = clock_suc m in omega arith)

  -- The clock below m is the greatest number with that property.
  below_greatest : (v : ℕ) → v ≤ sys.horizon → (m : ℕ) → ((k : ℕ) → k < m → sys.target k ≡ p → v ≤ link_clock sys s k) → v ≤ clock_below sys s p m
  below_greatest v b zero f = unfold clock_below in b
  below_greatest v b (suc m) f =
      let i = below_greatest v b m (λ k l t. f k (omega arith) t) in
      ⊎_elim (λ c. let g = f m (omega arith) c.0 in rw c.1 (omega arith)) (λ c. rw c.1 i) (clock_suc m)

  -- It is no later than the horizon.
  below_horizon : (m : ℕ) → clock_below sys s p m ≤ sys.horizon
  below_horizon zero = unfold clock_below in omega arith
  below_horizon (suc m) = let i = below_horizon m in let c = clock_suc m in omega arith

  -- It is no later than the clock of an in-link.
  pub clock_least : (k : ℕ) → k < sys.links → sys.target k ≡ p → clock sys s p ≤ link_clock sys s k
  clock_least k = below_least sys.links k

  -- It is no sooner than what none of them is sooner than.
  pub clock_greatest : (v : ℕ) → v ≤ sys.horizon → ((k : ℕ) → k < sys.links → sys.target k ≡ p → v ≤ link_clock sys s k) → v ≤ clock sys s p
  clock_greatest v b f = below_greatest v b sys.links f

  -- It is no later than the horizon.
  pub clock_horizon : clock sys s p ≤ sys.horizon
  clock_horizon = below_horizon sys.links

  -- The first of the links below m whose clock is the clock of p, where that is below the horizon.
  record First (m : ℕ) : Type 0 where
    i : ℕ
    below : i < m
    mine : sys.target i ≡ p
    is : link_clock sys s i ≡ clock_below sys s p m
    soon : clock_below sys s p m < sys.horizon
    first : (j : ℕ) → j < m → sys.target j ≡ p → j ≢ i → Before (clock_below sys s p m) i (link_clock sys s j) j

  -- A further link whose clock is not earlier leaves the first one.
  first_kept : (m : ℕ) → clock_below sys s p (suc m) ≡ clock_below sys s p m → (sys.target m ≡ p → clock_below sys s p m ≤ link_clock sys s m)
      → First m → First (suc m)
  first_kept m e l f =
      let b = f.below in
      let o = f.soon in
      record {
        i = f.i;
        below = omega arith;
        mine = f.mine;
        is = f.is ∙ sym e;
        soon = omega arith;
        first = λ j d t n. rw e (by_cases (ℕ_discrete j m)
            (λ q. let g = l (rw (← q) t) in rw q (omega arith))
            (λ q. f.first j (omega arith) t n));
      }

  -- A further link whose clock is earlier becomes the first one.
  first_new : (m : ℕ) → sys.target m ≡ p → clock_below sys s p (suc m) ≡ link_clock sys s m → link_clock sys s m < clock_below sys s p m → First (suc m)
  first_new m t e l =
      let h = below_horizon m in
      record {
        i = m;
        below = omega arith;
        mine = t;
        is = sym e;
        soon = omega arith;
        first = λ j d u n. let g = below_least m j (omega arith) u in omega arith;
      }

  -- The clock is the horizon, or there is a first link that holds it.
  first_link : (m : ℕ) → (clock_below sys s p m ≡ sys.horizon) ⊎ First m
  first_link zero = inl (unfold clock_below in refl)
  first_link (suc m) = ⊎_elim
      (λ c. by_cases (dec_lt (link_clock sys s m) (clock_below sys s p m))
      (λ l. inr (first_new m c.0 (c.1 ∙ omega arith) l))
      (λ l. let e : clock_below sys s p (suc m) ≡ clock_below sys s p m = c.1 ∙ omega arith in
      ⊎_elim (λ h. inl (e ∙ h)) (λ f. inr (first_kept m e (λ t. omega arith) f)) (first_link m)))
      (λ c. ⊎_elim (λ h. inl (c.1 ∙ h)) (λ f. inr (first_kept m c.1 (λ t. absurd (c.0 t)) f)) (first_link m))
      (clock_suc m)

  -- Where no event is safe, the clock is the horizon or the floor of an empty in-link.
  pub idle_clock : p < sys.processes → ((e : Entry C) → ¬ (Safe sys s p e)) → (v : ℕ) → v ≤ sys.horizon
      → ((k : ℕ) → k < sys.links → v ≤ s.floor k) → v ≤ clock sys s p
  idle_clock q idle v b f = ⊎_elim (λ h. rw h b) (λ o. go o (waiting sys s o.i) refl) (first_link sys.links)
    where
      go : (o : First sys.links) (w : Option (Event C)) → waiting sys s o.i ≡ w → v ≤ clock sys s p
      go o None e = let d = due_none (s.floor o.i) e in let g = f o.i o.below in let j = o.is in omega arith
      go o (Some a) e =
          let d : a.time ≡ clock sys s p = sym (due_some (s.floor o.i) e) ∙ o.is in
          absurd (idle (entry o.i a) (record { is_link = o.below; is_process = q; mine = o.mine; waits = e; soon = rw d o.soon; sure = rw d o.first }))
