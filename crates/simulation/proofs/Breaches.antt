-- When a sending is a breach, and which.
use Rattle.std.proofs.Common.{◌≡◌, ℕ, ◌+◌, ◌≤◌, Bool, true, false, cond, ltb, ◌⊎◌, Some, None, Option, sym, refl, ap, ◌∙◌, inl, inr, ⊎_elim, arith, ltb-false, ltb-true}
use Rattle.model.specs.declared.refusal.Breach.{Breach}
use Rattle.model.specs.declared.refusal.Cause.{Cause}
use Rattle.model.specs.declared.refusal.Cause.TheVariants.{Early, TooFar, Overtaking}
use Rattle.model.specs.Lists.{then}
use Rattle.model.specs.Pile.{last_time}
use Rattle.simulation.specs.Net.{Outgoing, cause_of, breach_of}
use Rattle.simulation.proofs.Tests.{none_is_some, some_same}

-- What a sending keeps that is no breach.
pub record Keeps {C : Type 0} (earliest : ℕ) (delays bounds : ℕ → ℕ) (x : Outgoing C) : Type 0 where
  pub ahead : earliest ≤ x.time
  pub near : x.time ≤ last_time
  pub behind : bounds x.link ≤ x.time + delays x.link

-- The first of three causes whose test holds.
abbrev first_cause : Bool → Bool → Bool → Option Cause
first_cause early far low = cond early (Some Early) (cond far (Some TooFar) (cond low (Some Overtaking) None))

-- No cause: all three tests fail.
cause_none : (a b c : Bool) → first_cause a b c ≡ None → (a ≡ false) × (b ≡ false) × (c ≡ false)
cause_none true b c e = none_is_some (sym e)
cause_none false true c e = none_is_some (sym e)
cause_none false false true e = none_is_some (sym e)
cause_none false false false e = (refl, refl, refl)

-- A cause: one of the three tests holds.
cause_some : (a b c : Bool) (d : Cause) → first_cause a b c ≡ Some d → (a ≡ true) ⊎ ((b ≡ true) ⊎ (c ≡ true))
cause_some true b c d e = inl refl
cause_some false true c d e = inr (inl refl)
cause_some false false true d e = inr (inr refl)
cause_some false false false d e = none_is_some e

-- The last test does not change which cause it is, where both tests find one.
cause_same : (a b c c' : Bool) (d d' : Cause) → first_cause a b c ≡ Some d → first_cause a b c' ≡ Some d' → d ≡ d'
cause_same true b c c' d d' e f = some_same e f
cause_same false true c c' d d' e f = some_same e f
cause_same false false true true d d' e f = some_same e f
cause_same false false true false d d' e f = none_is_some f
cause_same false false false c' d d' e f = none_is_some e

module _ {C : Type 0} (p earliest : ℕ) (delays bounds : ℕ → ℕ) where
  -- The cause for which x is a breach, if it is one.
  abbrev cause : Outgoing C → Option Cause
  cause x = cause_of earliest x.time (x.time + delays x.link) (bounds x.link)

  -- The breach that p makes by sending x.
  abbrev as_breach : Outgoing C → Cause → Breach
  as_breach x c = record { process = p; link = x.link; time = x.time; cause = c }

  -- Where there is no breach, what is sent keeps to the rules.
  pub breach_none : (o : Option (Outgoing C)) → breach_of p earliest delays bounds o ≡ None → (x : Outgoing C) → o ≡ Some x
      → Keeps earliest delays bounds x
  breach_none None q x e = none_is_some e
  breach_none (Some y) q x e =
      let z : y ≡ x = cc in
      let r = cause_none (ltb y.time earliest) (ltb last_time y.time) (ltb (y.time + delays y.link) (bounds y.link)) (go (cause y) q) in
      rw (← z) (record {
        ahead = ltb-false y.time earliest r.0;
        near = ltb-false last_time y.time r.1;
        behind = ltb-false (y.time + delays y.link) (bounds y.link) r.2;
      })
    where
      go : (c : Option Cause) → then c (λ d. Some (as_breach y d)) ≡ None → c ≡ None
      go None f = refl
      go (Some d) f = none_is_some (sym f)

  -- A breach: what was sent, and that it does not keep to the rules.
  pub record Broken (o : Option (Outgoing C)) (b : Breach) : Type 0 where
    pub x : Outgoing C
    pub sends : o ≡ Some x
    pub breaks : Keeps earliest delays bounds x → ⊥
    pub c : Cause
    pub by : cause x ≡ Some c
    pub is : as_breach x c ≡ b

  -- What a breach is.
  pub breach_some : (o : Option (Outgoing C)) (b : Breach) → breach_of p earliest delays bounds o ≡ Some b → Broken o b
  breach_some None b q = none_is_some q
  breach_some (Some y) b q = go (cause y) refl q
    where
      broken : (d : Cause) → cause y ≡ Some d → Keeps earliest delays bounds y → ⊥
      broken d r k = ⊎_elim
          (λ t. let l = ltb-true y.time earliest t in let m = k.ahead in omega arith)
          (λ u. ⊎_elim
          (λ t. let l = ltb-true last_time y.time t in let m = k.near in omega arith)
          (λ t. let l = ltb-true (y.time + delays y.link) (bounds y.link) t in let m = k.behind in omega arith)
          u)
          (cause_some (ltb y.time earliest) (ltb last_time y.time) (ltb (y.time + delays y.link) (bounds y.link)) d r)

      go : (c : Option Cause) → cause y ≡ c → then c (λ d. Some (as_breach y d)) ≡ Some b → Broken (Some y) b
      go None r f = none_is_some f
      go (Some d) r f = record { x = y; sends = refl; breaks = broken d r; c = d; by = r; is = some_same refl f }

-- The bound counts only on the link sent on.
pub breach_bounds : {C : Type 0} (p earliest : ℕ) (delays f h : ℕ → ℕ) (o : Option (Outgoing C))
    → ((x : Outgoing C) → o ≡ Some x → f x.link ≡ h x.link)
    → breach_of p earliest delays f o ≡ breach_of p earliest delays h o
breach_bounds p earliest delays f h None s = refl
breach_bounds p earliest delays f h (Some y) s =
    ap (λ (b : ℕ). then (cause_of earliest y.time (y.time + delays y.link) b) (λ c. Some (record { process = p; link = y.link; time = y.time; cause = c }))) (s y refl)

-- Breaches of one sending by two bounds are the same.
pub breach_same : {C : Type 0} (p earliest : ℕ) (delays delays' f h : ℕ → ℕ) (o : Option (Outgoing C)) (b d : Breach)
    → ((x : Outgoing C) → o ≡ Some x → delays' x.link ≡ delays x.link)
    → breach_of p earliest delays f o ≡ Some b → breach_of p earliest delays' h o ≡ Some d → b ≡ d
breach_same p earliest delays delays' f h o b d s q r =
    let B = breach_some p earliest delays f o b q in
    let D = breach_some p earliest delays' h o d r in
    let one : B.x ≡ D.x = some_same B.sends D.sends in
    let x = B.x in
    let t = D.by in
    let by : cause_of earliest x.time (x.time + delays x.link) (h x.link) ≡ Some D.c =
    ap (λ (n : ℕ). cause_of earliest x.time (x.time + n) (h x.link)) (sym (s x B.sends))
    ∙ ap (λ (y : Outgoing _). cause_of earliest y.time (y.time + delays' y.link) (h y.link)) one ∙ t in
    let c = cause_same (ltb x.time earliest) (ltb last_time x.time)
    (ltb (x.time + delays x.link) (f x.link)) (ltb (x.time + delays x.link) (h x.link)) B.c D.c B.by by in
    sym B.is ∙ ap (λ (z : Cause). record { process = p; link = x.link; time = x.time; cause = z }) c
    ∙ ap (λ (y : Outgoing _). record { process = p; link = y.link; time = y.time; cause = D.c }) one ∙ D.is
