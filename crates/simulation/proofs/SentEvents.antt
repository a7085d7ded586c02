-- What is sent on a link: it only grows, its arrivals never fall, and where it comes from.
use Rattle.std.proofs.Common.{◌≡◌, ℕ, suc, ◌+◌, ◌<◌, ◌≤◌, ◌≢◌, ◌⊎◌, List, [], ◌∷◌, length, Some, None, Option, refl, ap, inl, inr, ⊎_elim, arith}
use mathlib.Core.Logic.{by_cases}
use native.Mathlib.Decide.{ℕ_discrete}
use Rattle.model.specs.declared.event.Event.{Event}
use Rattle.model.specs.Lists.{update}
use Rattle.simulation.specs.Net.{Outgoing}
use Rattle.simulation.proofs.Breaches.{Keeps}
use Rattle.simulation.proofs.Tests.{if_same, if_other, update_cases}
use Rattle.simulation.proofs.Histories.{nth, ◌⊑◌, same, more, ⊑_trans, nth_cases, nth_below}
use Rattle.simulation.proofs.System.{System, Entry, newest, Rising, taken, answer, arrives, post, sent, last, Fair, Proper}

-- One more is taken from the link of the event.
pub taken_same : {C : Type 0} (k : ℕ) (e : Entry C) (hs : List (Entry C)) → e.link ≡ k → taken k (e ∷ hs) ≡ suc (taken k hs)
unfolding taken
taken_same k e hs h = if_same e.link k (suc (taken k hs)) (taken k hs) h

-- And from no other.
pub taken_other : {C : Type 0} (k : ℕ) (e : Entry C) (hs : List (Entry C)) → e.link ≢ k → taken k (e ∷ hs) ≡ taken k hs
unfolding taken
taken_other k e hs h = if_other e.link k (suc (taken k hs)) (taken k hs) h

-- The newest event arrives last.
rising_newest : {C : Type 0} (ms : List (Event C)) (x : ℕ) (a : Event C) → Rising ms → nth ms x ≡ Some a → a.time ≤ newest 0 ms
unfolding Rising newest
rising_newest [] x a r h = let l = nth_below [] x h in omega arith
rising_newest (m ∷ ms) x a r h = ⊎_elim
    (λ c. let e = ap (λ (y : Event _). y.time) c.1 in omega arith)
    (λ c. let l = rising_newest ms x a r.1 c in omega arith)
    (nth_cases m ms x h)

-- Of two events the later one arrives no sooner.
pub rising_at : {C : Type 0} (ms : List (Event C)) (x y : ℕ) (a b : Event C) → Rising ms → x ≤ y → nth ms x ≡ Some a → nth ms y ≡ Some b
    → a.time ≤ b.time
unfolding Rising newest
rising_at [] x y a b r l h k = let z = nth_below [] x h in omega arith
rising_at (m ∷ ms) x y a b r l h k = ⊎_elim
    (λ c. let e = ap (λ (z : Event _). z.time) c.1 in let n = rising_newest (m ∷ ms) x a r h in omega arith)
    (λ c. let g = nth_below ms y c in ⊎_elim (λ d. let z = d.0 in omega arith) (λ d. rising_at ms x y a b r.1 l d c) (nth_cases m ms x h))
    (nth_cases m ms y k)

-- The newest arrival, with 0 or a delay where there is none.
newest_least : {C : Type 0} (d : ℕ) (ms : List (Event C)) → newest 0 ms ≤ newest d ms
unfolding newest
newest_least d [] = omega arith
newest_least d (m ∷ ms) = omega arith

module _ {C S : Type 0} (sys : System C S) where
  -- What was sent went out on the link k.
  abbrev Posted : ℕ → Option (Outgoing C) → List (Event C) → Type 0
  Posted k o ms = (x : Outgoing C) × (o ≡ Some x) × (x.link ≡ k) × (post sys k o ms ≡ arrives sys k x ∷ ms)

  -- A sending leaves the events of a link, or went out on it.
  pub post_cases : (k : ℕ) (o : Option (Outgoing C)) (ms : List (Event C)) → (post sys k o ms ≡ ms) ⊎ Posted k o ms
  unfolding post
  post_cases k None ms = inl refl
  post_cases k (Some x) ms = by_cases (ℕ_discrete x.link k)
      (λ e. inr (x, refl, e, if_same x.link k (arrives sys k x ∷ ms) ms e))
      (λ d. inl (if_other x.link k (arrives sys k x ∷ ms) ms d))

  -- The events of a link only grow by a sending.
  pub post_⊑ : (k : ℕ) (o : Option (Outgoing C)) (ms : List (Event C)) → ms ⊑ post sys k o ms
  post_⊑ k o ms = ⊎_elim (λ e. rw e same) (λ c. rw c.3 (more same)) (post_cases k o ms)

  -- And by a longer history.
  pub sent_⊑ : (k : ℕ) {hs gs : List (Entry C)} → hs ⊑ gs → sent sys k hs ⊑ sent sys k gs
  unfolding sent
  sent_⊑ k same = same
  sent_⊑ k (more {y = e} {ys = gs} a) = ⊑_trans (sent_⊑ k a) (post_⊑ k (answer sys (sys.source k) gs e) (sent sys k gs))

  -- All that a process did was fair.
  abbrev pub AllFair : ℕ → List (Entry C) → Type 0
  AllFair p gs = (e : Entry C) (hs : List (Entry C)) → e ∷ hs ⊑ gs → Fair sys p hs e

  -- A sending that does not overtake keeps the arrivals rising.
  rising_more : (t k : ℕ) (hs : List (Entry C)) (x : Outgoing C) → x.link ≡ k → Keeps t sys.delay (λ j. last sys j hs) x
      → Rising (sent sys k hs) → Rising (arrives sys k x ∷ sent sys k hs)
  unfolding Rising
  rising_more t k hs x l a r =
      let b : last sys k hs ≤ x.time + sys.delay k = rw l at a.behind in
      let n = newest_least (sys.delay k) (sent sys k hs) in
      (omega arith, r)

  -- So the arrivals on its links never fall.
  pub sent_rising : Proper sys → (k : ℕ) → k < sys.links → (gs : List (Entry C)) → AllFair (sys.source k) gs → Rising (sent sys k gs)
  unfolding sent
  sent_rising ok k i [] f = ok.rising k i
  sent_rising ok k i (e ∷ hs) f =
      let r = sent_rising ok k i hs (λ e' hs' l. f e' hs' (more l)) in
      ⊎_elim (λ p. rw p r)
      (λ c. rw c.3 (rising_more (e.event.time + sys.lookahead (sys.source k)) k hs c.0 c.2 (f e hs same c.0 c.1) r))
      (post_cases k (answer sys (sys.source k) hs e) (sent sys k hs))

  -- The last arrival does not fall by it.
  last_more : (k : ℕ) (hs : List (Entry C)) (e : Entry C) → Fair sys (sys.source k) hs e → last sys k hs ≤ last sys k (e ∷ hs)
  unfolding sent newest
  last_more k hs e f = ⊎_elim
      (λ p. rw p (omega arith))
      (λ c. let b : last sys k hs ≤ c.0.time + sys.delay k = rw c.2 at (f c.0 c.1).behind in rw c.3 b)
      (post_cases k (answer sys (sys.source k) hs e) (sent sys k hs))

  -- Nor does the last arrival.
  pub last_⊑ : (k : ℕ) {hs gs : List (Entry C)} → hs ⊑ gs → AllFair (sys.source k) gs → last sys k hs ≤ last sys k gs
  last_⊑ k same f = omega arith
  last_⊑ k (more {y = e} {ys = us} a) f =
      let l = last_⊑ k a (λ e' hs' l. f e' hs' (more l)) in
      let m = last_more k us e (f e us same) in
      omega arith

  -- The event b on the link k was sent at an event beyond hs.
  pub record Origin (k : ℕ) (hs gs : List (Entry C)) (b : Event C) : Type 0 where
    pub e : Entry C
    pub us : List (Entry C)
    pub beyond : hs ⊑ us
    pub within : e ∷ us ⊑ gs
    pub x : Outgoing C
    pub by : answer sys (sys.source k) us e ≡ Some x
    pub on : x.link ≡ k
    pub is : arrives sys k x ≡ b

  -- An origin stays one as the history grows.
  origin_more : (k : ℕ) (hs us : List (Entry C)) (e : Entry C) (b : Event C) → Origin k hs us b → Origin k hs (e ∷ us) b
  origin_more k hs us e b o = record { e = o.e; us = o.us; beyond = o.beyond; within = more o.within; x = o.x; by = o.by; on = o.on; is = o.is }

  -- What stands on a link beyond what hs sent was sent beyond hs.
  pub origin : (k : ℕ) {hs gs : List (Entry C)} → hs ⊑ gs → (n : ℕ) (b : Event C) → length (sent sys k hs) ≤ n → nth (sent sys k gs) n ≡ Some b
      → Origin k hs gs b
  unfolding sent
  origin k {hs = hs} same n b l h = let g = nth_below (sent sys k hs) n h in absurd (omega arith)
  origin k {hs = hs} (more {y = e} {ys = us} a) n b l h = ⊎_elim
      (λ p. origin_more k hs us e b (origin k a n b l (rw p at h)))
      (λ c. ⊎_elim
      (λ d. record { e = e; us = us; beyond = a; within = same; x = c.0; by = c.1; on = c.2; is = d.1 })
      (λ g. origin_more k hs us e b (origin k a n b l g))
      (nth_cases (arrives sys k c.0) (sent sys k us) n (rw c.3 at h)))
      (post_cases k (answer sys (sys.source k) us e) (sent sys k us))

  -- As p takes e, it sends x on the link k.
  pub record Sends (h : ℕ → List (Entry C)) (p : ℕ) (e : Entry C) (k : ℕ) : Type 0 where
    pub x : Outgoing C
    pub by : answer sys p (h p) e ≡ Some x
    pub from : sys.source k ≡ p
    pub is : sent sys k (update h p (e ∷ h p) (sys.source k)) ≡ arrives sys k x ∷ sent sys k (h (sys.source k))

  -- As p takes e, what is sent on the link k stays, or p sends on it.
  pub sent_cases : (h : ℕ → List (Entry C)) (p : ℕ) (e : Entry C) (k : ℕ)
      → (sent sys k (update h p (e ∷ h p) (sys.source k)) ≡ sent sys k (h (sys.source k))) ⊎ Sends h p e k
  unfolding sent
  sent_cases h p e k = ⊎_elim
      (λ c. ⊎_elim
      (λ d. inl (rw (c.1, c.0) (rw c.0 at d)))
      (λ d. inr (record { x = d.0; by = rw c.0 at d.1; from = c.0; is = rw (c.1, c.0) (rw c.0 at d.3) }))
      (post_cases k (answer sys (sys.source k) (h p) e) (sent sys k (h p))))
      (λ c. inl (ap (sent sys k) c.1))
      (update_cases h p (sys.source k) (e ∷ h p))
