-- A layer of quotas: what it makes of a put and of a take, and how it begins.
use Rattle.std.proofs.Common.{◌≡◌, ℕ, ◌+◌, ◌-◌, ◌<◌, min, ◌≢◌, List, ◌∷◌, length, get_or, set, replicate, Some, Ok, Err, Result, true, sym, refl, ap, ◌∙◌, ⊎_elim, arith}
use Rattle.std.proofs.lemmas.List.{length_push, get_or-replicate, get_or-set_same, get_or-set_other}
use Rattle.std.proofs.lemmas.Bool.{cases_eq}
use Rattle.std.specs.Result.{is_ok}
use Rattle.model.specs.declared.event.Event.{Event}
use Rattle.model.specs.declared.fault.LinkFault.{LinkFault}
use Rattle.model.specs.Sums.{largest}
use Rattle.model.specs.Pile.{Pile, Sound}
use Rattle.model.specs.Linking.{Steady, Apart, Put, PutDone, TakeDone}
use Rattle.layers.specs.Layer.{Laid}
use Rattle.layers.specs.Rationed.{largest_quota, quota_of, unused, rationed}
use Rattle.layers.specs.Soundness.{within_quota}

-- The links m become n, and x is left of the quota of the link k, where that quota stays.
module _ {C : Type 0} (m n : Pile C) (left : List ℕ) (k x : ℕ) (away : Apart m n k)
    (same : quota_of n (set left k x) k ≡ quota_of m left k) where
  -- Then all quotas stay.
  quota_same : (j : ℕ) → j < m.count → quota_of n (set left k x) j ≡ quota_of m left j
  quota_same j l = ⊎_elim
      (λ e. ap (λ i. quota_of n (set left k x) i) e ∙ same ∙ ap (λ i. quota_of m left i) (sym e))
      (λ ne. omega (arith, get_or-set_other left k j x 0 ne, ap length (away.waiting j l ne)))
      (cases_eq j k)

  steady : Steady m n → Steady (rationed m left) (rationed n (set left k x))
  steady h = record {
    count = h.count;
    settled = λ j l. let s = h.settled j l in record {
      delay = s.delay;
      capacity = omega (arith, s.capacity, quota_same j l);
      quotas = ap (λ q. Some q ∷ n.quotas j) (quota_same j l) ∙ ap (λ qs. Some (quota_of m left j) ∷ qs) s.quotas;
    };
  }

  apart : Apart (rationed m left) (rationed n (set left k x)) k
  apart = record { waiting = away.waiting; floor = away.floor }

-- What is not refused is done.
pub not_refused : {C : Type 0} {m n : Pile C} {k t : ℕ} {c : C} (r : Result (Unit {0}) LinkFault)
    → true ≡ is_ok r → Put m k t c r n → PutDone m k t c n
not_refused (Ok done) e h = h
not_refused (Err fault) e h = cc

module _ {C : Type 0} (m n : Pile C) (left : List ℕ) (k x : ℕ) (here : k < length left) where
  pub put_done : (t : ℕ) (c : C) → x ≡ get_or left k 0 - 1 → unused m left k ≢ 0 → PutDone m k t c n
      → PutDone (rationed m left) k t c (rationed n (set left k x))
  put_done t c one-used some h =
      let one_more : length (n.waiting k) ≡ length (m.waiting k) + 1 =
      ap length h.waiting ∙ length_push (m.waiting k) (record { time = t + m.delay k; cargo = c }) in
      let same : quota_of n (set left k x) k ≡ quota_of m left k = omega (arith, get_or-set_same left k x 0 here) in
      record {
        timely = record { there = h.timely.there; soon = h.timely.soon; behind = h.timely.behind };
        steady = steady m n left k x h.apart same h.steady;
        apart = apart m n left k x h.apart same;
        waiting = h.waiting;
        floor = h.floor;
        free = omega (arith, h.free);
        falls = λ j l ne.
            let f = h.falls j l ne in
            let q = quota_same m n left k x h.apart same j l in
            let w = ap length (h.apart.waiting j l ne) in
            (omega arith, omega arith);
      }

  pub take_done : (e : Event C) → x ≡ min (get_or left k 0 + 1) largest → Sound m → TakeDone m k e n
      → TakeDone (rationed m left) k e (rationed n (set left k x))
  take_done e one-back s h =
      let one_less : length (m.waiting k) ≡ length (n.waiting k) + 1 = omega (arith, ap length h.waiting) in
      let within = within_quota m left s k h.there in
      let same : quota_of n (set left k x) k ≡ quota_of m left k = omega (arith, get_or-set_same left k x 0 here) in
      record {
        there = h.there;
        steady = steady m n left k x h.apart same h.steady;
        apart = apart m n left k x h.apart same;
        waiting = h.waiting;
        floor = h.floor;
        free = omega (arith, h.free);
        rises = λ j l ne.
            let f = h.rises j l ne in
            let q = quota_same m n left k x h.apart same j l in
            let w = ap length (h.apart.waiting j l ne) in
            omega arith;
      }

pub laid : {C : Type 0} (m : Pile C) → Sound m → Laid (Some largest_quota) m (rationed m (replicate 128 largest_quota))
laid m s =
    let all : (k : ℕ) → k < m.count → get_or (replicate 128 largest_quota) k 0 ≡ largest_quota =
    λ k l. get_or-replicate 128 k largest_quota 0 (omega (arith, s.few)) in
    record {
      count = refl;
      waiting = λ k l. refl;
      floor = λ k l. refl;
      delay = λ k l. refl;
      free = λ k l. omega (arith, all k l, s.room k l, s.wide k l);
      capacity = λ k l. omega (arith, all k l, s.wide k l);
      quotas = λ k l. ap (λ q. Some q ∷ m.quotas k) (omega (arith, all k l));
    }
