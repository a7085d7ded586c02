-- What waits on a link is a queue: what is taken leaves first, and what is sent comes last.
use Rattle.std.proofs.Common.{◌≡◌, ℕ, zero, suc, ◌<◌, ◌≤◌, cond, eqb, ◌≢◌, List, [], ◌∷◌, ◌++◌, reverse, length, drop, Some, None, Option, sym, refl, ap, ◌∙◌, ⊎_elim, arith}
use mathlib.Core.List.{tail}
use mathlib.Core.Logic.{by_cases}
use native.Mathlib.Decide.{ℕ_discrete}
use Rattle.model.specs.declared.event.Event.{Event}
use Rattle.model.specs.Lists.{oldest, update}
use Rattle.simulation.specs.Net.{Outgoing}
use Rattle.simulation.proofs.Tests.{if_same, if_other, if_cases, update_cases}
use Rattle.simulation.proofs.Histories.{⊑_length, nth_below, nth_oldest, drop_more}
use Rattle.simulation.proofs.System.{System, Entry, taken, answer, arrives, post, put_last, without, sent, next, queue, Proper}
use Rattle.simulation.proofs.SentEvents.{post_⊑, post_cases}

-- Dropping one more is dropping the first of the rest.
drop_tail : {A : Type 0} (n : ℕ) (xs : List A) → drop (suc n) xs ≡ tail (drop n xs)
drop_tail zero [] = refl
drop_tail zero (x ∷ xs) = refl
drop_tail (suc n) [] = refl
drop_tail (suc n) (x ∷ xs) = drop_tail n xs

module _ {C S : Type 0} (sys : System C S) where
  -- What waits first is the oldest of the queue.
  pub queue_first : (h : ℕ → List (Entry C)) (k : ℕ) → next sys k (h (sys.source k)) (h (sys.target k)) ≡ oldest (queue sys h k)
  queue_first h k = nth_oldest (sent sys k (h (sys.source k))) (taken k (h (sys.target k)))

  -- No more is taken from a link than was sent on it.
  abbrev pub Enough : (ℕ → List (Entry C)) → Type 0
  Enough h = (k : ℕ) → taken k (h (sys.target k)) ≤ length (sent sys k (h (sys.source k)))

  -- With a sending, what is left after n events has it last.
  drop_post : (k : ℕ) (o : Option (Outgoing C)) (ms : List (Event C)) (n : ℕ) → n ≤ length ms
      → drop n (reverse (post sys k o ms)) ≡ put_last sys k o (drop n (reverse ms))
  unfolding post put_last
  drop_post k None ms n l = refl
  drop_post k (Some x) ms n l = by_cases (ℕ_discrete x.link k)
      (λ e. ap (λ q. drop n (reverse q)) (if_same x.link k (arrives sys k x ∷ ms) ms e) ∙ drop_more (arrives sys k x) ms n l
      ∙ sym (if_same x.link k (drop n (reverse ms) ++ arrives sys k x ∷ []) (drop n (reverse ms)) e))
      (λ d. ap (λ q. drop n (reverse q)) (if_other x.link k (arrives sys k x ∷ ms) ms d)
      ∙ sym (if_other x.link k (drop n (reverse ms) ++ arrives sys k x ∷ []) (drop n (reverse ms)) d))

  -- With one event taken, what is left loses its first.
  drop_without : (k : ℕ) (e : Entry C) (n : ℕ) (q : List (Event C)) → drop (cond (eqb e.link k) (suc n) n) q ≡ without k e (drop n q)
  drop_without k e n q = by_cases (ℕ_discrete e.link k)
      (λ i. ap (λ m. drop m q) (if_same e.link k (suc n) n i) ∙ drop_tail n q ∙ sym (if_same e.link k (tail (drop n q)) (drop n q) i))
      (λ i. ap (λ m. drop m q) (if_other e.link k (suc n) n i) ∙ sym (if_other e.link k (tail (drop n q)) (drop n q) i))

  -- p, with the histories h, takes e, which waits first on its link.
  module _ (ok : Proper sys) (h : ℕ → List (Entry C)) (enough : Enough h) (p : ℕ) (e : Entry C) (is_process : p < sys.processes)
      (mine : sys.target e.link ≡ p) (waits : next sys e.link (h (sys.source e.link)) (h (sys.target e.link)) ≡ Some e.event) where
    -- The histories once e is taken.
    abbrev h' : ℕ → List (Entry C)
    h' = update h p (e ∷ h p)

    -- What it sends is put on its own links.
    pub sent_take : (k : ℕ) → sent sys k (h' (sys.source k)) ≡ post sys k (answer sys p (h p) e) (sent sys k (h (sys.source k)))
    unfolding sent
    sent_take k = ⊎_elim
        (λ c. rw (c.1, c.0))
        (λ c. ap (sent sys k) c.1 ∙ sym (not_posted (answer sys p (h p) e) (λ x w q. c.0 (rw q at (ok.own p is_process (h p) e x w).1))))
        (update_cases h p (sys.source k) (e ∷ h p))
      where
        not_posted : (o : Option (Outgoing C)) → ((x : Outgoing C) → o ≡ Some x → x.link ≢ k)
            → post sys k o (sent sys k (h (sys.source k))) ≡ sent sys k (h (sys.source k))
        not_posted o n = ⊎_elim (λ q. q) (λ c. absurd (n c.0 c.1 c.2)) (post_cases sys k o (sent sys k (h (sys.source k))))

    -- How many events are then taken from k.
    abbrev taken_now : ℕ → ℕ
    taken_now k = cond (eqb e.link k) (suc (taken k (h (sys.target k)))) (taken k (h (sys.target k)))

    -- So the histories say.
    taken_take : (k : ℕ) → taken k (h' (sys.target k)) ≡ taken_now k
    unfolding taken
    taken_take k = ⊎_elim
        (λ c. rw (c.1, c.0))
        (λ c. rw c.1 (sym (if_other e.link k (suc (taken k (h (sys.target k)))) (taken k (h (sys.target k))) (λ q. c.0 (rw (← q) mine)))))
        (update_cases h p (sys.target k) (e ∷ h p))

    -- No more than were sent before.
    take_enough : (k : ℕ) → taken_now k ≤ length (sent sys k (h (sys.source k)))
    take_enough k = ⊎_elim
        (λ c. rw (c.1, ← c.0) (nth_below (sent sys e.link (h (sys.source e.link))) (taken e.link (h (sys.target e.link))) waits))
        (λ c. rw c.1 (enough k))
        (if_cases e.link k (suc (taken k (h (sys.target k)))) (taken k (h (sys.target k))))

    -- Still no more is taken than was sent.
    pub enough_kept : Enough h'
    enough_kept k =
        let t = take_enough k in
        let l = ⊑_length (post_⊑ sys k (answer sys p (h p) e) (sent sys k (h (sys.source k)))) in
        rw (taken_take k, sent_take k) (omega arith)

    -- The event leaves its queue, and what is sent comes last in its own.
    pub queue_take : (k : ℕ) → queue sys h' k ≡ put_last sys k (answer sys p (h p) e) (without k e (queue sys h k))
    queue_take k =
        let n = taken k (h (sys.target k)) in
        let ms = sent sys k (h (sys.source k)) in
        rw (taken_take k, sent_take k)
        (drop_post k (answer sys p (h p) e) ms (taken_now k) (take_enough k)
        ∙ ap (put_last sys k (answer sys p (h p) e)) (drop_without k e n (reverse ms)))
