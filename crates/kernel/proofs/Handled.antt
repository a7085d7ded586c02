-- What a process does with the safe event, as the code runs it, is what its rule says.
use Rattle.std.proofs.Common.{◌≡◌, ℕ, ◌+◌, List, Some, None, Ok, Err, Option, sym, ap, ◌∙◌}
use Rattle.model.specs.declared.event.Event.{Event}
use Rattle.model.specs.declared.sending.Sending.{Sending}
use Rattle.model.specs.declared.refusal.Breach.{Breach}
use Rattle.model.specs.Lists.{place_of}
use Rattle.model.specs.Pile.{Pile}
use Rattle.model.specs.Shape.{Shape, in_links, out_links}
use Rattle.simulation.specs.Net.{Program, outgoing, breach_of, handle}
use Rattle.simulation.specs.Step.{Sent}
use Rattle.kernel.specs.declared.sending.Going.{Going}
use Rattle.kernel.specs.Judging.{judged, Gone}
use Rattle.kernel.proofs.Judged.{as_outgoing, lets, breaks}

-- What is put is what goes out.
pub sent_gone : {C : Type 0} (m n : Pile C) (x : Option (Going C)) → Gone m x n → Sent m (as_outgoing x) n
sent_gone m n None done = done
sent_gone m n (Some x) done = done

module _ {C P : Type 0} (g : Program C P) (plan : Shape) (m : Pile C) (p : ℕ) (s : P) (i : ℕ) (e : Event C) where
  -- A run of the rule: at which port, with which lookahead, over which out-links, and what it answered.
  pub record Ran (port ahead : ℕ) (ks : List ℕ) (next : P) (o : Option (Sending C)) : Type 0 where
    pub at_port : port ≡ place_of i (in_links plan p)
    pub answer : ◌≡◌ {A = P × Option (Sending C)} (next, o) (g.rule s port e.time e.cargo)
    pub reads : ahead ≡ g.lookahead s
    pub outs : ks ≡ out_links plan p

  module _ (port ahead : ℕ) (ks : List ℕ) (next : P) (o : Option (Sending C)) (ran : Ran port ahead ks next o) where
    answered : ◌≡◌ {A = P × Option (Sending C)} (next, o) (g.rule s (place_of i (in_links plan p)) e.time e.cargo)
    answered = ran.answer ∙ ap (λ a. g.rule s a e.time e.cargo) ran.at_port

    pub next_is : next ≡ (handle g plan p s i e).0
    next_is = ap (λ a. a.0) answered

    sent_is : outgoing plan p o ≡ (handle g plan p s i e).1
    sent_is = ap (λ a. outgoing plan p a.1) answered

    broken_is : breach_of p (e.time + ahead) m.delay m.floor (outgoing plan p o)
        ≡ breach_of p (e.time + g.lookahead s) m.delay m.floor (handle g plan p s i e).1
    broken_is =
        ap (λ a. breach_of p (e.time + a) m.delay m.floor (outgoing plan p o)) ran.reads
        ∙ ap (breach_of p (e.time + g.lookahead s) m.delay m.floor) sent_is

    -- A breach that is told.
    pub broke : (b : Breach) → judged m p ks (e.time + ahead) o ≡ Err b
        → breach_of p (e.time + g.lookahead s) m.delay m.floor (handle g plan p s i e).1 ≡ Some b
    broke b is =
        sym broken_is ∙ breaks m plan p (e.time + ahead) o b (ap (λ l. judged m p l (e.time + ahead) o) (sym ran.outs) ∙ is)

    -- What is let go.
    pub went : (x : Option (Going C)) → judged m p ks (e.time + ahead) o ≡ Ok x
        → (breach_of p (e.time + g.lookahead s) m.delay m.floor (handle g plan p s i e).1 ≡ None)
        × (as_outgoing x ≡ (handle g plan p s i e).1)
    went x is =
        let l = lets m plan p (e.time + ahead) o x (ap (λ l. judged m p l (e.time + ahead) o) (sym ran.outs) ∙ is) in
        (sym broken_is ∙ l.kept, sym l.out ∙ sent_is)
