-- A safe event by its in-port is one by its link.
use Rattle.std.proofs.Common.{◌≡◌, ℕ, ◌<◌, Bool, true, ◌⊎◌, List, length, get_or, Some, None, Option, sym, refl, ap, ◌∙◌, subst, ⊎_elim}
use Rattle.std.proofs.lemmas.Bool.{cases_lt, eq-eqb, eqb-true, true≢false}
use Rattle.model.specs.declared.event.Event.{Event}
use Rattle.model.specs.Lists.{then, is, is_none, oldest}
use Rattle.model.specs.Pile.{Pile}
use Rattle.model.specs.Shape.{Shape, target, in_links}
use Rattle.model.proofs.Places.{at_past}
use Rattle.simulation.specs.View.{Safe, link_clock}
use Rattle.kernel.specs.declared.safety.Safe.{Safe as Found}
use Rattle.kernel.specs.Searching.{SafeAt, SafeOr}
use Rattle.kernel.specs.Stages.{Finds}
use Rattle.kernel.proofs.Selected.{Selects, selects, place_is, same_place}

-- A value that is p, and that there is one.
pub is_that : (p : ℕ) (o : Option ℕ) → is p o ≡ true → o ≡ Some p
is_that p None e = absurd (true≢false (sym e))
is_that p (Some j) e = ap Some (eqb-true j p e)

pub that_is : (p : ℕ) (o : Option ℕ) → o ≡ Some p → is p o ≡ true
that_is p o e = ap (is p) e ∙ eq-eqb p p refl

module _ {C : Type 0} (plan : Shape) (m : Pile C) (p : ℕ) where
  abbrev leads : ℕ → Bool
  leads k = is p (target plan k)

  abbrev ins : List ℕ
  ins = in_links plan p

  all : Selects (length plan.links) leads ins
  all = selects (length plan.links) leads

  -- A link that leads somewhere is there.
  pub there : (j : ℕ) → target plan j ≡ Some p → j < length plan.links
  there j e = ⊎_elim (λ l. l)
      (λ past. absurd (true≢false (ap (λ o. is_none (then o (λ l. Some l.to))) (sym (at_past plan.links j past)) ∙ ap is_none e)))
      (cases_lt j (length plan.links))

  by_link : (a : ℕ) (e : Event C) → SafeAt m plan.horizon ins a e → Safe plan m p (get_or ins a 0) e
  by_link a e s = record {
    leads = is_that p (target plan (get_or ins a 0)) (all.passes a s.within);
    first = s.first;
    soon = s.soon;
    sure = λ j to apart.
        let place = all.has j (there j to) (that_is p (target plan j) to) in
        subst (λ k. (e.time < link_clock m k) ⊎ ((link_clock m k ≡ e.time) × (get_or ins a 0 < k))) place.2
        (s.sure place.0 place.1 (λ same. apart (sym place.2 ∙ ap (λ b. get_or ins b 0) same)));
  }

  by_port : (i : ℕ) (e : Event C) → Safe plan m p i e → (a : ℕ) × SafeAt m plan.horizon ins a e
  by_port i e s =
      let place = all.has i (there i s.leads) (that_is p (target plan i) s.leads) in (
        place.0,
        record {
          within = place.1;
          first = subst (λ k. oldest (m.waiting k) ≡ Some e) (sym place.2) s.first;
          soon = s.soon;
          sure = λ q l apart.
              subst (λ k. (e.time < link_clock m (get_or ins q 0)) ⊎ ((link_clock m (get_or ins q 0) ≡ e.time) × (k < get_or ins q 0)))
              (sym place.2)
              (s.sure (get_or ins q 0) (is_that p (target plan (get_or ins q 0)) (all.passes q l))
              (λ same. apart (same_place ins q place.0 all.rising l place.1 (same ∙ sym place.2))));
        },
      )

  -- What the search by in-ports finds.
  pub found : (o : Option (Found C)) → SafeOr m plan.horizon ins o → Finds plan m p o
  found None none = λ i e s. let at_port = by_port i e s in none at_port.0 e at_port.1
  found (Some x) (s, link) = (
    subst (λ k. Safe plan m p k x.event) (sym link) (by_link x.port x.event s),
    sym (place_is ins x.port x.link all.rising s.within (sym link)),
  )
