-- The test of a link from outside, and the opening events that are put or not.
use Rattle.std.proofs.Common.{◌≡◌, ℕ, ◌+◌, ◌<◌, true, false, ◌&&◌, ltb, List, [], ◌∷◌, ◌++◌, length, get_or, take, drop, Some, None, Option, sym, refl, ap, ◌∙◌, subst, ⊎_elim, take-append-drop}
use Rattle.std.proofs.lemmas.List.{take_more, at_drop_more}
use Rattle.std.proofs.lemmas.Bool.{and_parts, and_from, cases_lt, lt-ltb, ltb-true, le-ltb, true≢false}
use Rattle.model.specs.declared.link.Link.{Link}
use Rattle.model.specs.declared.opening.Opening.{Opening}
use Rattle.model.specs.declared.refusal.Unprepared.{Unprepared}
use Rattle.model.specs.Lists.{at, then, is_none}
use Rattle.model.specs.Linking.{PutDone}
use Rattle.model.specs.Pile.{Pile}
use Rattle.model.specs.Shape.{Shape, source}
use Rattle.model.proofs.Places.{at_read, at_past}
use Rattle.simulation.specs.Prepare.{Outside, Opens, OpeningFails}
use Rattle.kernel.specs.Preparing.{outside}

module _ (plan : Shape) (k : ℕ) where
  -- A link that is there comes from outside if it has no source.
  pub outside_is : (l : Link) → at plan.links k ≡ Some l → outside plan k ≡ is_none l.from
  outside_is l e = ⊎_elim
      (λ short. ap (λ b. b && is_none (source plan k)) (lt-ltb k (length plan.links) short) ∙ ap (λ o. is_none (then o (λ x. x.from))) e)
      (λ past. absurd (true≢false (ap is_none (sym (at_past plan.links k past) ∙ e))))
      (cases_lt k (length plan.links))

  -- One that is not there does not.
  pub outside_none : at plan.links k ≡ None → outside plan k ≡ false
  outside_none e = ⊎_elim
      (λ short. absurd (there short))
      (λ past. ap (λ b. b && is_none (source plan k)) (le-ltb k (length plan.links) past))
      (cases_lt k (length plan.links))
    where
      there : k < length plan.links → ⊥
      there short = true≢false (ap is_none (sym e ∙ at_read plan.links k (record { from = None; to = 0; delay = 0 }) short))

  -- Of a link that is there, only the source is tested.
  pub outside_test : k < length plan.links → outside plan k ≡ is_none (source plan k)
  outside_test short = ap (λ b. b && is_none (source plan k)) (lt-ltb k (length plan.links) short)

  no_source : (o : Option ℕ) → is_none o ≡ true → o ≡ None
  no_source None e = refl
  no_source (Some p) e = absurd (true≢false (sym e))

  pub outside_sound : outside plan k ≡ true → Outside plan k
  outside_sound e =
      let both = and_parts (ltb k (length plan.links)) (is_none (source plan k)) e in
      (ltb-true k (length plan.links) both.0, no_source (source plan k) both.1)

  pub outside_not : outside plan k ≡ false → ¬ (Outside plan k)
  outside_not e (short, none) =
      true≢false (sym (and_from (ltb k (length plan.links)) (is_none (source plan k)) (lt-ltb k (length plan.links) short) (ap is_none none)) ∙ e)

module _ {C : Type 0} (plan : Shape) where
  opens_last : (os : List (Opening C)) (o : Opening C) (m l n : Pile C) → Opens plan os m l → Outside plan o.link
      → PutDone l o.link o.time o.cargo n → Opens plan (os ++ (o ∷ [])) m n
  opens_last [] o m l n Opens.no_more from put = Opens.puts from put Opens.no_more
  opens_last (x ∷ os) o m l n (Opens.puts a b rest) from put = Opens.puts a b (opens_last os o _ l n rest from put)

  -- One opening event more is put.
  pub opens_more : (os : List (Opening C)) (i : ℕ) (o : Opening C) (m l n : Pile C) → o ≡ get_or os i o → i < length os → Opens plan (take i os) m l
      → Outside plan o.link → PutDone l o.link o.time o.cargo n → Opens plan (take (i + 1) os) m n
  opens_more os i o m l n is short opens from put =
      subst (λ x. Opens plan x m n) (ap (λ x. take i os ++ (x ∷ [])) is ∙ sym (take_more os i o short)) (opens_last (take i os) o m l n opens from put)

  fails_after : (os ps : List (Opening C)) (m l n : Pile C) (why : Unprepared) → Opens plan os m l → OpeningFails plan ps l why n → OpeningFails plan (os ++ ps) m why n
  fails_after [] ps m l n why Opens.no_more fails = fails
  fails_after (x ∷ os) ps m l n why (Opens.puts a b rest) fails = OpeningFails.later a b (fails_after os ps _ l n why rest fails)

  -- The next opening event is not put.
  pub fails_at : (os : List (Opening C)) (i : ℕ) (o : Opening C) (m l n : Pile C) (why : Unprepared) → o ≡ get_or os i o → i < length os
      → Opens plan (take i os) m l → OpeningFails plan (o ∷ drop (i + 1) os) l why n → OpeningFails plan os m why n
  fails_at os i o m l n why is short opens fails =
      let rest = ap (λ x. x ∷ drop (i + 1) os) is ∙ sym (at_drop_more (λ x. x) os i o short) in
      subst (λ x. OpeningFails plan x m why n) (ap (λ x. take i os ++ x) rest ∙ take-append-drop i os)
      (fails_after (take i os) (o ∷ drop (i + 1) os) m l n why opens fails)

  -- The links stay as many.
  pub opens_count : (os : List (Opening C)) (m n : Pile C) → Opens plan os m n → n.count ≡ m.count
  opens_count [] m n Opens.no_more = refl
  opens_count (o ∷ os) m n (Opens.puts a b rest) = opens_count os _ n rest ∙ b.steady.count
