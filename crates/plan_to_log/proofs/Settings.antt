-- The settings of a plan suit its links, so no layer refuses them.
use Rattle.std.proofs.Common.{◌≡◌, ℕ, zero, suc, ◌+◌, ◌<◌, ◌≤◌, true, List, [], ◌∷◌, map, length, get_or, drop, set, Some, None, Option, Ok, Err, Result, IsOk, IsSome, refl, sym, ap, ◌∙◌, subst, arith}
use Rattle.std.proofs.lemmas.Bool.{true≢false}
use Rattle.std.proofs.lemmas.List.{at_drop_more}
use Rattle.model.specs.declared.fault.SettingFault.{SettingFault}
use Rattle.model.specs.declared.fault.SettingFault.TheVariants.{NoSuchLink, Unsuitable}
use Rattle.model.specs.declared.link.Link.{Link}
use Rattle.model.specs.declared.plan.Plan.{Plan}
use Rattle.model.specs.Lists.{at}
use Rattle.model.specs.Made.{Made, shape_of}
use Rattle.model.specs.Pile.{Pile}
use Rattle.model.specs.Shape.{Shape, delay_of, within}
use Rattle.simulation.proofs.PlanLimits.{delay_below}
use Rattle.layers.specs.Layer.{Setting}
use Rattle.layers.specs.Delayed.{added, later, DelaySuits}
use Rattle.layers.specs.Rationed.{QuotaSuits}
use Rattle.records.specs.declared.reading.kinds.PlannedLink.{PlannedLink}
use Rattle.plan_to_log.specs.Sensible.{shaped}
use Rattle.plan_to_log.specs.Stack.{delays_from, quotas_from, quota_at, Unset, DelaysWithin, links_in}

-- A layer does not refuse what suits a link that is there.
pub granted : (count k x : ℕ) (suits : Type 0) (table after : List ℕ) (r : Result (Unit {0}) SettingFault) → k < count → suits
    → Setting count suits table k x r after → IsOk r
granted count k x suits table after (Ok done) l s asked = refl
granted count k x suits table after (Err NoSuchLink) l s asked = absurd (omega (arith, asked.0))
granted count k x suits table after (Err Unsuitable) l s asked = absurd (asked.1 s)

-- And where it does not, this is its table.
pub table_set : (count k x : ℕ) (suits : Type 0) (table after : List ℕ) (r : Result (Unit {0}) SettingFault) {done : Unit {0}} → r ≡ Ok done
    → Setting count suits table k x r after → after ≡ set table k x
table_set count k x suits table after r e asked = (subst (λ o. Setting count suits table k x o after) e asked).2

module _ {C : Type 0} (links : ℕ) (m : Pile C) (unset : Unset links m) (k : ℕ) (l : k < links) where
  -- A delay of at most 10,000 suits a link without one.
  pub delay_suits : (extra : List ℕ) (d : ℕ) → d ≤ 10000 → DelaySuits m extra k d
  delay_suits extra d short = record {
    fresh = record {
      empty = ap (map (later (added m extra k))) (unset.fresh k l).empty;
      floor = ap (λ f. f + added m extra k) (unset.fresh k l).floor;
    };
    near = omega (arith, unset.delay k l);
  }

  -- A quota from 1 to 65,535 suits a fresh link.
  pub quota_suits : (left : List ℕ) (q : ℕ) → 1 ≤ q → q ≤ 65535 → QuotaSuits m left k q
  quota_suits left q some small = record {
    fresh = record { empty = (unset.fresh k l).empty; floor = (unset.fresh k l).floor };
    some = some;
    small = small;
  }

-- The link that is planned at a place.
at_link : (ps : List PlannedLink) (n : ℕ) (d : PlannedLink) → n < length ps → at (links_in ps) n ≡ Some (get_or ps n d).link
at_link [] n d l = absurd (omega arith)
at_link (p ∷ ps) zero d l = refl
at_link (p ∷ ps) (suc n) d l = at_link ps n d (omega arith)

-- The delays of a plan are within their limit.
pub delays_within : (horizon processes : ℕ) (ps : List PlannedLink) → within (shaped horizon processes (links_in ps)) ≡ true → DelaysWithin ps
delays_within horizon processes ps ok k d l =
    subst (λ o. delay_of o ≤ 10000) (at_link ps k d l) (delay_below (shaped horizon processes (links_in ps)) ok k)

-- The delay of one link more.
pub delays_next : (ps : List PlannedLink) (i : ℕ) (d : PlannedLink) (table : List ℕ) → i < length ps
    → delays_from i (drop i ps) table ≡ delays_from (i + 1) (drop (i + 1) ps) (set table i (get_or ps i d).link.delay)
delays_next ps i d table l = at_drop_more (λ qs. delays_from i qs table) ps i d l

-- The quota of one link more.
pub quotas_next : (ps : List PlannedLink) (i : ℕ) (d : PlannedLink) (table : List ℕ) → i < length ps
    → quotas_from i (drop i ps) table ≡ quotas_from (i + 1) (drop (i + 1) ps) (quota_at i (get_or ps i d).quota table)
quotas_next ps i d table l = at_drop_more (λ qs. quotas_from i qs table) ps i d l

-- A plan within its limits is made.
pub plan_made : (s : Shape) (r : Option Plan) → within s ≡ true → Made s r → IsSome r
plan_made s None ok made = absurd (true≢false (sym ok ∙ made))
plan_made s (Some plan) ok made = refl

-- And it is as it was planned.
pub plan_says : (s : Shape) {r : Option Plan} {plan : Plan} → r ≡ Some plan → Made s r → shape_of plan ≡ s
plan_says s e made = (subst (Made s) e made).1

-- The same plan, by other names of its parts.
pub shaped_alike : (horizon : ℕ) {n m : ℕ} {ls ks : List Link} → n ≡ m → ls ≡ ks → shaped horizon n ls ≡ shaped horizon m ks
shaped_alike horizon {n} {m} {ls} {ks} e f = ap (λ x. shaped horizon x ls) e ∙ ap (shaped horizon m) f
