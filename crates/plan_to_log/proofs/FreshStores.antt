-- A store of a plan has its links, fresh and without a delay.
use Rattle.std.proofs.Common.{◌≡◌, ℕ, zero, suc, ◌*◌, ◌/◌, Bool, true, cond, sym, refl, ap, ◌∙◌, subst, mul_comm, mul-le-mul_left, arith}
use Rattle.std.proofs.lemmas.Bool.Decides.{nat_tests}
use Rattle.model.specs.Pile.{Pile}
use Rattle.slots.specs.Empty.{suitable, empty}
use Rattle.plan_to_log.specs.Stack.{Unset}
use Rattle.plan_to_log.specs.Sensible.{PlacesWithin}
use Rattle.ring.specs.Meaning as ring

-- Links on which nothing was put are fresh.
pub empty_unset : {C : Type 0} (links places : ℕ) → Unset links (empty {C = C} links places)
empty_unset links places = record {
  count = refl;
  fresh = λ k l. record { empty = refl; floor = refl };
  delay = λ k l. refl;
}

-- A plan's links and places suit a store, if there is a link.
suits : (links places : ℕ) → PlacesWithin (suc links) places → suitable (suc links) (suc links * places) ≡ true
suits links places w =
    let more = mul-le-mul_left (suc links) w.some in
    let swap = mul_comm 4 (suc links) in
    let a = w.few in
    let b = w.all in
    grind (arith, nat_tests)

-- So a ring has the links of the plan.
pub ring_unset : {C : Type 0} (links places : ℕ) → PlacesWithin links places → Unset links (ring.opened {C = C} links (links * places))
ring_unset zero places w = empty_unset 0 0
ring_unset {C} (suc links) places w =
    let room : ℕ = suc links * places / suc links in
    let made : Bool → Pile C = λ b. cond b (empty (suc links) room) (empty 0 0) in
    subst (λ b. Unset (suc links) (made b)) (sym (suits links places w)) (empty_unset (suc links) room)

-- A ring made for so many links, with so many slots, by other names.
pub ring_made : {C : Type 0} {m : Pile C} {links count slots : ℕ} (places : ℕ) → m ≡ ring.opened count slots → count ≡ links → slots ≡ count * places
    → m ≡ ring.opened links (links * places)
ring_made {C} {m} {links} {count} {slots} places e f h = e ∙ ap (ring.opened count) h ∙ ap (λ n. ring.opened n (n * places)) f
