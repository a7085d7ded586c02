-- What a ring means when it is made.
use Rattle.std.proofs.Common.{◌≡◌, ℕ, zero, suc, ◌/◌, ◌<◌, true, false, List, [], replicate, sym, refl, ◌∙◌, arith}
use Rattle.std.proofs.lemmas.Bool.{cond-true, cond-false}
use Rattle.model.specs.declared.event.Event.{Event}
use Rattle.model.specs.Pile.{Pile}
use Rattle.slots.specs.Empty.{suitable, empty}
use Rattle.slots.proofs.Walks.{walk_none}
use Rattle.ring.specs.Shape.{Within, fresh, row, spot}
use Rattle.ring.specs.Meaning.{pile_of, opened}

-- Every row of a new table is fresh.
pub row_fresh : (n k : ℕ) → row (replicate n fresh) k ≡ fresh
row_fresh zero k = refl
row_fresh (suc n) zero = refl
row_fresh (suc n) (suc k) = row_fresh n k

pub within_fresh : (size k : ℕ) → 0 < size → Within size (row (replicate 128 fresh) k)
within_fresh size k l = rw (row_fresh 128 k) (l, omega arith, omega arith)

module _ {C : Type 0} where
  -- A ring with a new table is empty.
  pub pile_fresh : (links size : ℕ) (slots : List (Event C)) → pile_of links size slots (replicate 128 fresh) ≡ empty links size
  pile_fresh links size slots =
      let new : Pile C = pile_of links size slots (replicate 128 fresh) in
      let none : (k : ℕ) → new.waiting k ≡ [] = λ k. rw (row_fresh 128 k) (walk_none slots (spot size k 0)) in
      let all : (k : ℕ) → new.free k ≡ size = λ k. rw (row_fresh 128 k) (omega arith) in
      λ i. record {
        count = links;
        waiting = λ k. none k i;
        floor = λ k. (row_fresh 128 k i).floor;
        delay = λ k. 0;
        free = λ k. all k i;
        capacity = λ k. size;
        quotas = λ k. [];
      }

  pub opened_all : (links n : ℕ) (slots : List (Event C)) → suitable links n ≡ true
      → pile_of links (n / links) slots (replicate 128 fresh) ≡ opened links n
  opened_all links n slots e = pile_fresh links (n / links) slots ∙ sym (cond-true _ _ _ e)

  pub opened_none : (links n : ℕ) (slots : List (Event C)) → suitable links n ≡ false
      → pile_of 0 0 slots (replicate 128 fresh) ≡ opened links n
  opened_none links n slots e = pile_fresh 0 0 slots ∙ sym (cond-false _ _ _ e)
