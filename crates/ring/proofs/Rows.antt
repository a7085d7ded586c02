-- What a write to a link's row does to the table.
use Rattle.std.proofs.Common.{◌≡◌, ℕ, ◌<◌, ◌≢◌, List, length, set, refl, ◌∙◌, arith}
use Rattle.std.proofs.lemmas.List.{length-set, get_or-set_same, get_or-set_other}
use Rattle.model.specs.declared.event.Event.{Event}
use Rattle.model.specs.Linking.{Steady}
use Rattle.slots.proofs.Tables.{table_set}
use Rattle.ring.specs.declared.lane.Lane.{Lane}
use Rattle.ring.specs.declared.store.Ring.{Ring}
use Rattle.ring.specs.Shape.{Within, fresh, row}
use Rattle.ring.specs.Meaning.{pile_of, meaning_of}

module _ {C : Type 0} (r : Ring C) (k : ℕ) (lane : Lane) where
  pub row_same : k < r.links → row (set r.lanes k lane) k ≡ lane
  row_same l = get_or-set_same r.lanes k lane fresh (omega (arith, r.rows, r.few))

  pub row_other : (j : ℕ) → j ≢ k → row (set r.lanes k lane) j ≡ row r.lanes j
  row_other j ne = get_or-set_other r.lanes k j lane fresh ne

  pub rows_set : length (set r.lanes k lane) ≡ 128
  rows_set = length-set r.lanes k lane ∙ r.rows

  pub within_set : Within r.size lane → (j : ℕ) → j < r.links → Within r.size (row (set r.lanes k lane) j)
  within_set w = table_set (Within r.size) r.lanes r.links k lane fresh r.within w

-- Whatever the slots and the table hold, the settings are the same.
pub steady : {C : Type 0} (r : Ring C) (slots : List (Event C)) (lanes : List Lane)
    → Steady (meaning_of r) (pile_of r.links r.size slots lanes)
steady r slots lanes = record { count = refl; settled = λ j m. record { delay = refl; capacity = refl; quotas = refl } }
