-- A layer of delays: what a fresh link of it is below, and how it begins.
use Rattle.std.proofs.Common.{◌≡◌, ℕ, ◌<◌, ◌≤◌, List, [], ◌∷◌, map, length, replicate, None, refl, ap, ◌∙◌, arith}
use Rattle.std.proofs.lemmas.List.{length-map, nil_from_length, get_or-replicate}
use Rattle.model.specs.declared.event.Event.{Event}
use Rattle.model.specs.Pile.{Pile, Fresh}
use Rattle.layers.specs.Layer.{Laid}
use Rattle.layers.specs.Delayed.{later, added, delayed}

pub fresh_below : {C : Type 0} (m : Pile C) (extra : List ℕ) (k : ℕ) → Fresh (delayed m extra) k → Fresh m k
fresh_below m extra k h = record {
  empty = nil_from_length (m.waiting k) (omega (arith, length-map (m.waiting k) (later (added m extra k)), ap length h.empty));
  floor = omega (arith, h.floor);
}

module _ {C : Type 0} where
  later_none : (es : List (Event C)) → map (later 0) es ≡ es
  later_none [] = refl
  later_none (e ∷ es) =
      ap (λ time. record { time = time; cargo = e.cargo } ∷ map (later 0) es) (omega arith)
      ∙ ap (λ rest. e ∷ rest) (later_none es)

  pub laid : (m : Pile C) → m.count ≤ 128 → Laid None m (delayed m (replicate 128 0))
  laid m few =
      let nothing : (k : ℕ) → k < m.count → added m (replicate 128 0) k ≡ 0 =
      λ k l. omega (arith, get_or-replicate {A = ℕ} 128 k 0 0 (omega arith)) in
      record {
        count = refl;
        waiting = λ k l. ap (λ by. map (later {C = C} by) (m.waiting k)) (nothing k l) ∙ later_none (m.waiting k);
        floor = λ k l. omega (arith, nothing k l);
        delay = λ k l. omega (arith, nothing k l);
        free = λ k l. refl;
        capacity = λ k l. refl;
        quotas = λ k l. refl;
      }
