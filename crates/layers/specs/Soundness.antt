-- Each layer keeps what every pile keeps.
use Rattle.std.specs.Prelude.{◌≡◌, ℕ, ◌<◌, ◌≤◌, List, map, length}
use Rattle.std.proofs.Common.{ap, arith}
use Rattle.std.proofs.lemmas.List.{length-map, nil_from_length}
use Rattle.model.specs.Pile.{Pile, Sound}
use Rattle.layers.specs.Delayed.{later, added, delayed}
use Rattle.layers.specs.Rationed.{quota_of, rationed}

module _ {C : Type 0} (m : Pile C) where
  pub delayed_sound : (extra : List ℕ) → Sound m → Sound (delayed m extra)
  delayed_sound extra s =
      let as_many : (k : ℕ) → length (map (later (added m extra k)) (m.waiting k)) ≡ length (m.waiting k) =
      λ k. length-map (m.waiting k) (later (added m extra k)) in
      record {
        few = s.few;
        near = λ k l. omega (arith, s.near k l);
        low = λ k l. omega (arith, s.low k l);
        not_none = s.not_none;
        wide = s.wide;
        room = λ k l. omega (arith, s.room k l, as_many k);
        clear = λ none k l.
            s.clear (λ j h. nil_from_length (m.waiting j) (omega (arith, as_many j, ap length (none j h)))) k l;
      }

  -- No more waits than the quota allows.
  pub within_quota : (left : List ℕ) → Sound m → (k : ℕ) → k < m.count → length (m.waiting k) ≤ quota_of m left k
  within_quota left s k l = omega (arith, s.room k l, s.wide k l)

  pub rationed_sound : (left : List ℕ) → Sound m → Sound (rationed m left)
  rationed_sound left s = record {
    few = s.few;
    near = s.near;
    low = s.low;
    not_none = λ k l. omega (arith, s.not_none k l);
    wide = λ k l. omega (arith, s.wide k l);
    room = λ k l. omega (arith, s.room k l, within_quota left s k l);
    clear = λ none k l. omega (arith, s.clear none k l, ap length (none k l));
  }
