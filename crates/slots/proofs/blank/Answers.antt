-- The chain gives one unread event for each number below `count`.
use Rattle.std.proofs.Common.{ℕ, refl, rules, arith}
use Rattle.std.specs.List.{range_with_len}
use Rattle.std.proofs.lemmas.Iterator.{YieldsList-from_range, YieldsList-from_map, items_from_collect}
use Rattle.std.proofs.lemmas.List.FromFn.{length-range_with_len}
use Rattle.std.proofs.lemmas.Simd.{splat_is_map}
use Rattle.slots.specs.Empty.{unread}
use Rattle.slots.proofs.blank.Goals as goal

pub returns : goal.returns
returns g c =
    let n = c.args.count in
    let event = unread c.args.cargo in
    rw (splat_is_map (range_with_len 0 n) n event (length-range_with_len 0 n))
    (items_from_collect _ c.collect.ensures.ran
    (YieldsList-from_map _ (λ (i : ℕ). event) (YieldsList-from_range 0 n n (cc) (omega arith)) refl
    (λ x r q k. search rules)))
