-- What waits on a link, read slot by slot.
use Rattle.std.specs.Prelude.{ℕ, zero, suc, List, [], ◌++◌, take, drop}

module _ {X : Type 0} where
  -- The element of s at the place i, as a list of one; past the end of s, none.
  abbrev pub here : List X → ℕ → List X
  here s i = take 1 (drop i s)

  -- The elements of s at the places f 0, f 1 and on, n of them.
  unfoldable pub walk : List X → (ℕ → ℕ) → ℕ → List X
  walk s f zero = []
  walk s f (suc n) = walk s f n ++ here s (f n)
