-- Lists of link numbers, by place.
use Rattle.std.specs.Prelude.{ℕ, ◌<◌, List, length, slice_index}

-- Every member is below n.
abbrev pub Below : ℕ → List ℕ → Type 0
Below n ks = (a : ℕ) → a < length ks → slice_index ks a < n

-- Each member is above those before it.
abbrev pub Rising : List ℕ → Type 0
Rising ks = (a b : ℕ) → a < b → b < length ks → slice_index ks a < slice_index ks b
