-- What a writer leaves in a caller's buffer.
use Rattle.std.specs.Prelude.{◌≡◌, ℕ, ◌+◌, ◌<◌, ◌≤◌, cond, List, ◌++◌, length, take, drop, is_ok, Some, None, Option, Result}

-- bytes put from a place on: they stand there, and nothing before or after them is changed
pub record Placed (before : List ℕ) (at : ℕ) (bytes : List ℕ) (end : ℕ) (after : List ℕ) : Type 0 where
  pub ends : end ≡ at + length bytes
  pub fits : end ≤ length before
  pub holds : after ≡ take at before ++ (bytes ++ drop end before)

-- bytes that do not fit leave the buffer as it was
pub record Unfit (before : List ℕ) (at : ℕ) (bytes : List ℕ) (after : List ℕ) : Type 0 where
  pub short : length before < at + length bytes
  pub kept : after ≡ before

-- the answer is where the bytes end, or none if they do not fit
abbrev pub Put : List ℕ → ℕ → List ℕ → Option ℕ → List ℕ → Type 0
Put before at bytes (Some end) after = Placed before at bytes end after
Put before at bytes None after = Unfit before at bytes after

-- bytes put behind what is written, which then ends where they end; if they do not fit, its end stays too
abbrev pub Puts : List ℕ → ℕ → List ℕ → Option (Unit {0}) → ℕ → List ℕ → Type 0
Puts before at bytes (Some done) end after = Placed before at bytes end after
Puts before at bytes None end after = Unfit before at bytes after × (end ≡ at)

-- bytes appended to a list if the call succeeds; if it fails, the list stays as it was
abbrev pub Appends : {A B E : Type 0} → List A → List A → Result B E → List A → Type 0
Appends before added result after = after ≡ cond (is_ok result) (before ++ added) before
