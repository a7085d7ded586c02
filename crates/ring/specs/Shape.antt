-- The shape of a ring: how the slots are shared out, and where a link's events lie.
use Rattle.std.specs.Prelude.{ℕ, ◌+◌, ◌-◌, ◌*◌, ◌<◌, ◌≤◌, cond, List, nat_lt, slice_index_or}
use Rattle.model.specs.Pile.{last_time}
use Rattle.ring.specs.declared.lane.Lane.{Lane}

-- A lane on which nothing was put.
abbrev pub fresh : Lane
fresh = record { head = 0; len = 0; floor = 0 }

-- The lane of the link k.
abbrev pub row : List Lane → ℕ → Lane
row lanes k = slice_index_or lanes k fresh

-- The head is a place of the part, the events fit into the part, and the floor is a time.
abbrev pub Within : ℕ → Lane → Type 0
Within size lane = (lane.head < size) × (lane.len ≤ size) × (lane.floor ≤ last_time)

-- The place that lies n places after the head, round the end of a part of the given size.
abbrev pub around : ℕ → ℕ → ℕ → ℕ
around size head n = cond (nat_lt (head + n) size) (head + n) (head + n - size)

-- The slot that lies n places after the head of the link k.
abbrev pub spot : ℕ → ℕ → ℕ → ℕ → ℕ
spot size k head n = k * size + around size head n
