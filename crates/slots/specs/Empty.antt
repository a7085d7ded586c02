-- What a store means at first.
use Rattle.std.specs.Prelude.{ℕ, ◌*◌, Bool, ◌&&◌, [], nat_le}
use Rattle.model.specs.declared.event.Event.{Event}
use Rattle.model.specs.Pile.{Pile}

-- Whether n slots can serve so many links: 1 to 128 links, at least 4 slots a link, and at most 65,535 slots.
abbrev pub suitable : ℕ → ℕ → Bool
suitable links n = nat_le 1 links && nat_le links 128 && nat_le (4 * links) n && nat_le n 65535

-- So many links without a delay, on which nothing waits, each with so many places.
abbrev pub empty : {C : Type 0} → ℕ → ℕ → Pile C
empty links places = record {
  count = links;
  waiting = λ k. [];
  floor = λ k. 0;
  delay = λ k. 0;
  free = λ k. places;
  capacity = λ k. places;
  quotas = λ k. [];
}

-- What a slot holds before an event is put there. It is never read.
abbrev pub unread : {C : Type 0} → C → Event C
unread cargo = record { time = 0; cargo = cargo }
