-- What a field of a record means, one by one.
use Rattle.std.specs.Prelude.{ℕ, zero, suc, ◌+◌, ◌-◌, Bool, false, cond, ◌&&◌, List, length, Some, None, Ok, Err, Option, Result, ◌==◌, nat_eq, nat_le, nat_lt}
use Rattle.std.specs.Option.{ok_or}
use Rattle.std.specs.Result.{result_map_both}
use Rattle.model.specs.Lists.{at, is_none}
use Rattle.model.specs.declared.reading.FieldFault.{FieldFault}
use Rattle.model.specs.declared.reading.Problem.{Problem}
use Rattle.model.specs.declared.reading.Problem.TheVariants.{OutOfRange, UnknownWord, NotNext, Absent}
use Rattle.text.specs.Decimal as decimal
use Rattle.records.specs.Binding.{and_then}
use Rattle.records.specs.Rows.{Cell, faulty, Row, cell}
use Rattle.records.specs.declared.reading.kinds.PlannedLink.{PlannedLink}

-- What the bytes stand for, or what is wrong where they stand for nothing.
abbrev pub made : {A : Type 0} → Problem → Cell → Option A → Result A FieldFault
made problem c x = ok_or x (faulty c problem)

-- A word of a choice.
abbrev pub spelt : {A : Type 0} → (List ℕ → Option A) → Cell → Result A FieldFault
spelt means c = made UnknownWord c (means c.bytes)

-- A number.
abbrev pub counted : Cell → Result ℕ FieldFault
counted c = made OutOfRange c (decimal.number_of c.bytes)

-- A number that passes a test.
abbrev pub tested : Problem → (ℕ → Bool) → Cell → Result ℕ FieldFault
tested fails test c = and_then (λ e. e) (counted c) (λ n. cond (test n) (Ok n) (Err (faulty c fails)))

-- A number from low to high.
abbrev pub ranged : ℕ → ℕ → Cell → Result ℕ FieldFault
ranged low high c = tested OutOfRange (λ n. nat_le low n && nat_le n high) c

-- The next number.
abbrev pub next_of : ℕ → Cell → Result ℕ FieldFault
next_of next c = tested NotNext (λ n. nat_eq n next) c

-- An unused field is empty.
abbrev pub unused : Cell → Result (Unit {0}) FieldFault
unused c = cond (length c.bytes == 0) (Ok tt) (Err (faulty c OutOfRange))

-- So many fields, from this one on, are unused: the first that is filled is the fault.
abbrev pub unused_next : ℕ → ℕ → Row → Result (Unit {0}) FieldFault
unused_next zero field r = Ok tt
unused_next (suc n) field r = and_then (λ e. e) (unused (cell r field)) (λ _. unused_next n (field + 1) r)

-- The fields from this one to the ninth are unused. One below 3 has the bytes of field 3.
abbrev pub unused_from : ℕ → Row → Result (Unit {0}) FieldFault
unused_from field r = unused_next (10 - field) field r

-- The number of one of so many processes.
abbrev pub existing_of : ℕ → Cell → Result ℕ FieldFault
existing_of count c = tested Absent (λ n. nat_lt n count) c

-- The process that a link leads from; none, for outside, where the field is empty.
abbrev pub source_of : ℕ → Cell → Result (Option ℕ) FieldFault
source_of count c = cond (length c.bytes == 0) (Ok None) (result_map_both Some (λ e. e) (existing_of count c))

-- A quota from 1 to 65,535; none where the field is empty.
abbrev pub quota_of : Cell → Result (Option ℕ) FieldFault
quota_of c = cond (length c.bytes == 0) (Ok None) (result_map_both Some (λ e. e) (ranged 1 65535 c))

-- Whether a link is there and leads from outside.
abbrev pub outer : Option PlannedLink → Bool
outer None = false
outer (Some p) = is_none p.link.from

abbrev pub outside_at : List PlannedLink → ℕ → Bool
outside_at links n = outer (at links n)

-- The link of an event: one that leads from outside.
abbrev pub outside_of : List PlannedLink → Cell → Result ℕ FieldFault
outside_of links c = tested Absent (λ n. outside_at links n) c
