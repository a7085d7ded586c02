-- The limits of a line of the log.
use Rattle.std.specs.Prelude.{ℕ, Bool, ◌&&◌, nat_lt}
use Rattle.model.specs.declared.record.Record.{Record}

-- Whether a record at a place of its history has a line of at most 32 bytes.
abbrev pub line_within : Record → ℕ → Bool
line_within r n = nat_lt r.process 64 && nat_lt n 65536 && nat_lt r.time 1000000 && nat_lt r.link 128
