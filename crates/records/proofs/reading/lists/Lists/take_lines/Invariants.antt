use Rattle.std.proofs.Common.{◌≡◌, ◌+◌, ◌≤◌, length}
use Rattle.std.specs.Iterator.Adapters.{zip_first, zip_second}
use Rattle.text.specs.Lines.{lines_of, lines_left}
use Rattle.records.specs.Filling.{held, rooms}
use Rattle.records.specs.Lines.{lines_taken}
use Rattle.records.proofs.PlanLines.{Short}
use Rattle.records.proofs.reading.lists.Lists.take_lines.Given as goal

-- What is left to read goes on as the whole began.
abbrev pub invariant-loop-record : goal.invariant-loop-record
invariant-loop-record g l = record {
  can : (goal.iterator-loop-record g).can_next l.record-iterator;
  finite : (goal.iterator-loop-record g).is_finite l.record-iterator;
  goes_on :
      lines_taken g.P.ProcessKind.processed g.P.ProcessKind.loaded (rooms l.initial.self) l.starts (zip_second l.record-iterator).start
      (lines_left (zip_first l.record-iterator)) (held l.self)
      ≡ lines_taken g.P.ProcessKind.processed g.P.ProcessKind.loaded (rooms l.initial.self) l.starts 2 (lines_of l.text) (held l.initial.self);
  room : rooms l.self ≡ rooms l.initial.self;
  short : Short 65536 (lines_left (zip_first l.record-iterator));
  few : (zip_second l.record-iterator).start + length (lines_left (zip_first l.record-iterator)) ≤ 65538;
}
