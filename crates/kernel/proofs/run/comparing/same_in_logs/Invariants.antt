use Rattle.std.proofs.Common.{◌≡◌, ◌↔◌}
use Rattle.std.specs.Iterator.Adapters.{filter_source, filter_callee}
use Rattle.std.specs.Slice.Iter.{iter_rest}
use Rattle.simulation.specs.View.{history}
use Rattle.kernel.proofs.run.comparing.same_in_logs.Given as goal

-- What is to come is equal exactly when all is; and both logs are filtered by the one test still.
abbrev pub invariant-loop-record : goal.invariant-loop-record
invariant-loop-record l = record {
  to_come : (history l.fn.process (iter_rest (filter_source l.record-iterator)) ≡ history l.fn.process (iter_rest (filter_source l.others)))
      ↔ (history l.fn.process l.a ≡ history l.fn.process l.b);
  one_test : filter_callee l.record-iterator ≡ filter_callee l.others;
  kept : filter_callee l.others ≡ filter_callee l.initial.others;
}
