-- The bytes of a log: the heading, and the history of each process.
use Rattle.std.specs.Prelude.{ℕ, zero, suc, ◌+◌, List, [], ◌∷◌, ◌++◌}
use Rattle.model.specs.declared.record.Record.{Record}
use Rattle.simulation.specs.View.{history}
use Rattle.records.specs.LogText.{heading, number_line, line_numbers}

-- The lines of a history from place n on.
abbrev pub lines_from : ℕ → List Record → List ℕ
lines_from n [] = []
lines_from n (r ∷ rs) = number_line (line_numbers r n) ++ lines_from (n + 1) rs

-- The histories of the processes below a number, one after the other.
abbrev pub histories : ℕ → List Record → List ℕ
histories zero log = []
histories (suc p) log = histories p log ++ lines_from 0 (history p log)

-- A whole log, of so many processes.
abbrev pub log_text : ℕ → List Record → List ℕ
log_text processes log = heading ++ histories processes log
