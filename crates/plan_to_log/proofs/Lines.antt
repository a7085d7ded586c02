-- The lines of a history.
use Rattle.std.proofs.Common.{◌≡◌, ◌==◌, ℕ, ◌+◌, cond, List, [], ◌∷◌, ◌++◌, filter, flat_map, refl, ap, ◌∙◌}
use Rattle.std.specs.List.{enumerate_from}
use Rattle.model.specs.declared.record.Record.{Record}
use Rattle.simulation.specs.View.{history}
use Rattle.records.specs.LogText.{number_line, line_numbers}
use Rattle.plan_to_log.specs.Histories.{lines_from}

-- The line of a record that stands at a place.
abbrev pub numbered : ℕ × Record → List ℕ
numbered e = number_line (line_numbers e.1 e.0)

-- A history is what a filter by the process keeps.
history_kept : (p : ℕ) (log : List Record) → filter (λ r. r.process == p) log ≡ history p log
history_kept p [] = refl
history_kept p (r ∷ rs) = ap (λ h. cond (r.process == p) (r ∷ h) h) (history_kept p rs)

-- The lines of records, each with its place from n on.
lines_numbered : (n : ℕ) (rs : List Record) → flat_map numbered (enumerate_from n rs) ≡ lines_from n rs
lines_numbered n [] = refl
lines_numbered n (r ∷ rs) = ap (λ l. number_line (line_numbers r n) ++ l) (lines_numbered (n + 1) rs)

-- So these are the lines of a history.
pub lines_of_history : (p : ℕ) (log : List Record) → flat_map numbered (enumerate_from 0 (filter (λ r. r.process == p) log)) ≡ lines_from 0 (history p log)
lines_of_history p log = lines_numbered 0 (filter (λ r. r.process == p) log) ∙ ap (lines_from 0) (history_kept p log)
