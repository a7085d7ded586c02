-- Answers that say whether something holds.
use Rattle.std.specs.Prelude.{Bool, true, false}

-- An answer that says whether something holds.
abbrev pub Decided : Bool → Type 0 → Type 0
Decided true holds = holds
Decided false holds = ¬ holds
