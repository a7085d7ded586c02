use Rattle.std.proofs.Common.{refl}
use Rattle.kernel.proofs.Words.{none_set}
use Rattle.kernel.proofs.marks.Marks.new.Goals as goal

pub returns : goal.returns
returns c = record { marked = none_set; rounds = refl; processes = refl }
