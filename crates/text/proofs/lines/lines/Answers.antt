use Rattle.text.proofs.LineEnds.{few_lines}
use Rattle.text.proofs.lines.lines.Goals as goal

pub returns-clause-few : goal.returns-clause-few
returns-clause-few c = few_lines _
