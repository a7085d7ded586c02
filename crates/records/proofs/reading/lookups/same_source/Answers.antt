use Rattle.std.proofs.Common.{rules}
use Rattle.records.proofs.Leaving.{as_leaving}
use Rattle.records.proofs.reading.lookups.same_source.Goals as goal

pub returns : goal.returns
returns c = as_leaving c.args.links.now c.args.from _ (search rules)
