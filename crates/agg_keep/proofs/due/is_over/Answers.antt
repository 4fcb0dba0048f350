use Rattle.agg_keep.proofs.DueLemmas.{over}
use Rattle.agg_keep.proofs.due.is_over.Goals as goal

pub returns : goal.returns
returns c = over c.args.timeout c.args.moment c.args.time c.ranges.timeout c.ranges.moment c.ranges.time
