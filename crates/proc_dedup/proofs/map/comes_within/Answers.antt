use Rattle.proc_dedup.proofs.DedupLemmas.{within}
use Rattle.proc_dedup.proofs.map.comes_within.Goals as goal

pub returns : goal.returns
returns c = within c.args.interval c.args.last c.args.time c.ranges.interval c.ranges.last c.ranges.time
