use Rattle.agg_stats.proofs.MemberLemmas.{none_stand}
use Rattle.agg_stats.proofs.stats.Stats.new.Goals as goal

pub returns : goal.returns
returns c = none_stand c.args.kind _ c.of.ensures c.new-2.ensures.items
