use Rattle.agent_workers.specs.Job.{agg_filters}
use Rattle.agent_workers.proofs.ViewLemmas.{seen_none}
use Rattle.agent_workers.proofs.item.seen.Goals as goal

pub returns-then-made-clause-same : goal.returns-then-made-clause-same
returns-then-made-clause-same c =
    seen_none c.no_agg_views.result (agg_filters c.args.confs.now) c.args.whole.now c.no_agg_views.ensures
