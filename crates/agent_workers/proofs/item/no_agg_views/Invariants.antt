use Rattle.std.proofs.Common.{◌≡◌, take, None}
use Rattle.pipeline_core.specs.Worked.{views_of}
use Rattle.agent_workers.specs.Job.{agg_filters}
use Rattle.agent_workers.proofs.item.no_agg_views.Given as goal

abbrev pub invariant-loop-conf : goal.invariant-loop-conf
invariant-loop-conf l = l.views.items ≡ views_of (agg_filters (take l._conf-index l.confs)) None
