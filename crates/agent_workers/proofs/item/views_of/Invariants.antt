use Rattle.std.proofs.Common.{◌≡◌, take, Some, true}
use Rattle.journal_text.specs.Known.{AreWhole}
use Rattle.pipeline_core.specs.Worked.{views_of}
use Rattle.agent_workers.specs.Job.{filters_of}
use Rattle.agent_workers.proofs.item.views_of.Given as goal

abbrev pub invariant-loop-conf : goal.invariant-loop-conf
invariant-loop-conf l = record {
  views : l.views.views.items ≡ views_of (filters_of (take l.conf-index l.confs)) (Some l.metric);
  same : l.views.same ≡ true → AreWhole (Some l.metric) l.views.views.items;
}
