use Rattle.std.proofs.Common.{◌≡◌, ◌<◌, ℕ, [], List}
use Rattle.account.specs.declared.entry.Entry.{Entry}
use Rattle.pipeline_core.specs.CoreState.{told_at}
use Rattle.pipeline_core.specs.Stands.{Stands}
use Rattle.agent_workers.proofs.rounds.let_reports_go.Given as goal

abbrev pub invariant-loop-job : goal.invariant-loop-job
invariant-loop-job g l = record {
  gone : (input : ℕ) → input < l.job-index → told_at l.core.told input ≡ [];
  same : l.core ≡ record l.fn.core { told = l.core.told };
  stands : (journal : List Entry) → Stands l.fn.core journal → Stands l.core journal;
}
