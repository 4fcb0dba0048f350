use Rattle.std.proofs.Common.{◌≡◌, ◌≢◌, ℕ, List, length}
use Rattle.account.specs.declared.entry.Entry.{Entry}
use Rattle.pipeline_core.specs.CoreState.{told_at}
use Rattle.pipeline_core.specs.Stands.{Stands}
use Rattle.agent_workers.proofs.rounds.let_reports_of.Given as goal

abbrev pub invariant-loop : goal.invariant-loop
invariant-loop l = record {
  others : (k : ℕ) → k ≢ l.input → told_at l.core.told k ≡ told_at l.fn.core.told k;
  same : l.core ≡ record l.fn.core { told = l.core.told };
  stands : (journal : List Entry) → Stands l.fn.core journal → Stands l.core journal;
}

abbrev pub decreases-loop : goal.decreases-loop
decreases-loop l = length (told_at l.core.told l.input)
