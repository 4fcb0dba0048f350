use Rattle.std.proofs.Common.{◌≡◌, drop}
use Rattle.std.specs.Prelude.{map}
use Rattle.journal_reader.specs.AccountReading.{behind_counts}
use Rattle.journal_reader.proofs.account_lines.take_counts.Given as goal

abbrev pub invariant-loop-label : goal.invariant-loop-label
invariant-loop-label l =
    behind_counts (map (λ label. label.now) (drop l.label-index l.labels)) l.words
    ≡ behind_counts (map (λ label. label.now) l.labels) l.fn.words
