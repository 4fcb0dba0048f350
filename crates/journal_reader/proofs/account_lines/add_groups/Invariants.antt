use Rattle.std.proofs.Common.{◌≡◌, ◌++◌, drop}
use Rattle.journal_reader.specs.AccountReading.{groups_forms}
use Rattle.journal_reader.proofs.account_lines.add_groups.Given as goal

abbrev pub invariant-loop-index : goal.invariant-loop-index
invariant-loop-index l = l.forms ++ groups_forms l.index (drop l.index l.inputs) ≡ l.fn.forms ++ groups_forms 0 l.inputs
