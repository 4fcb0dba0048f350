use Rattle.std.proofs.Common.{◌≡◌, ◌++◌, drop}
use Rattle.journal_reader.specs.AccountReading.{output_forms}
use Rattle.journal_reader.proofs.account_lines.add_outputs.Given as goal

abbrev pub invariant-loop-index : goal.invariant-loop-index
invariant-loop-index l = l.forms ++ output_forms l.index (drop l.index l.outputs)
    ≡ l.fn.forms ++ output_forms 0 l.outputs
