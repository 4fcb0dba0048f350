use Rattle.std.proofs.Common.{◌≡◌, ◌++◌, drop}
use Rattle.agent_config.specs.Seen.{tables_view}
use Rattle.agent_config.specs.Steps.{replacements_of}
use Rattle.agent_config.proofs.rules.replacements_of.Given as goal

abbrev pub invariant-loop-table : goal.invariant-loop-table
invariant-loop-table l =
    l.rules.items ++ replacements_of (tables_view (drop l.table-index l.tables))
    ≡ replacements_of (tables_view l.tables)
