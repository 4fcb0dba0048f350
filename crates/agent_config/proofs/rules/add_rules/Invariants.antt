use Rattle.std.proofs.Common.{◌≡◌, ◌++◌, drop}
use Rattle.agent_config.specs.Seen.{tables_view}
use Rattle.agent_config.specs.Steps.{rules_of}
use Rattle.agent_config.proofs.rules.add_rules.Given as goal

abbrev pub invariant-loop-table : goal.invariant-loop-table
invariant-loop-table l =
    l.rules.items ++ rules_of l.part (tables_view (drop l.table-index l.tables))
    ≡ l.fn.rules.items ++ rules_of l.part (tables_view l.tables)
