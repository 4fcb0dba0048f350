use Rattle.std.proofs.Common.{◌≡◌, ◌++◌, drop}
use Rattle.agent_config.specs.Faults.{each_table_faults}
use Rattle.agent_config.specs.Found.{wrongs_view}
use Rattle.agent_config.specs.Seen.{tables_view}
use Rattle.agent_config.proofs.adding.Findings.check_tables.Given as goal

abbrev pub invariant-loop-table : goal.invariant-loop-table
invariant-loop-table l =
    wrongs_view l.self.wrongs.items ++ each_table_faults l.key l.inner (tables_view (drop l.table-index l.tables))
    ≡ wrongs_view l.fn.self.wrongs.items ++ each_table_faults l.key l.inner (tables_view l.tables)
