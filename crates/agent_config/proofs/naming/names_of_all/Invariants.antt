use Rattle.std.proofs.Common.{◌≡◌, map, take}
use Rattle.toml.specs.View.{table_view}
use Rattle.agent_config.specs.Naming.{names_in}
use Rattle.agent_config.proofs.naming.names_of_all.Given as goal

abbrev pub invariant-loop-listed : goal.invariant-loop-listed
invariant-loop-listed l = l.names.items ≡ map (names_in (table_view l.root)) (take l.listed-index l.faults)
