use Rattle.std.proofs.Common.{arith}
use Rattle.toml.specs.View.{table_view}
use Rattle.agent_config.proofs.ReadLemmas.{no_tree, tree_there}
use Rattle.agent_config.proofs.read.tree_of.Goals as goal

pub returns-in-Ok : goal.returns-in-Ok
returns-in-Ok c =
    tree_there c.args.text.now (table_view c.in-Ok.table)
    (omega arith) c.in-Ok.ensures.ok.0 c.in-Ok.ensures.ok.1

pub returns-else-is_memory : goal.returns-else-is_memory
returns-else-is_memory c =
    no_tree c.args.text.now
    (c.in-Err.ensures.refused (λ memory. cc (c.if-is_memory.false, c.is_memory.ensures.1 memory)))
