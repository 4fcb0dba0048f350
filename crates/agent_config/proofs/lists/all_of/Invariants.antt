use Rattle.std.proofs.Common.{drop}
use Rattle.agent_config.proofs.TextLemmas.{AllSoFar}
use Rattle.agent_config.proofs.lists.all_of.Given as goal

abbrev pub invariant-loop-value : goal.invariant-loop-value
invariant-loop-value g l =
    AllSoFar g.T.Item.seen g.T.Item.read l.all.items (drop l.value-index l.values) l.values
