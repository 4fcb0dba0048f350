use Rattle.agent_base.proofs.ClockLemmas.{clocked_joined}
use Rattle.agent_base.proofs.laws.clocked_joins.Goals as goal

pub returns : goal.returns
returns c = clocked_joined
