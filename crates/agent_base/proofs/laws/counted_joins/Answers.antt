use Rattle.agent_base.proofs.ClockLemmas.{counted_joined}
use Rattle.agent_base.proofs.laws.counted_joins.Goals as goal

pub returns : goal.returns
returns c = counted_joined
