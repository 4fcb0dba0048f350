use Rattle.agent_config.proofs.WrittenLemmas.{written_counts}
use Rattle.agent_config.proofs.laws.written_counts.Goals as goal

pub returns : goal.returns
returns c = written_counts
