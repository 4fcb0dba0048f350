use Rattle.track_groups.proofs.CallLemmas.{stays_gone}
use Rattle.track_groups.proofs.laws.law_gone.Goals as goal

pub returns : goal.returns
returns c = stays_gone
