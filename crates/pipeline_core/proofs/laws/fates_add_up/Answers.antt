use Rattle.pipeline_core.proofs.FateCounts.{fates_add_up}
use Rattle.pipeline_core.proofs.laws.fates_add_up.Goals as goal

pub returns : goal.returns
returns c = fates_add_up
