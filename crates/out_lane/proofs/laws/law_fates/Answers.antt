use Rattle.out_lane.proofs.EventLemmas.{fates_last}
use Rattle.out_lane.proofs.laws.law_fates.Goals as goal

pub returns : goal.returns
returns c = fates_last
