use Rattle.out_lane.proofs.LaneLemmas.{new_is_lane}
use Rattle.out_lane.proofs.laws.law_new.Goals as goal

pub returns : goal.returns
returns g c = new_is_lane _
