use Rattle.out_lane.proofs.LaneLemmas.{push_meets}
use Rattle.out_lane.proofs.laws.law_push.Goals as goal

pub returns : goal.returns
returns g c = push_meets
