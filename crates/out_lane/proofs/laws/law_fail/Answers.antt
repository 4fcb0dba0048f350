use Rattle.out_lane.proofs.LaneLemmas.{fail_meets}
use Rattle.out_lane.proofs.laws.law_fail.Goals as goal

pub returns : goal.returns
returns g c = fail_meets
