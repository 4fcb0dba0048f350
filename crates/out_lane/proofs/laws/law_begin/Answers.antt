use Rattle.out_lane.proofs.LaneLemmas.{begin_meets}
use Rattle.out_lane.proofs.laws.law_begin.Goals as goal

pub returns : goal.returns
returns g c = begin_meets
