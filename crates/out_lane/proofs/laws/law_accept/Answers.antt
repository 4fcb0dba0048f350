use Rattle.out_lane.proofs.LaneLemmas.{accept_meets}
use Rattle.out_lane.proofs.laws.law_accept.Goals as goal

pub returns : goal.returns
returns g c = accept_meets
