use Rattle.out_lane.proofs.CallLemmas.{calls_meet}
use Rattle.out_lane.proofs.laws.law_calls.Goals as goal

pub returns : goal.returns
returns g c = calls_meet _
