use Rattle.out_lane.proofs.CountLemmas.{becomes_counted}
use Rattle.out_lane.proofs.laws.law_counts.Goals as goal

pub returns : goal.returns
returns g c = becomes_counted
