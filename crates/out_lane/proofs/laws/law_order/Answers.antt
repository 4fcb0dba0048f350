use Rattle.out_lane.proofs.EventLemmas.{writes_in_order}
use Rattle.out_lane.proofs.laws.law_order.Goals as goal

pub returns : goal.returns
returns c = writes_in_order
