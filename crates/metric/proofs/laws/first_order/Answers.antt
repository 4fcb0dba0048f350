use Rattle.metric.proofs.LawLemmas.{in_first_order-keys, in_first_order-distinct, in_first_order-last}
use Rattle.metric.proofs.laws.first_order.Goals as goal

pub returns : goal.returns
returns c = record { keys = in_first_order-keys; distinct = in_first_order-distinct; last = in_first_order-last }
