use Rattle.metric.proofs.LawLemmas.{in_key_order-ordered, in_key_order-last}
use Rattle.metric.proofs.laws.key_order.Goals as goal

pub returns : goal.returns
returns c = record { sorted = in_key_order-ordered; last = in_key_order-last }
