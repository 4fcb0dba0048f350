use Rattle.metric.proofs.LawLemmas.{with_sorted-grows, with_pair-grows}
use Rattle.metric.proofs.laws.growth.Goals as goal

pub returns : goal.returns
returns c = record { tags = with_sorted-grows; fields = with_pair-grows }
