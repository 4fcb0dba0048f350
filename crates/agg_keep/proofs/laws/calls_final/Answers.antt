use Rattle.agg_keep.proofs.FinalLawLemmas.{calls_final}
use Rattle.agg_keep.proofs.laws.calls_final.Goals as goal

pub returns : goal.returns
returns c = calls_final
