use Rattle.agg_bank.proofs.LawLemmas.{calls_bank}
use Rattle.agg_bank.proofs.laws.calls_bank.Goals as goal

pub returns : goal.returns
returns c = calls_bank
