use Rattle.account.proofs.OriginLemmas.{origins-match}
use Rattle.account.proofs.laws.origins_match.Goals as goal

pub returns : goal.returns
returns c = origins-match
