use Rattle.journal_reader.proofs.WrittenLemmas.{fronts_are_torn}
use Rattle.journal_reader.proofs.laws.fronts_are_torn.Goals as goal

pub returns : goal.returns
returns c = fronts_are_torn
