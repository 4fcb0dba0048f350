use Rattle.journal_reader.proofs.TornLemmas.{torn_goes_on}
use Rattle.journal_reader.proofs.laws.torn_goes_on.Goals as goal

pub returns : goal.returns
returns c = torn_goes_on
