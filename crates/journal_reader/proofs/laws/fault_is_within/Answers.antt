use Rattle.journal_reader.proofs.WithinLemmas.{fault_is_within}
use Rattle.journal_reader.proofs.laws.fault_is_within.Goals as goal

pub returns : goal.returns
returns c = fault_is_within
