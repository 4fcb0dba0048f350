use Rattle.journal_reader.proofs.WithinLemmas.{faults_stay}
use Rattle.journal_reader.proofs.laws.faults_stay.Goals as goal

pub returns : goal.returns
returns c = faults_stay
