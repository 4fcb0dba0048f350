use Rattle.journal_reader.proofs.WrittenLemmas.{faults_are_final}
use Rattle.journal_reader.proofs.laws.faults_are_final.Goals as goal

pub returns : goal.returns
returns c = faults_are_final
