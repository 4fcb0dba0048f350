use Rattle.journal_text.proofs.JournalLemmas.{equal_are_same}
use Rattle.journal_text.proofs.laws.equal_are_same.Goals as goal

pub returns : goal.returns
returns c = equal_are_same
