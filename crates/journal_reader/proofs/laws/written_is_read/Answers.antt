use Rattle.journal_reader.proofs.WrittenLemmas.{written_is_read}
use Rattle.journal_reader.proofs.laws.written_is_read.Goals as goal

pub returns : goal.returns
returns c = written_is_read
