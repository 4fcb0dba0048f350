use Rattle.journal_reader.proofs.ReadBack.{read_is_written}
use Rattle.journal_reader.proofs.laws.read_is_written.Goals as goal

pub returns : goal.returns
returns c = read_is_written
