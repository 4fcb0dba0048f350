use Rattle.openmetrics_text.proofs.WrittenBack as back
use Rattle.openmetrics_text.proofs.laws.written_is_read_back.Goals as goal

pub returns : goal.returns
returns c = back.written_is_read_back
