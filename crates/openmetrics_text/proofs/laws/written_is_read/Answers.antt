use Rattle.openmetrics_text.proofs.Spells as spells
use Rattle.openmetrics_text.proofs.laws.written_is_read.Goals as goal

pub returns : goal.returns
returns c = spells.written_is_read
