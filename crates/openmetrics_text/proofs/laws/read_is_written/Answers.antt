use Rattle.openmetrics_text.proofs.Wholes as wholes
use Rattle.openmetrics_text.proofs.laws.read_is_written.Goals as goal

pub returns : goal.returns
returns c = wholes.read_is_written
