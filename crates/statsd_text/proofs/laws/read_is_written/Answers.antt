use Rattle.statsd_text.proofs.Founds as founds
use Rattle.statsd_text.proofs.laws.read_is_written.Goals as goal

pub returns : goal.returns
returns c = founds.read_is_written
