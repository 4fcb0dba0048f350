use Rattle.statsd_text.proofs.Offsets as offsets
use Rattle.statsd_text.proofs.laws.fault_is_within.Goals as goal

pub returns : goal.returns
returns c = offsets.fault_is_within
