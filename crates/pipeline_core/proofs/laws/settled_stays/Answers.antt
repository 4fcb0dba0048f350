use Rattle.pipeline_core.proofs.GroupReports.{settled_stays}
use Rattle.pipeline_core.proofs.laws.settled_stays.Goals as goal

pub returns : goal.returns
returns c = settled_stays
