use Rattle.pipeline_core.proofs.GroupReports.{reported_once}
use Rattle.pipeline_core.proofs.laws.reported_once.Goals as goal

pub returns : goal.returns
returns c = reported_once
