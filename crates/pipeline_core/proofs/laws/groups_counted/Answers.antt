use Rattle.pipeline_core.proofs.GroupTotals.{group_totals}
use Rattle.pipeline_core.proofs.laws.groups_counted.Goals as goal

pub returns : goal.returns
returns c = group_totals
