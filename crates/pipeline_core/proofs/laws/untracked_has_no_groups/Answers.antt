use Rattle.pipeline_core.proofs.GroupLemmas.{untracked-no_groups}
use Rattle.pipeline_core.proofs.laws.untracked_has_no_groups.Goals as goal

pub returns : goal.returns
returns c = untracked-no_groups
