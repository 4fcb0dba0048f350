use Rattle.pipeline_core.proofs.ShapeLemmas.{removed-has-no-whole}
use Rattle.pipeline_core.proofs.laws.removed_has_no_whole.Goals as goal

pub returns : goal.returns
returns c = removed-has-no-whole
