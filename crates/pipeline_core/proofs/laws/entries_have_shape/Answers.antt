use Rattle.pipeline_core.proofs.ShapeLemmas.{entries-have-shape}
use Rattle.pipeline_core.proofs.laws.entries_have_shape.Goals as goal

pub returns : goal.returns
returns c = entries-have-shape
