use Rattle.pipeline_core.proofs.ShapeLemmas.{nothing-aggregates}
use Rattle.pipeline_core.proofs.laws.nothing_aggregates.Goals as goal

pub returns : goal.returns
returns c = nothing-aggregates
