use Rattle.std.proofs.Common.{◌∙◌}
use Rattle.openmetrics_text.proofs.types.Types.last_of.Goals as goal

pub returns : goal.returns
returns c = λ pairs h. c.copied.ensures ∙ c.get.ensures.value ∙ h.last c.args.name.now
