use Rattle.std.proofs.Common.{◌∙◌}
use Rattle.openmetrics_text.proofs.TypeLemmas.{stem_last, no_stem}
use Rattle.openmetrics_text.proofs.types.Types.last_without.Goals as goal

pub returns-in-Some : goal.returns-in-Some
returns-in-Some c = λ pairs h.
    c.last_of.ensures pairs h ∙ stem_last c.args.name.now c.in-Some.front.now c.args.suffix.now pairs
    c.in-Some.ensures.cases.0 c.in-Some.ensures.cases.1

pub returns-in-None : goal.returns-in-None
returns-in-None c = λ pairs h. no_stem c.args.name.now c.args.suffix.now pairs c.in-None.ensures.cases
