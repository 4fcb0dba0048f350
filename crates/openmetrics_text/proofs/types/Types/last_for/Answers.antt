use Rattle.std.proofs.Common.{◌∙◌}
use Rattle.std.specs.Str.{bytes_eq}
use Rattle.openmetrics_text.specs.Types.{has_suffix_of, suffixes}
use Rattle.openmetrics_text.proofs.TypeLemmas.{either}
use Rattle.openmetrics_text.proofs.types.Types.last_for.Goals as goal

pub returns : goal.returns
returns c = λ pairs h.
    c.later.ensures
    ∙ either (λ name. bytes_eq name c.args.name.now) (has_suffix_of c.args.name.now suffixes) pairs c.last_of.result
    c.last_with.result (c.last_of.ensures pairs h) (c.last_with.ensures pairs h)
