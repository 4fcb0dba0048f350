use Rattle.std.proofs.Common.{◌∙◌, List, ℕ, get_or, Some, None, ap}
use Rattle.std.specs.Prelude.{codes}
use Rattle.openmetrics_text.proofs.TypeLemmas.{type_is}
use Rattle.openmetrics_text.proofs.types.Types.type_of.Goals as goal

pub returns-in-Some : goal.returns-in-Some
returns-in-Some c = λ pairs h.
    c.kind_at.ensures ∙ ap (λ (kinds : List (List ℕ)). get_or kinds c.in-Some.index (codes "unknown")) h.kinds
    ∙ type_is c.args.name.now pairs (Some c.in-Some.index) (rw c.as_bytes.ensures.value at (c.in-Some.ensures pairs h))

pub returns-in-None : goal.returns-in-None
returns-in-None c = λ pairs h. type_is c.args.name.now pairs None
    (rw c.as_bytes.ensures.value at (c.in-None.ensures pairs h))
