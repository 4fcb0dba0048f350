use Rattle.std.proofs.Common.{sym, subst}
use Rattle.openmetrics_text.proofs.NameLemmas.{front_boundary, alphabet_low}
use Rattle.openmetrics_text.specs.Names.{ends}
use Rattle.std.specs.Str.{IsCharBoundary}
use Rattle.text_parts.proofs.Spans.{position_or_len_le}
use Rattle.openmetrics_text.proofs.names.name_len.Goals as goal

pub returns-clause-bound : goal.returns-clause-bound
returns-clause-bound c = rw c.name_end.ensures (position_or_len_le (ends c.args.alphabet) c.args.bytes.now)

pub returns-clause-boundary : goal.returns-clause-boundary
returns-clause-boundary c = λ u.
    subst (IsCharBoundary c.args.bytes.now) (sym c.name_end.ensures)
    (front_boundary (ends c.args.alphabet) (alphabet_low c.args.alphabet) c.args.bytes.now u)
