use Rattle.std.proofs.Common.{ℕ, Bool, ap, ◌∙◌}
use Rattle.std.specs.List.{position_or_len}
use Rattle.text_parts.proofs.Splits.{one_byte}
use Rattle.journal_reader.proofs.parts.first_byte.Goals as goal

pub returns-clause-value : goal.returns-clause-value
returns-clause-value c = c.first_of.ensures.value ∙ ap (λ (p : ℕ → Bool). position_or_len p c.args.bytes.now)
    (one_byte c.args.byte)
