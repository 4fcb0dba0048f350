use Rattle.std.proofs.Common.{ℕ, Bool, ap, ◌∙◌}
use Rattle.std.specs.List.{position_or_len}
use Rattle.line_proto.proofs.Parts.{comma_or_space}
use Rattle.line_proto.proofs.read_parts.word_end.Goals as goal

pub returns-clause-value : goal.returns-clause-value
returns-clause-value c = c.first_of.ensures.value ∙ ap (λ (p : ℕ → Bool). position_or_len p c.args.bytes.now)
    comma_or_space
