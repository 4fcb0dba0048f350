use Rattle.std.proofs.Common.{sym, ◌∙◌}
use Rattle.std.proofs.lemmas.Str.{chars_past_char}
use Rattle.metric.proofs.glob_scan.first_character.Goals as goal

pub returns : goal.returns
returns c =
    rw c.as_str.ensures (chars_past_char _ _ _ c.utf8.text (sym c.chars-rest.ensures.rest
    ∙ c.in_ok-first.ensures.steps.0))
