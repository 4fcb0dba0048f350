use Rattle.std.proofs.Common.{◌∙◌}
use Rattle.std.proofs.lemmas.Str.{is_utf8-from_IsUtf8}
use Rattle.text_parts.proofs.Utf8Readings.{isnt_utf8}
use Rattle.text_parts.proofs.reading.utf8_text.Goals as goal

pub returns-in-Ok : goal.returns-in-Ok
returns-in-Ok c = (c.in-Ok.ensures.cases.0, is_utf8-from_IsUtf8 c.args.piece.now c.in-Ok.ensures.cases.1)

pub returns-in-Err : goal.returns-in-Err
returns-in-Err c = (
  c.valid_up_to.ensures ∙ c.in-Err.ensures.valid_len,
  isnt_utf8 c.args.piece.now c.in-Err.ensures.cases.0,
)
