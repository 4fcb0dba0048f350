use Rattle.std.proofs.Common.{◌∙◌}
use Rattle.text_parts.proofs.Utf8Readings.{isnt_utf8}
use Rattle.journal_reader.proofs.TextLemmas.{text_read, text_unread}
use Rattle.journal_reader.proofs.metrics.text_of.Goals as goal

pub returns-in-Ok : goal.returns-in-Ok
returns-in-Ok c =
    text_read c.args.written.now c.as_slice.result.now c.in_ok-text-in-Ok.text
    (c.as_slice.ensures.value ∙ c.in_ok-bytes.ensures) (c.in_ok-text-in-Ok.ensures ∙ c.in-Ok.ensures.cases.0)
    c.in-Ok.ensures.cases.1

pub returns : goal.returns
returns c =
    text_unread c.args.written.now c.as_slice.result.now (c.as_slice.ensures.value ∙ c.in_ok-bytes.ensures)
    (isnt_utf8 c.as_slice.result.now c.in-Err.ensures.cases.0)
