use Rattle.std.proofs.Common.{sym, ◌∙◌}
use Rattle.openmetrics_text.proofs.PutLemmas.{no_point, one_point}
use Rattle.openmetrics_text.proofs.write.put_field.Goals as goal

pub returns-then-is_text : goal.returns-then-is_text
returns-then-is_text c = no_point c.args.texts.now c.args.metric.now c.args.field.now
    (sym c.is_text.ensures ∙ c.if-is_text.true)

pub returns : goal.returns
returns c = one_point c.args.texts.now c.put_line.new.texts c.args.metric.now c.args.field.now
    (sym c.is_text.ensures ∙ c.if-is_text.false) c.in_ok-put_line.ensures
