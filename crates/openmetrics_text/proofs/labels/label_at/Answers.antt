use Rattle.std.proofs.Common.{◌∙◌, sym, arith}
use Rattle.openmetrics_text.proofs.Offsets.{behind_test}
use Rattle.openmetrics_text.proofs.labels.label_at.Goals as goal

pub returns-clause-behind : goal.returns-clause-behind
returns-clause-behind c = behind_test c.args.line.now c.value_span-span.result.end 34 (omega arith)
    (omega arith) c.utf8.line (sym c.is_at.ensures.value ∙ c.if-not-is_at.false)
