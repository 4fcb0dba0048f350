use Rattle.std.proofs.Common.{◌∙◌, sym, arith}
use Rattle.openmetrics_text.proofs.Offsets.{behind_test}
use Rattle.openmetrics_text.proofs.sample.behind_space.Goals as goal

pub split_at-requires : goal.split_at-requires
split_at-requires c = behind_test c.args.line.now c.args.i 32 (omega arith) (omega arith) c.utf8.line
    (sym c.is_at.ensures.value ∙ c.if-not-is_at.false)
