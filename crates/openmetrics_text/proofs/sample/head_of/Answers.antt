use Rattle.std.proofs.Common.{◌∙◌, sym, arith}
use Rattle.openmetrics_text.proofs.Offsets.{behind_test}
use Rattle.openmetrics_text.proofs.sample.head_of.Goals as goal

pub labels_at-requires : goal.labels_at-requires
labels_at-requires c = record {
  empty = c.requires;
  boundary = behind_test c.args.line.now c.name_len-n.result 123
      (omega arith) (omega arith) c.utf8.line (sym c.is_at.ensures.value ∙ c.if-is_at.true);
}
