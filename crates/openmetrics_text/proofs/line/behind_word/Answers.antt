use Rattle.std.proofs.Common.{arith}
use Rattle.openmetrics_text.proofs.Offsets.{behind_byte}
use Rattle.openmetrics_text.proofs.line.behind_word.Goals as goal

pub split_at-requires : goal.split_at-requires
split_at-requires c = behind_byte c.args.line.now 6 32 (omega arith) (omega arith) c.utf8.line c.requires
