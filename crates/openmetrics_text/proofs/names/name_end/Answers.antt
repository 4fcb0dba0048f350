use Rattle.std.proofs.Common.{refl}
use Rattle.openmetrics_text.specs.Names.{ends}
use Rattle.text_parts.proofs.Spans.{found_len}
use Rattle.openmetrics_text.proofs.names.name_end.Goals as goal

pub returns : goal.returns
returns c = found_len (ends c.args.alphabet) c.args.bytes.now c.args.bytes.now c.args.bytes.now 0 c.unwrap_or.result
    c.first_beyond.result refl refl c.first_beyond.ensures c.unwrap_or.ensures
