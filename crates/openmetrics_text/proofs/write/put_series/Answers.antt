use Rattle.std.proofs.Common.{refl}
use Rattle.openmetrics_text.proofs.PutLemmas.{puts_text}
use Rattle.openmetrics_text.proofs.write.put_series.Goals as goal

pub returns-clause-puts : goal.returns-clause-puts
returns-clause-puts c = puts_text c.args.texts.now _ c.args.key.now c.in_ok-append_bytes.ensures refl
