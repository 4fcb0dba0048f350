use Rattle.line_proto.proofs.PlainReadings as lemmas
use Rattle.line_proto.proofs.laws.read_is_plain.Goals as goal

pub returns : goal.returns
returns c = lemmas.read_is_plain
