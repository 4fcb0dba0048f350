use Rattle.graphite_text.proofs.Writtens as lines
use Rattle.graphite_text.proofs.laws.written_is_read.Goals as goal

pub returns : goal.returns
returns c = lines.written_is_read
