use Rattle.graphite_text.proofs.Writtens as lines
use Rattle.graphite_text.proofs.laws.read_is_written.Goals as goal

pub returns : goal.returns
returns c = lines.read_is_written
