use Rattle.graphite_text.proofs.Back as back
use Rattle.graphite_text.proofs.laws.written_is_read_back.Goals as goal

pub returns : goal.returns
returns c = back.written_is_read_back
