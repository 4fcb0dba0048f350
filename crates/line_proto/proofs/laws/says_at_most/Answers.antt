use Rattle.line_proto.proofs.MostLemmas as lemmas
use Rattle.line_proto.proofs.laws.says_at_most.Goals as goal

pub returns : goal.returns
returns c = lemmas.says_at_most
