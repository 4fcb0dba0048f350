use Rattle.proc_chain.proofs.LawLemmas.{in_turn}
use Rattle.proc_chain.proofs.laws.passed_in_turn.Goals as goal

pub returns : goal.returns
returns c = in_turn
