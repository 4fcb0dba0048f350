use Rattle.proc_chain.proofs.LawLemmas.{no_steps}
use Rattle.proc_chain.proofs.laws.without_steps.Goals as goal

pub returns : goal.returns
returns c = no_steps
