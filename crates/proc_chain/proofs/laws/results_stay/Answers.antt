use Rattle.proc_chain.proofs.LawLemmas.{one_each, stay}
use Rattle.proc_chain.proofs.laws.results_stay.Goals as goal

pub returns : goal.returns
returns c = record { stay = stay; one_each = one_each }
