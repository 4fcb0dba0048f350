use Rattle.fixed_num.proofs.Again as again
use Rattle.fixed_num.proofs.laws.reads_canonical.Goals as goal

pub returns : goal.returns
returns c = again.reads_canonical
