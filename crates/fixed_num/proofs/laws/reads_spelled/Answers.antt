use Rattle.fixed_num.proofs.Spelling as spelling
use Rattle.fixed_num.proofs.laws.reads_spelled.Goals as goal

pub returns : goal.returns
returns c = spelling.reads_spelled
