use Rattle.fixed_num.proofs.Spelling as spelling
use Rattle.fixed_num.proofs.laws.spelled_is_read.Goals as goal

pub returns : goal.returns
returns c = spelling.spelled_is_read
