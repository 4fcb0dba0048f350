use Rattle.text_parts.proofs.Splits.{first_is_cut, cut_is_first}
use Rattle.text_parts.proofs.laws.text_is_cut.Goals as goal

pub returns-clause-cut : goal.returns-clause-cut
returns-clause-cut c = first_is_cut

pub returns-clause-first : goal.returns-clause-first
returns-clause-first c = cut_is_first
