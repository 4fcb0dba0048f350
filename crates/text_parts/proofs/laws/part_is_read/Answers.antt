use Rattle.text_parts.proofs.MarkLemmas as marks
use Rattle.text_parts.proofs.laws.part_is_read.Goals as goal

pub returns : goal.returns
returns c = marks.part_is_read
