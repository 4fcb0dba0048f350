use Rattle.text_parts.proofs.MarkLemmas.{found}
use Rattle.text_parts.proofs.laws.read_is_part.Goals as goal

pub returns : goal.returns
returns c = λ k bs. let f = found k bs in (f.marks, f.text, f.part)
