use Rattle.text_parts.proofs.Escaping as escaping
use Rattle.text_parts.proofs.laws.escaped_is_part.Goals as goal

pub returns : goal.returns
returns c = escaping.escaped_is_part
