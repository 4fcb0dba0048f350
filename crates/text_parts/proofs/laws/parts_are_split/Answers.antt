use Rattle.text_parts.proofs.Splits.{joined_are_split, split_are_joined}
use Rattle.text_parts.proofs.laws.parts_are_split.Goals as goal

pub returns-clause-joined : goal.returns-clause-joined
returns-clause-joined c = joined_are_split

pub returns-clause-split : goal.returns-clause-split
returns-clause-split c = split_are_joined
