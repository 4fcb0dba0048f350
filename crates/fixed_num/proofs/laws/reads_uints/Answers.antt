use Rattle.fixed_num.proofs.SpelledInts as spelled
use Rattle.fixed_num.proofs.laws.reads_uints.Goals as goal

pub returns-clause-reads : goal.returns-clause-reads
returns-clause-reads c = spelled.reads_uints

pub returns-clause-spelled : goal.returns-clause-spelled
returns-clause-spelled c = spelled.uints_are_spelled
