use Rattle.metric.proofs.WordLemmas.{cut}
use Rattle.metric.proofs.words.highest.Goals as goal

pub returns : goal.returns
returns c = cut c.args.count c.args.word c.requires.1
