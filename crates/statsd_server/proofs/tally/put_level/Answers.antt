use Rattle.statsd_server.proofs.KeepLemmas.{level_stays}
use Rattle.statsd_server.proofs.tally.put_level.Goals as goal

pub returns-in-Adds-clause-held : goal.returns-in-Adds-clause-held
returns-in-Adds-clause-held c = λ series place is other.
    level_stays c.args.levels.now series c.args.change.now c.in-Adds.is other

pub returns-in-Adds-2-clause-held : goal.returns-in-Adds-2-clause-held
returns-in-Adds-2-clause-held c = λ series place is other.
    level_stays c.args.levels.now series c.args.change.now c.in-Adds.is other

pub returns-in-Adds-3-clause-held : goal.returns-in-Adds-3-clause-held
returns-in-Adds-3-clause-held c = λ series place is other.
    level_stays c.args.levels.now series c.args.change.now c.in-Adds.is other
