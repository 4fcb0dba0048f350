use Rattle.statsd_server.proofs.GroupLemmas.{groups_hold}
use Rattle.statsd_server.proofs.laws.groups_hold.Goals as goal

pub returns : goal.returns
returns c = groups_hold
