use Rattle.statsd_server.proofs.NextLemmas.{serving_for}
use Rattle.statsd_server.proofs.standing.Standing.new.Goals as goal

pub invariant_of-result : goal.invariant_of-result
invariant_of-result c = record { serving = serving_for _ _ _ c.in_ok-server.ensures }
