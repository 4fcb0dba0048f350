use Rattle.std.proofs.Common.{ap, is_some}
use Rattle.statsd_server.proofs.tally.place_member.Goals as goal

pub returns-in_err-place-in-Some-clause-same : goal.returns-in_err-place-in-Some-clause-same
returns-in_err-place-in-Some-clause-same c = λ other. ap is_some (c.place.ensures.same other)

pub returns-in_ok-place-in-Some-clause-same : goal.returns-in_ok-place-in-Some-clause-same
returns-in_ok-place-in-Some-clause-same c = λ other. ap is_some (c.place.ensures.same other)
