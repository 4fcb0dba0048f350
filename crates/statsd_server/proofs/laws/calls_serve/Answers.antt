use Rattle.statsd_server.proofs.LawLemmas.{calls_serve}
use Rattle.statsd_server.proofs.laws.calls_serve.Goals as goal

pub returns : goal.returns
returns c = calls_serve
