use Rattle.std.proofs.Common.{refl}
use Rattle.statsd_server.proofs.ServerLemmas.{stands_new}
use Rattle.statsd_server.proofs.server.Server.new.Goals as goal

pub returns : goal.returns
returns c = stands_new _ refl c.new-2.ensures.keeps c.new-2.ensures.counted c.new-2.ensures.refused
