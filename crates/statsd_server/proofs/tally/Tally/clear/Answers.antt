use Rattle.std.proofs.Common.{refl}
use Rattle.statsd_server.specs.TallyView.{memory_of}
use Rattle.statsd_server.proofs.KeepLemmas.{begins}
use Rattle.statsd_server.proofs.tally.Tally.clear.Goals as goal

pub returns-clause-keeps : goal.returns-clause-keeps
returns-clause-keeps c = λ past now keeps.
    begins past now (memory_of c.args.self.now) _ keeps c.forget.ensures c.forget-2.ensures
    c.clear.ensures.items refl refl
