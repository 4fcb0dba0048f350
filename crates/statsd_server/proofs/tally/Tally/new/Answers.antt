use Rattle.std.proofs.Common.{refl}
use Rattle.statsd_server.proofs.KeepLemmas.{none_kept}
use Rattle.statsd_server.proofs.tally.Tally.new.Goals as goal

pub returns-clause-keeps : goal.returns-clause-keeps
returns-clause-keeps c =
    none_kept _ c.new.ensures.places c.new-2.ensures.places c.new-3.ensures.places c.new-4.ensures.items refl
