use Rattle.std.proofs.Common.{◌≡◌, ◌++◌, drop, map}
use Rattle.statsd_server.specs.Kept.{made_of, served_of}
use Rattle.statsd_server.specs.TallyView.{memory_of}
use Rattle.statsd_server.proofs.served.made_of.Given as goal

abbrev pub invariant-loop-first : goal.invariant-loop-first
invariant-loop-first l =
    l.made.items ++ map (served_of (memory_of l.tally)) (drop l.first-index l.tally.order.items)
    ≡ made_of l.packets (memory_of l.tally)
