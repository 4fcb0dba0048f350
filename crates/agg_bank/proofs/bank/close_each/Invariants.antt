use Rattle.agg_bank.specs.Events.{closing_event}
use Rattle.agg_bank.specs.Ready.{Closes}
use Rattle.agg_bank.proofs.SweepLemmas.{Swept}
use Rattle.agg_bank.proofs.bank.close_each.Given as goal

abbrev pub invariant-aggregators : goal.invariant-aggregators
invariant-aggregators l =
    Swept (Closes l.stopped (closing_event l.closing.all l.closing.moment)) l.at l.fn.aggregators.items
    l.aggregators.items
