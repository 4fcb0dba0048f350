use Rattle.agg_bank.specs.Ready.{Prepares}
use Rattle.agg_bank.proofs.SweepLemmas.{Swept}
use Rattle.agg_bank.proofs.bank.prepare_all.Given as goal

abbrev pub invariant-aggregators : goal.invariant-aggregators
invariant-aggregators l = Swept (Prepares l.stopped l.views) l.at l.fn.aggregators.items l.aggregators.items
