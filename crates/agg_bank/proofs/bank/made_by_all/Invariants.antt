use Rattle.std.proofs.Common.{◌≡◌, ◌++◌, ℤ, List, drop}
use Rattle.agg_bank.specs.Events.{closing_event, has_stopped, BankEvent}
use Rattle.agg_bank.specs.Made.{made_from}
use Rattle.agg_bank.specs.Ready.{lines_in, AllStand}
use Rattle.agg_bank.proofs.bank.made_by_all.Given as goal

abbrev pub invariant-loop-aggregator : goal.invariant-loop-aggregator
invariant-loop-aggregator l =
    (start : ℤ) (events : List BankEvent) → l.stopped ≡ has_stopped events → AllStand start events l.aggregators
    → l.made.items ++ made_from l.aggregator-index (lines_in (drop l.aggregator-index l.aggregators)) start events
    (closing_event l.closing.all l.closing.moment)
    ≡ made_from 0 (lines_in l.aggregators) start events (closing_event l.closing.all l.closing.moment)
