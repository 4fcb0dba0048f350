use Rattle.std.proofs.Common.{true, false, [], ◌∷◌, ◌++◌}
use Rattle.agg_bank.specs.Bank.{BankStands}
use Rattle.agg_bank.specs.Events.{BankEvent}
use Rattle.pipeline_core.proofs.WindowsKept.{event_read}
use Rattle.pipeline_core.proofs.windows.close_at.Goals as goal

pub returns-then-all-clause-stands : goal.returns-then-all-clause-stands
returns-then-all-clause-stands c = λ lines start events stands.
    event_read (λ (e : BankEvent). BankStands lines start (events ++ e ∷ []) c.close_all.new.self)
    c.args.all true c.args.moment c.ranges.moment c.if-all.true (c.close_all.ensures.stands lines start events stands)

pub returns-else-all-clause-stands : goal.returns-else-all-clause-stands
returns-else-all-clause-stands c = λ lines start events stands.
    event_read (λ (e : BankEvent). BankStands lines start (events ++ e ∷ []) c.close.new.self)
    c.args.all false c.args.moment c.ranges.moment c.if-all.false (c.close.ensures.stands lines start events stands)
