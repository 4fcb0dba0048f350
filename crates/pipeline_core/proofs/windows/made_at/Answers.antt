use Rattle.std.proofs.Common.{◌≡◌, true, false}
use Rattle.std.specs.Prelude.{IfOk}
use Rattle.agg_bank.specs.Events.{BankEvent}
use Rattle.agg_bank.specs.Made.{made_at}
use Rattle.pipeline_core.proofs.WindowsKept.{event_read}
use Rattle.pipeline_core.proofs.windows.made_at.Goals as goal

pub returns-then-all : goal.returns-then-all
returns-then-all c = λ lines start events stands.
    event_read (λ (e : BankEvent). IfOk c.due_at_stop.result (λ made. made.items ≡ made_at lines start events e))
    c.args.all true c.args.moment c.ranges.moment c.if-all.true (c.due_at_stop.ensures lines start events stands)

pub returns-else-all : goal.returns-else-all
returns-else-all c = λ lines start events stands.
    event_read (λ (e : BankEvent). IfOk c.due.result (λ made. made.items ≡ made_at lines start events e))
    c.args.all false c.args.moment c.ranges.moment c.if-all.false (c.due.ensures lines start events stands)
