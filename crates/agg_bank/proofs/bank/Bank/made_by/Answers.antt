use Rattle.std.proofs.Common.{◌≡◌, ◌∙◌, List, ap, subst, sym, IfOk}
use Rattle.metric.specs.declared.metric.Content.{Content}
use Rattle.agg_bank.specs.Bank.{AggMemory, BankStands}
use Rattle.agg_bank.specs.Events.{closing_event}
use Rattle.agg_bank.specs.Made.{made_from}
use Rattle.agg_bank.specs.Ready.{lines_in, AllStand}
use Rattle.agg_bank.proofs.BankLemmas.{bank_of, made_all}
use Rattle.agg_bank.proofs.bank.Bank.made_by.Goals as goal

pub returns : goal.returns
returns c = λ lines start events stands.
    let i = c.self.inside in
    let closing = c.args.closing in
    let s : BankStands lines start events (bank_of i.aggregators.items i.stopped) =
    subst (BankStands lines start events) (sym c.self.view_is) stands in
    subst (λ (whole : List Content). IfOk c.made_by_all.result (λ made. made.items ≡ whole))
    (ap (λ (aggregators : List AggMemory).
    made_from 0 (lines_in aggregators) start events (closing_event closing.all closing.moment))
    c.as_slice-aggregators.ensures.value
    ∙ made_all lines start events i.aggregators.items i.stopped s closing.all closing.moment)
    (c.made_by_all.ensures start events s.stopped
    (subst (AllStand start events) (sym c.as_slice-aggregators.ensures.value) s.each))
