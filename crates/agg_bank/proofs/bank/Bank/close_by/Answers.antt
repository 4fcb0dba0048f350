use Rattle.std.proofs.Common.{◌∙◌, ap, subst, sym}
use Rattle.agg_bank.specs.Bank.{lines_of, BankMemory, BankStands}
use Rattle.agg_bank.proofs.BankLemmas.{bank_closed}
use Rattle.agg_bank.proofs.bank.Bank.close_by.Goals as goal

pub returns-clause-stands : goal.returns-clause-stands
returns-clause-stands c = λ lines start events stands.
    let i = c.self.inside in
    bank_closed lines start events i.aggregators.items i.stopped
    (subst (BankStands lines start events) (sym c.self.view_is) stands) c.args.closing.all c.args.closing.moment
    c.close_each.new.aggregators.items c.close_each.ensures

pub returns-clause-lines : goal.returns-clause-lines
returns-clause-lines c = c.close_each.ensures.lines ∙ ap (λ (b : BankMemory). lines_of b) c.self.view_is
