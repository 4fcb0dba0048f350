use Rattle.std.proofs.Common.{◌∙◌, List, length, ap, subst, sym, rules}
use Rattle.std.proofs.lemmas.List.{length-map}
use Rattle.agg_bank.specs.Bank.{lines_of, AggMemory, BankMemory, BankStands}
use Rattle.agg_bank.specs.Ready.{verdict_at}
use Rattle.agg_bank.proofs.BankLemmas.{bank_kept, bank_offered, ready_of, verdict_is}
use Rattle.agg_bank.proofs.SweepLemmas.{long_as}
use Rattle.agg_bank.proofs.bank.Bank.offer.Goals as goal

pub prepare_all-requires : goal.prepare_all-requires
prepare_all-requires c =
    c.requires ∙ ap (λ (b : BankMemory). length (lines_of b)) (sym c.self.view_is)
    ∙ length-map c.self.inside.aggregators.items (λ (memory : AggMemory). memory.line)

pub returns-in_err-prepare_all-clause-err : goal.returns-in_err-prepare_all-clause-err
returns-in_err-prepare_all-clause-err c = λ lines start events stands.
    let i = c.self.inside in
    let kept = bank_kept lines start events i.aggregators.items i.stopped
    (subst (BankStands lines start events) (sym c.self.view_is) stands) c.prepare_all.new.aggregators.items
    c.in_err-prepare_all.ensures.err in
    search (rules, kept)

pub returns-in_err-prepare_all-clause-lines : goal.returns-in_err-prepare_all-clause-lines
returns-in_err-prepare_all-clause-lines c =
    c.in_err-prepare_all.ensures.err.lines ∙ ap (λ (b : BankMemory). lines_of b) c.self.view_is

pub add_all-requires : goal.add_all-requires
add_all-requires c =
    let i = c.self.inside in
    let prepared = c.in_ok-prepare_all.ensures.ok in
    record {
      lengths = c.requires ∙ ap (λ (b : BankMemory). length (lines_of b)) (sym c.self.view_is)
          ∙ length-map i.aggregators.items (λ (memory : AggMemory). memory.line)
          ∙ sym (long_as i.aggregators.items c.prepare_all.new.aggregators.items prepared.lines);
      ready = ready_of i.stopped c.args.views.now i.aggregators.items c.prepare_all.new.aggregators.items prepared;
    }

pub returns-clause-verdict : goal.returns-clause-verdict
returns-clause-verdict c = λ lines start events stands.
    let i = c.self.inside in
    c.verdict_of-verdict.ensures
    ∙ ap (λ (aggregators : List AggMemory). verdict_at i.stopped aggregators c.args.views.now) c.as_slice.ensures.value
    ∙ verdict_is lines start events i.aggregators.items i.stopped c.args.views.now
    (subst (BankStands lines start events) (sym c.self.view_is) stands)

pub returns-clause-ok : goal.returns-clause-ok
returns-clause-ok c = λ lines start events stands few.
    let i = c.self.inside in
    bank_offered lines start events i.aggregators.items i.stopped
    (subst (BankStands lines start events) (sym c.self.view_is) stands) c.args.views.now
    c.prepare_all.new.aggregators.items c.add_all.new.aggregators.items few c.in_ok-prepare_all.ensures.ok
    c.add_all.ensures

pub returns-clause-lines : goal.returns-clause-lines
returns-clause-lines c =
    c.add_all.ensures.lines ∙ c.in_ok-prepare_all.ensures.ok.lines
    ∙ ap (λ (b : BankMemory). lines_of b) c.self.view_is
