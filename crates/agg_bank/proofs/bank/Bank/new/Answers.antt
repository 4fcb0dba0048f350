use Rattle.std.proofs.Common.{[], ◌+◌, ℤ, false, List, of_z, take, to_z, subst, sym, arith}
use Rattle.std.proofs.lemmas.Int.{to_z-of_z}
use Rattle.std.proofs.lemmas.List.{take_all}
use Rattle.std.specs.Int.{w64}
use Rattle.account.specs.declared.setup.AggLine.{AggLine}
use Rattle.agg_bank.specs.Bank.{AggMemory, BankStands}
use Rattle.agg_bank.proofs.BankLemmas.{bank_of, begun, begun_more}
use Rattle.agg_bank.proofs.bank.Bank.new.Goals as goal

pub loop-line-init : goal.loop-line-init
loop-line-init c = begun (to_z w64 (of_z w64 c.args.start)) _ c.in_ok-aggregators.ensures.items

pub loop-line-preserved : goal.loop-line-preserved
loop-line-preserved c =
    let l = c.loop-line in
    let start = to_z w64 (of_z w64 c.args.start) in
    let front = take (l.line-index + 1) c.args.lines.now in
    subst (λ (rows : List AggMemory). BankStands front start [] (bank_of rows false))
    (sym c.in_ok-push.ensures.items)
    (begun_more c.args.lines.now start l.aggregators.items c.new.result l.line-index _ c.loop-line-test.true
    c.new.ensures.line c.new.ensures.stands l.invariant)

pub returns : goal.returns
returns c =
    let l = c.loop-line in
    subst (λ (start : ℤ). BankStands c.args.lines.now start [] (bank_of l.aggregators.items false))
    (to_z-of_z w64 c.args.start c.ranges.start)
    (subst (λ (lines : List AggLine). BankStands lines (to_z w64 (of_z w64 c.args.start)) []
    (bank_of l.aggregators.items false)) (take_all l.line-index c.args.lines.now (omega arith)) l.invariant)
