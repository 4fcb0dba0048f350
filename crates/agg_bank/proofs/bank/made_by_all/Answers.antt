use Rattle.std.proofs.Common.{◌++◌, length, ap, refl, arith}
use Rattle.std.proofs.lemmas.Option.{slice_get_read}
use Rattle.agg_bank.specs.Events.{closing_event}
use Rattle.agg_bank.specs.Made.{made_from}
use Rattle.agg_bank.specs.Ready.{lines_in}
use Rattle.agg_bank.proofs.BankLemmas.{made_end, made_more}
use Rattle.agg_bank.proofs.bank.made_by_all.Goals as goal

pub loop-aggregator-init : goal.loop-aggregator-init
loop-aggregator-init c = λ start events stop all.
    ap (λ made. made ++ made_from 0 (lines_in c.args.aggregators.now) start events
    (closing_event c.args.closing.all c.args.closing.moment)) c.new-made.ensures.items

pub loop-aggregator-preserved : goal.loop-aggregator-preserved
loop-aggregator-preserved c = λ start events stop all.
    let l = c.loop-aggregator in
    let rows = c.args.aggregators.now in
    let e = closing_event c.args.closing.all c.args.closing.moment in
    let one = c.aggregator-item.result in
    made_more start events e rows l.aggregator-index one l.made.items c.append_made.new.made.items
    (made_from 0 (lines_in rows) start events e) (omega arith) c.aggregator-item.is
    (c.in_ok-append_made.ensures l.aggregator-index start events stop (all l.aggregator-index one
    (slice_get_read rows (length rows) l.aggregator-index one refl (omega arith) c.aggregator-item.is)))
    (l.invariant start events stop all)

pub returns : goal.returns
returns c = λ start events stop all.
    let l = c.loop-aggregator in
    let rows = c.args.aggregators.now in
    let e = closing_event c.args.closing.all c.args.closing.moment in
    made_end start events e rows l.aggregator-index l.made.items (made_from 0 (lines_in rows) start events e)
    (omega arith) (l.invariant start events stop all)
