use Rattle.std.proofs.Common.{◌<◌, length, arith}
use Rattle.agg_bank.specs.Events.{closing_event}
use Rattle.agg_bank.specs.Ready.{Closes}
use Rattle.agg_bank.proofs.SweepLemmas.{all_swept, long_as, more_swept, none_swept}
use Rattle.agg_bank.proofs.bank.close_each.Goals as goal

pub aggregators-init : goal.aggregators-init
aggregators-init c =
    none_swept (Closes c.args.stopped (closing_event c.args.closing.all c.args.closing.moment))
    c.args.aggregators.now.items

pub index_mut-requires : goal.index_mut-requires
index_mut-requires c =
    let l = c.aggregators in
    omega (
      arith,
      l.aggregators.ok.0,
      c.len-at-end.ensures,
      c.args.aggregators.now.ok.0,
      long_as c.args.aggregators.now.items l.aggregators.items l.invariant.lines,
    )

pub aggregators-preserved : goal.aggregators-preserved
aggregators-preserved c =
    let l = c.aggregators in
    let olds = c.args.aggregators.now.items in
    let news = l.aggregators.items in
    let within : l.at < length news =
    omega (arith, c.len-at-end.ensures, c.args.aggregators.now.ok.0, long_as olds news l.invariant.lines) in
    let closed = c.close.ensures in
    more_swept (Closes c.args.stopped (closing_event c.args.closing.all c.args.closing.moment)) l.at olds news
    l.invariant c.index_mut.result.now c.close.new.self within c.index_mut.ensures.value closed.line
    (record {
      line = closed.line;
      stands = λ start events stop stands. closed.stands l.at start events stop stands;
    })

pub returns : goal.returns
returns c =
    let l = c.aggregators in
    all_swept (Closes c.args.stopped (closing_event c.args.closing.all c.args.closing.moment)) l.at
    c.args.aggregators.now.items l.aggregators.items l.invariant
    (omega (arith, c.len-at-end.ensures, c.args.aggregators.now.ok.0))
