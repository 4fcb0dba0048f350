use Rattle.std.proofs.Common.{◌<◌, length, refl, arith}
use Rattle.std.proofs.lemmas.Option.{slice_get_read}
use Rattle.agg_bank.specs.Ready.{Adds}
use Rattle.agg_bank.proofs.SweepLemmas.{all_swept, long_as, more_swept, none_swept, was_at}
use Rattle.agg_bank.proofs.bank.add_all.Goals as goal

pub aggregators-init : goal.aggregators-init
aggregators-init c = none_swept (Adds c.args.stopped c.args.views.now) c.args.aggregators.now.items

pub index_mut-requires : goal.index_mut-requires
index_mut-requires c =
    let l = c.aggregators in
    omega (
      arith,
      c.requires.lengths,
      l.aggregators.ok.0,
      long_as c.args.aggregators.now.items l.aggregators.items l.invariant.lines,
    )

pub add_prepared-requires : goal.add_prepared-requires
add_prepared-requires c =
    let l = c.aggregators in
    let olds = c.args.aggregators.now.items in
    let news = l.aggregators.items in
    let views = c.args.views.now in
    let within : l.at < length news = omega (arith, c.requires.lengths, long_as olds news l.invariant.lines) in
    c.requires.ready l.at c.index_mut.result.now
    (was_at (Adds c.args.stopped views) l.at olds news l.invariant c.index_mut.result.now within
    c.index_mut.ensures.value) c.index-views-at.result
    (slice_get_read views (length views) l.at c.index-views-at.result refl (omega arith) c.index-views-at.is)

pub aggregators-preserved : goal.aggregators-preserved
aggregators-preserved c =
    let l = c.aggregators in
    let olds = c.args.aggregators.now.items in
    let news = l.aggregators.items in
    let views = c.args.views.now in
    let within : l.at < length news = omega (arith, c.requires.lengths, long_as olds news l.invariant.lines) in
    let added = c.add_prepared.ensures in
    more_swept (Adds c.args.stopped views) l.at olds news l.invariant c.index_mut.result.now
    c.add_prepared.new.self within c.index_mut.ensures.value added.line
    (record {
      line = added.line;
      stands = λ start events stop few stands. added.stands l.at start events views
          (slice_get_read views (length views) l.at c.index-views-at.result refl (omega arith) c.index-views-at.is)
          stop few stands;
    })

pub returns : goal.returns
returns c =
    let l = c.aggregators in
    all_swept (Adds c.args.stopped c.args.views.now) l.at c.args.aggregators.now.items l.aggregators.items
    l.invariant (omega (arith, c.requires.lengths))
