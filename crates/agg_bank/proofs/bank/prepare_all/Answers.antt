use Rattle.std.proofs.Common.{◌<◌, ◌+◌, ◌∙◌, length, set, subst, Option, arith, rules}
use Rattle.std.proofs.lemmas.Option.{get_or_from_slice_get}
use Rattle.metric.specs.declared.metric.Content.{Content}
use Rattle.agg_bank.specs.Ready.{IsReadyFor, Keeps, Prepares}
use Rattle.agg_bank.proofs.BankLemmas.{keeps_self}
use Rattle.agg_bank.proofs.SweepLemmas.{all_swept, long_as, more_swept, none_swept, rest_stays, swept_so}
use Rattle.agg_bank.proofs.bank.prepare_all.Goals as goal

pub aggregators-init : goal.aggregators-init
aggregators-init c = none_swept (Prepares c.args.stopped c.args.views.now) c.args.aggregators.now.items

pub index_mut-requires : goal.index_mut-requires
index_mut-requires c =
    let l = c.aggregators in
    omega (
      arith,
      c.requires,
      l.aggregators.ok.0,
      long_as c.args.aggregators.now.items l.aggregators.items l.invariant.lines,
    )

pub returns-in_err-prepare-clause-err : goal.returns-in_err-prepare-clause-err
returns-in_err-prepare-clause-err c =
    let l = c.aggregators in
    let olds = c.args.aggregators.now.items in
    let news = l.aggregators.items in
    let keeps = c.prepare.ensures.keeps in
    let within : l.at < length news = omega (arith, c.requires, long_as olds news l.invariant.lines) in
    let before = swept_so (Prepares c.args.stopped c.args.views.now) l.at olds news l.invariant (λ at. Keeps)
    (λ k x y p. p.keeps) in
    let behind = more_swept (λ at. Keeps) l.at olds news before c.index_mut.result.now c.prepare.new.self within
    c.index_mut.ensures.value keeps.line keeps in
    let kept = rest_stays (λ at. Keeps) (l.at + 1) olds (set news l.at c.prepare.new.self) behind
    (λ k x. keeps_self x) in
    search (rules, kept)

pub aggregators-preserved : goal.aggregators-preserved
aggregators-preserved c =
    let l = c.aggregators in
    let olds = c.args.aggregators.now.items in
    let news = l.aggregators.items in
    let keeps = c.prepare.ensures.keeps in
    let within : l.at < length news = omega (arith, c.requires, long_as olds news l.invariant.lines) in
    more_swept (Prepares c.args.stopped c.args.views.now) l.at olds news l.invariant c.index_mut.result.now
    c.prepare.new.self within c.index_mut.ensures.value keeps.line
    (record {
      keeps = keeps;
      ready = λ view is. subst (λ (v : Option Content). IsReadyFor c.args.stopped v c.prepare.new.self)
          (c.index-views-at.is
          ∙ get_or_from_slice_get c.args.views.now l.at view c.index-views-at.result is)
          c.in_ok-prepare.ensures.ready;
    })

pub returns-clause-ok : goal.returns-clause-ok
returns-clause-ok c =
    let l = c.aggregators in
    all_swept (Prepares c.args.stopped c.args.views.now) l.at c.args.aggregators.now.items l.aggregators.items
    l.invariant (omega (arith, c.requires))
