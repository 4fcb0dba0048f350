use Rattle.std.proofs.Common.{◌≡◌, ◌<◌, ◌+◌, ◌++◌, [], ◌∷◌, ◌∙◌, suc, map, set, ap, sym, subst, get_or, take, drop}
use Rattle.std.proofs.Common.{length, arith}
use Rattle.std.proofs.lemmas.List.{take_more, take_all, get_or_default}
use Rattle.account.specs.declared.entry.Report.{Report}
use Rattle.pipeline_core.specs.ToldView.{ToldState, no_reports, reports_in}
use Rattle.pipeline_core.specs.Steps.{told_with}
use Rattle.pipeline_core.proofs.TellingLemmas.{telling_none, telling_more, told_all, next_known, next_some}
use Rattle.pipeline_core.proofs.TellingLemmas.{next_delivered, next_rejected, next_place, next_of, no_report}
use Rattle.pipeline_core.proofs.settling.tell.Goals as goal

pub loop-report-init : goal.loop-report-init
loop-report-init c =
    telling_none c.args.account.now c.args.told.now.items c.args.reports.now c.requires.known c.requires.places
    c.requires.some c.requires.few

pub group_settled-requires-clause-within : goal.group_settled-requires-clause-within
group_settled-requires-clause-within c =
    let k = c.loop-report.report-index in
    let known = next_known c.args.account.now c.args.told.now.items (take k c.args.reports.now)
    (drop (suc k) c.args.reports.now) (get_or c.args.reports.now k no_report) c.loop-report.account
    c.loop-report.told.items (next_of c.args.account.now c.args.told.now.items c.args.reports.now k
    c.loop-report.account c.loop-report.told.items c.loop-report-test.true c.loop-report.invariant) in
    omega (arith, known.1, c.loop-report.invariant.inputs)

pub group_settled-requires-clause-some : goal.group_settled-requires-clause-some
group_settled-requires-clause-some c =
    let k = c.loop-report.report-index in
    next_some c.args.account.now c.args.told.now.items (take k c.args.reports.now)
    (drop (suc k) c.args.reports.now) (get_or c.args.reports.now k no_report) c.loop-report.account
    c.loop-report.told.items (next_of c.args.account.now c.args.told.now.items c.args.reports.now k
    c.loop-report.account c.loop-report.told.items c.loop-report-test.true c.loop-report.invariant)

pub group_settled-requires-clause-delivered : goal.group_settled-requires-clause-delivered
group_settled-requires-clause-delivered c =
    let k = c.loop-report.report-index in
    next_delivered c.args.account.now c.args.told.now.items (take k c.args.reports.now)
    (drop (suc k) c.args.reports.now) (get_or c.args.reports.now k no_report) c.loop-report.account
    c.loop-report.told.items (next_of c.args.account.now c.args.told.now.items c.args.reports.now k
    c.loop-report.account c.loop-report.told.items c.loop-report-test.true c.loop-report.invariant)

pub group_settled-requires-clause-rejected : goal.group_settled-requires-clause-rejected
group_settled-requires-clause-rejected c =
    let k = c.loop-report.report-index in
    next_rejected c.args.account.now c.args.told.now.items (take k c.args.reports.now)
    (drop (suc k) c.args.reports.now) (get_or c.args.reports.now k no_report) c.loop-report.account
    c.loop-report.told.items (next_of c.args.account.now c.args.told.now.items c.args.reports.now k
    c.loop-report.account c.loop-report.told.items c.loop-report-test.true c.loop-report.invariant)

pub index_mut-requires : goal.index_mut-requires
index_mut-requires c =
    let k = c.loop-report.report-index in
    let known = next_known c.args.account.now c.args.told.now.items (take k c.args.reports.now)
    (drop (suc k) c.args.reports.now) (get_or c.args.reports.now k no_report) c.loop-report.account
    c.loop-report.told.items (next_of c.args.account.now c.args.told.now.items c.args.reports.now k
    c.loop-report.account c.loop-report.told.items c.loop-report-test.true c.loop-report.invariant) in
    omega (arith, known.0, c.loop-report.invariant.as_many)

pub push-requires : goal.push-requires
push-requires c =
    let k = c.loop-report.report-index in
    let h = next_of c.args.account.now c.args.told.now.items c.args.reports.now k
    c.loop-report.account c.loop-report.told.items c.loop-report-test.true c.loop-report.invariant in
    let known = next_known c.args.account.now c.args.told.now.items (take k c.args.reports.now)
    (drop (suc k) c.args.reports.now) (get_or c.args.reports.now k no_report) c.loop-report.account
    c.loop-report.told.items h in
    subst (λ (x : ToldState). length x.reports < x.places)
    (get_or_default c.loop-report.told.items (get_or c.args.reports.now k no_report).input no_reports
    c.index_mut.result.now (omega (arith, known.0, c.loop-report.invariant.as_many)) ∙ sym c.index_mut.ensures.value)
    (next_place c.args.account.now c.args.told.now.items (take k c.args.reports.now)
    (drop (suc k) c.args.reports.now) (get_or c.args.reports.now k no_report) c.loop-report.account
    c.loop-report.told.items h)

pub loop-report-preserved : goal.loop-report-preserved
loop-report-preserved c =
    let k = c.loop-report.report-index in
    let r : Report = get_or c.args.reports.now k no_report in
    let h = next_of c.args.account.now c.args.told.now.items c.args.reports.now k
    c.loop-report.account c.loop-report.told.items c.loop-report-test.true c.loop-report.invariant in
    let known = next_known c.args.account.now c.args.told.now.items (take k c.args.reports.now)
    (drop (suc k) c.args.reports.now) r c.loop-report.account c.loop-report.told.items h in
    let place : c.index_mut.result.now ≡ get_or c.loop-report.told.items r.input no_reports =
    c.index_mut.ensures.value ∙ sym (get_or_default c.loop-report.told.items r.input no_reports
    c.index_mut.result.now (omega (arith, known.0, c.loop-report.invariant.as_many))) in
    let on : k + 1 ≡ suc k = omega arith in
    rw (take_more c.args.reports.now k no_report c.loop-report-test.true, on)
    (telling_more c.args.account.now c.args.told.now.items (take k c.args.reports.now) (drop
    (suc k) c.args.reports.now) r
    c.loop-report.account c.loop-report.told.items h c.group_settled.new.self _ c.group_settled.ensures
    (ap (λ (x : ToldState). set c.loop-report.told.items r.input x) (c.push.ensures
    ∙ ap (λ (x : ToldState). record x { reports = x.reports ++ r ∷ [] }) place)))

pub returns-clause-told : goal.returns-clause-told
returns-clause-told c =
    told_all c.args.account.now c.args.told.now.items (take c.loop-report.report-index c.args.reports.now)
    (drop c.loop-report.report-index c.args.reports.now) c.loop-report.account c.loop-report.told.items
    c.loop-report.invariant
    ∙ ap (told_with (map reports_in c.args.told.now.items)) (take_all c.loop-report.report-index c.args.reports.now
    (omega (arith, c.loop-report-test.false)))
