use Rattle.std.proofs.Common.{◌≡◌, ◌<◌, Ok, ap, length, rules}
use Rattle.metric_filter.specs.Kept.{metric_of}
use Rattle.proc_chain.specs.Seen.{passing}
use Rattle.proc_chain.proofs.GoingLemmas.{all_on, none_on}
use Rattle.proc_chain.proofs.PushLemmas.{kept_at, look_failed, look_removed, none_left, others_failed, passed_on}
use Rattle.proc_chain.proofs.chain.+push_from.Goals as goal

pub returns-then-at-len-clause-pushes : goal.returns-then-at-len-clause-pushes
returns-then-at-len-clause-pushes t c =
    let long : length c.args.stages.now.items ≡ c.args.at = search rules in
    none_left c.args.at c.args.stages.now.items c.args.m long

pub returns-in_err-look-clause-pushes : goal.returns-in_err-look-clause-pushes
returns-in_err-look-clause-pushes t c =
    let within : c.args.at < length c.args.stages.now.items = search rules in
    look_failed c.args.stages.now.items c.args.at c.index_mut.result.now c.look.new.self within
    c.index_mut.ensures.value c.look.ensures.step (metric_of c.args.m) c.from_residual.result c.from_residual.ensures.0
    c.look.ensures.stands

pub returns-in-Removed-clause-pushes : goal.returns-in-Removed-clause-pushes
returns-in-Removed-clause-pushes t c =
    let within : c.args.at < length c.args.stages.now.items = search rules in
    look_removed c.args.stages.now.items c.args.at c.index_mut.result.now c.look.new.self within
    c.index_mut.ensures.value c.look.ensures.step (metric_of c.args.m) c.in_ok-look.field-0 c.in_ok-look.ensures.sees
    c.in-Removed.is

pub returns-in-Passes-clause-pushes : goal.returns-in-Passes-clause-pushes
returns-in-Passes-clause-pushes t c =
    let within : c.args.at < length c.args.stages.now.items = search rules in
    passed_on c.args.stages.now.items c.args.at c.index_mut.result.now c.look.new.self within c.index_mut.ensures.value
    c.look.ensures.step (metric_of c.args.m) c.push_from.new.stages.items c.in-Passes.left c.push_from.result
    c.in_ok-look.field-0 c.look.ensures.stands c.in_ok-look.ensures.sees c.in-Passes.is c.push_from.ensures.pushes

pub returns-in_err-answer-in-Fresh-clause-pushes : goal.returns-in_err-answer-in-Fresh-clause-pushes
returns-in_err-answer-in-Fresh-clause-pushes t c =
    let within : c.args.at < length c.args.stages.now.items = search rules in
    others_failed c.args.stages.now.items c.args.at c.index_mut.result.now c.look.new.self within
    c.index_mut.ensures.value c.look.ensures.step (metric_of c.args.m) c.push_from-in-Fresh.new.stages.items
    c.in-Fresh.left c.push_from-in-Fresh.result c.from_residual-in_err-answer-in-Fresh.result
    c.in_err-answer-in-Fresh.field-0.0 c.look.ensures.stands c.in_err-answer-in-Fresh.was
    c.from_residual-in_err-answer-in-Fresh.ensures.0 c.push_from-in-Fresh.ensures.pushes

pub returns-in_ok-answer-in-Fresh-clause-pushes : goal.returns-in_ok-answer-in-Fresh-clause-pushes
returns-in_ok-answer-in-Fresh-clause-pushes t c =
    let within : c.args.at < length c.args.stages.now.items = search rules in
    kept_at c.args.stages.now.items c.args.at c.index_mut.result.now c.look.new.self within c.index_mut.ensures.value
    c.look.ensures.step (metric_of c.args.m) c.push_from-in-Fresh.new.stages.items c.in-Fresh.left
    c.push_from-in-Fresh.result c.in_ok-answer-in-Fresh.answer c.in-Fresh.fresh c.in_ok-look.field-0
    c.index_mut-in-Fresh.result.now c.keep.new.self c.in_ok-look.ensures.sees c.in-Fresh.is
    c.in_ok-answer-in-Fresh.was c.push_from-in-Fresh.ensures.pushes c.index_mut-in-Fresh.ensures.value
    c.keep.ensures.step c.keep.ensures.stands

pub returns-then-at-len-clause-goes_on : goal.returns-then-at-len-clause-goes_on
returns-then-at-len-clause-goes_on t c =
    let long : length c.args.stages.now.items ≡ c.args.at = search rules in
    none_on c.args.at c.args.stages.now.items c.args.m long

pub returns-in-Passes-clause-goes_on : goal.returns-in-Passes-clause-goes_on
returns-in-Passes-clause-goes_on t c =
    let within : c.args.at < length c.args.stages.now.items = search rules in
    all_on c.args.stages.now.items c.args.at c.index_mut.result.now c.look.new.self within c.index_mut.ensures.value
    c.args.m c.in-Passes.left c.push_from.result c.in_ok-look.field-0 c.in_ok-look.ensures.goes_on
    (ap passing c.in-Passes.is) c.push_from.ensures.goes_on

pub returns-in_ok-answer-in-Fresh-clause-goes_on : goal.returns-in_ok-answer-in-Fresh-clause-goes_on
returns-in_ok-answer-in-Fresh-clause-goes_on t c =
    let within : c.args.at < length c.args.stages.now.items = search rules in
    all_on c.args.stages.now.items c.args.at c.index_mut.result.now c.look.new.self within c.index_mut.ensures.value
    c.args.m c.in-Fresh.left (Ok c.in_ok-answer-in-Fresh.answer) c.in_ok-look.field-0 c.in_ok-look.ensures.goes_on
    (ap passing c.in-Fresh.is) c.in_ok-answer-in-Fresh.ensures.goes_on
