use Rattle.std.proofs.Common.{sym, ◌∙◌, ap}
use Rattle.std.specs.Arc.{arc_value}
use Rattle.metric.specs.declared.metric.Content.{Content}
use Rattle.metric.proofs.ChangeLemmas.{found_at, no_key, none_left, key_at, on_err, tag_kept, tag_taken}
use Rattle.metric.proofs.change.drop_tag.Goals as goal

pub returns-in_default-clause-gone : goal.returns-in_default-clause-gone
returns-in_default-clause-gone c =
    let read = c.as_slice.ensures ∙ ap (λ (m : Content). m.tags) c.deref.ensures in
    sym (no_key (arc_value c.args.content.now).tags c.args.key.now
    (found_at _ _ _ _ _ read c.tag_at.ensures c.in_default.is))

pub returns-in_default-clause-ok : goal.returns-in_default-clause-ok
returns-in_default-clause-ok c =
    let read = c.as_slice.ensures ∙ ap (λ (m : Content). m.tags) c.deref.ensures in
    tag_kept _ _ (none_left (arc_value c.args.content.now).tags c.args.key.now
    (found_at _ _ _ _ _ read c.tag_at.ensures c.in_default.is))

pub returns-in-Some-get_mut-clause-gone : goal.returns-in-Some-get_mut-clause-gone
returns-in-Some-get_mut-clause-gone c =
    let read = c.as_slice.ensures ∙ ap (λ (m : Content). m.tags) c.deref.ensures in
    sym (key_at (arc_value c.args.content.now).tags _ c.args.key.now
    (found_at _ _ _ _ _ read c.tag_at.ensures c.in-Some.is))

pub returns-in-Some-get_mut-clause-ok : goal.returns-in-Some-get_mut-clause-ok
returns-in-Some-get_mut-clause-ok c =
    let read = c.as_slice.ensures ∙ ap (λ (m : Content). m.tags) c.deref.ensures in
    tag_taken _ c.in-Some-get_mut.own.now _ _ _ (c.in-Some-get_mut.ensures.value ∙ c.unshare.ensures) c.remove.ensures
    c.requires
    (found_at _ _ _ _ _ read c.tag_at.ensures c.in-Some.is)

pub returns-in_err-unshare-clause-there : goal.returns-in_err-unshare-clause-there
returns-in_err-unshare-clause-there c =
    let read = c.as_slice.ensures ∙ ap (λ (m : Content). m.tags) c.deref.ensures in
    on_err c.from_residual.result (key_at (arc_value c.args.content.now).tags _ c.args.key.now
    (found_at _ _ _ _ _ read c.tag_at.ensures c.in-Some.is))

pub returns-in-None-clause-there : goal.returns-in-None-clause-there
returns-in-None-clause-there c =
    let read = c.as_slice.ensures ∙ ap (λ (m : Content). m.tags) c.deref.ensures in
    key_at (arc_value c.args.content.now).tags _ c.args.key.now
    (found_at _ _ _ _ _ read c.tag_at.ensures c.in-Some.is)
