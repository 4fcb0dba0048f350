use Rattle.std.proofs.Common.{◌<◌, length, refl, sym, ◌∙◌, ap, subst, List, ℕ}
use Rattle.std.specs.Arc.{arc_value}
use Rattle.metric.specs.declared.metric.Content.{Content}
use Rattle.metric.specs.declared.value.Value.{Value}
use Rattle.metric.proofs.ChangeLemmas.{found_at, no_key, key_at, is_lost, on_err, field_kept, field_taken}
use Rattle.metric.proofs.change.drop_field.Goals as goal

pub returns-in_default-clause-gone : goal.returns-in_default-clause-gone
returns-in_default-clause-gone c =
    let read = c.as_slice-fields.ensures ∙ ap (λ (m : Content). m.fields) c.deref.ensures in
    let none = no_key (arc_value c.args.content.now).fields c.args.key.now
    (found_at _ _ _ _ _ read c.field_at.ensures c.in_default.is) in
    rw none refl

pub returns-in_default-clause-ok : goal.returns-in_default-clause-ok
returns-in_default-clause-ok c =
    let read = c.as_slice-fields.ensures ∙ ap (λ (m : Content). m.fields) c.deref.ensures in
    field_kept _ _ (no_key (arc_value c.args.content.now).fields c.args.key.now
    (found_at _ _ _ _ _ read c.field_at.ensures c.in_default.is))

pub returns-in-Some-get_mut-clause-gone : goal.returns-in-Some-get_mut-clause-gone
returns-in-Some-get_mut-clause-gone c =
    let read = c.as_slice-fields.ensures ∙ ap (λ (m : Content). m.fields) c.deref.ensures in
    let more = subst (λ (fields : List (List ℕ × Value)). 1 < length fields) read c.if-fields-le-LEAST_FIELDS.false in
    sym (is_lost _ _ (key_at (arc_value c.args.content.now).fields _ c.args.key.now
    (found_at _ _ _ _ _ read c.field_at.ensures c.in-Some.is)) more)

pub returns-in-Some-get_mut-clause-ok : goal.returns-in-Some-get_mut-clause-ok
returns-in-Some-get_mut-clause-ok c =
    let read = c.as_slice-fields.ensures ∙ ap (λ (m : Content). m.fields) c.deref.ensures in
    let more = subst (λ (fields : List (List ℕ × Value)). 1 < length fields) read c.if-fields-le-LEAST_FIELDS.false in
    field_taken _ c.in-Some-get_mut.own.now _ _ _ (c.in-Some-get_mut.ensures.value ∙ c.unshare.ensures) c.remove.ensures
    c.requires more
    (found_at _ _ _ _ _ read c.field_at.ensures c.in-Some.is)

pub returns-in_err-unshare-clause-there : goal.returns-in_err-unshare-clause-there
returns-in_err-unshare-clause-there c =
    let read = c.as_slice-fields.ensures ∙ ap (λ (m : Content). m.fields) c.deref.ensures in
    let more = subst (λ (fields : List (List ℕ × Value)). 1 < length fields) read c.if-fields-le-LEAST_FIELDS.false in
    on_err c.from_residual.result (is_lost _ _ (key_at (arc_value c.args.content.now).fields _ c.args.key.now
    (found_at _ _ _ _ _ read c.field_at.ensures c.in-Some.is)) more)

pub returns-in-None-clause-there : goal.returns-in-None-clause-there
returns-in-None-clause-there c =
    let read = c.as_slice-fields.ensures ∙ ap (λ (m : Content). m.fields) c.deref.ensures in
    let more = subst (λ (fields : List (List ℕ × Value)). 1 < length fields) read c.if-fields-le-LEAST_FIELDS.false in
    is_lost _ _ (key_at (arc_value c.args.content.now).fields _ c.args.key.now
    (found_at _ _ _ _ _ read c.field_at.ensures c.in-Some.is)) more
