use Rattle.std.proofs.Common.{◌∙◌, sym, ap, rules, List, ℕ}
use Rattle.std.specs.Int.{w64}
use Rattle.std.proofs.lemmas.Int.{to_z-of_z}
use Rattle.metric.specs.Pairs.{has_key}
use Rattle.metric.specs.declared.value.Value.{Value}
use Rattle.proc_edit.specs.Rename.{with_key_renamed}
use Rattle.proc_edit.proofs.RenameLemmas.{field_renamed}
use Rattle.proc_edit.proofs.rename.rename_field.Goals as goal

pub of-requires : goal.of-requires
of-requires c =
    let from = c.args.from.now in
    let dest = c.args.dest.now in
    let has = sym (ap (λ (fields : List (List ℕ × Value)). has_key fields from) c.fields.ensures)
    ∙ sym c.has_key.ensures ∙ c.if-not-has_key.false in
    field_renamed c.args.m.now from dest _ _ _ _ c.shows_metric.ensures c.requires.filled c.utf8.dest c.requires.other
    has
    (c.in_ok-copy.ensures ∙ c.name.ensures.name)
    (c.in_ok-tag_copies.ensures ∙ c.tags.ensures)
    (c.in_ok-renamed_fields.ensures ∙ ap (λ (fields : List (List ℕ × Value)). with_key_renamed fields from dest)
    c.fields-2.ensures)
    (to_z-of_z w64 c.time.result (search rules) ∙ c.time.ensures)
