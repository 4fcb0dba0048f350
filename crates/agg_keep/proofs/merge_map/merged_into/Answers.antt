use Rattle.std.proofs.Common.{◌∙◌, rules}
use Rattle.std.specs.Int.{w64}
use Rattle.std.proofs.lemmas.Int.{to_z-of_z}
use Rattle.agg_keep.proofs.MergeLemmas.{fields_put, is_merged}
use Rattle.agg_keep.proofs.merge_map.merged_into.Goals as goal

pub of-requires-2 : goal.of-requires-2
of-requires-2 c =
    is_merged c.args.held.now c.args.m.now _ c.shows_metric.ensures c.shows_metric-2.ensures
    (c.in_ok-copy.ensures ∙ c.name.ensures.name) (c.in_ok-tag_copies.ensures ∙ c.tags.ensures)
    (c.of.ensures ∙ fields_put _ _ _ _ _ _ c.in_ok-fields.ensures c.fields.ensures c.fields-2.ensures
    c.in_ok-put_all.ensures) (to_z-of_z w64 c.time.result (search rules) ∙ c.time.ensures)
