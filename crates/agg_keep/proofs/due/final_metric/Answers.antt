use Rattle.std.proofs.Common.{◌∙◌, ap, map, rules}
use Rattle.std.specs.Int.{w64}
use Rattle.std.proofs.lemmas.Int.{to_z-of_z}
use Rattle.agg_keep.specs.Final.{final_field}
use Rattle.agg_keep.proofs.DueLemmas.{is_final}
use Rattle.agg_keep.proofs.due.final_metric.Goals as goal

pub of-requires : goal.of-requires
of-requires c =
    is_final c.args.m.now _ c.shows_metric.ensures (c.in_ok-copy.ensures ∙ c.name.ensures.name)
    (c.in_ok-tag_copies.ensures ∙ c.tags.ensures)
    (c.in_ok-final_fields.ensures ∙ ap (map final_field) c.fields.ensures)
    (to_z-of_z w64 c.time.result (search rules) ∙ c.time.ensures)
