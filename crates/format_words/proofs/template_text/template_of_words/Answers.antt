use Rattle.std.proofs.Common.{sym, ap, subst, ◌∙◌, map}
use Rattle.std.specs.Prelude.{option_map}
use Rattle.format_words.specs.Segments.{AreKeyed}
use Rattle.format_words.specs.Views.{now_of, tag_view, tags_view}
use Rattle.format_words.proofs.Filled.{parts_named, pairs_some}
use Rattle.format_words.proofs.template_text.template_of_words.Goals as goal

pub of-requires-clause-named : goal.of-requires-clause-named
of-requires-clause-named c = parts_named c.args.words.now.template.now c.in_ok-parts.parts.items c.in_ok-parts.ensures

pub of-requires-clause-keyed : goal.of-requires-clause-keyed
of-requires-clause-keyed c =
    subst AreKeyed (sym (c.in_ok-tags.ensures ∙ ap (map tag_view) c.as_slice.ensures.value))
    (pairs_some 44 (option_map now_of c.args.words.now.tags) (tags_view c.in_ok-pairs.pairs) c.in_ok-pairs.ensures)
