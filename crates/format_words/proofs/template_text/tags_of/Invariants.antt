use Rattle.std.proofs.Common.{◌≡◌, take, map}
use Rattle.format_words.specs.Views.{tag_view}
use Rattle.format_words.proofs.template_text.tags_of.Given as goal

abbrev pub invariant-loop-pair : goal.invariant-loop-pair
invariant-loop-pair l = l.kept.items ≡ map tag_view (take l.pair-index l.pairs)
