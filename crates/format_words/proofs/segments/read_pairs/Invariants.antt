use Rattle.std.proofs.Common.{map, length}
use Rattle.text_parts.specs.Split.{parts_of}
use Rattle.text_parts.proofs.Each.{HasRead}
use Rattle.format_words.specs.Segments.{pair}
use Rattle.format_words.specs.Views.{tag_view}
use Rattle.format_words.proofs.segments.read_pairs.Given as goal

abbrev pub invariant-loop-part : goal.invariant-loop-part
invariant-loop-part l = HasRead pair (parts_of l.separator (0, l.text)) (map tag_view l.pairs.items) l.parts

abbrev pub decreases-loop-part : goal.decreases-loop-part
decreases-loop-part l = length l.parts
