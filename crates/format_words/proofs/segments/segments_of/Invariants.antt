use Rattle.std.proofs.Common.{map, length}
use Rattle.text_parts.specs.Split.{parts_of}
use Rattle.text_parts.proofs.Each.{HasRead}
use Rattle.format_words.specs.Segments.{segment}
use Rattle.format_words.specs.Views.{now_of}
use Rattle.format_words.proofs.segments.segments_of.Given as goal

abbrev pub invariant-loop-part : goal.invariant-loop-part
invariant-loop-part l = HasRead segment (parts_of 46 (0, l.text)) (map now_of l.segments.items) l.parts

abbrev pub decreases-loop-part : goal.decreases-loop-part
decreases-loop-part l = length l.parts
