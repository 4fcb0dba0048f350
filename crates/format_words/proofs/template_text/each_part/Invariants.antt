use Rattle.std.proofs.Common.{length}
use Rattle.text_parts.specs.Split.{parts_of}
use Rattle.text_parts.proofs.Each.{HasRead}
use Rattle.format_words.specs.Template.{template_part}
use Rattle.format_words.proofs.template_text.each_part.Given as goal

abbrev pub invariant-loop-text : goal.invariant-loop-text
invariant-loop-text l = HasRead template_part (parts_of 46 (0, l.text)) l.parts.items l.texts

abbrev pub decreases-loop-text : goal.decreases-loop-text
decreases-loop-text l = length l.texts
