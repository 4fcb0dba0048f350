use Rattle.std.proofs.Common.{length}
use Rattle.text_parts.specs.Split.{parts_of}
use Rattle.text_parts.proofs.Each.{HasRead}
use Rattle.statsd_text.specs.Said.{part_of}
use Rattle.statsd_text.specs.Views.{part_at}
use Rattle.statsd_text.proofs.said.read_parts.Given as goal

abbrev pub invariant-loop-part : goal.invariant-loop-part
invariant-loop-part l = HasRead part_of (parts_of 58 (part_at l.text)) l.said l.parts

abbrev pub decreases-loop-part : goal.decreases-loop-part
decreases-loop-part l = length l.parts
