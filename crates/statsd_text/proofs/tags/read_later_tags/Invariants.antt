use Rattle.std.proofs.Common.{length}
use Rattle.std.specs.Prelude.{filter}
use Rattle.text_parts.specs.Split.{parts_of}
use Rattle.statsd_text.specs.Tags.{later_tag, is_filled}
use Rattle.statsd_text.specs.Views.{part_at}
use Rattle.statsd_text.proofs.PutTags.{HasPut}
use Rattle.statsd_text.proofs.tags.read_later_tags.Given as goal

abbrev pub invariant-loop-part : goal.invariant-loop-part
invariant-loop-part l =
    HasPut later_tag (filter is_filled (parts_of 44 (part_at l.text))) l.fn.tags.entries l.tags.entries
    (filter is_filled l.parts)

abbrev pub decreases-loop-part : goal.decreases-loop-part
decreases-loop-part l = length l.parts
