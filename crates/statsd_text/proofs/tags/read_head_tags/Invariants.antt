use Rattle.std.proofs.Common.{length}
use Rattle.statsd_text.specs.Tags.{head_tag}
use Rattle.statsd_text.proofs.PutTags.{HasPut}
use Rattle.statsd_text.proofs.tags.read_head_tags.Given as goal

abbrev pub invariant-loop-part : goal.invariant-loop-part
invariant-loop-part l = HasPut head_tag l.fn.parts l.fn.tags.entries l.tags.entries l.parts

abbrev pub decreases-loop-part : goal.decreases-loop-part
decreases-loop-part l = length l.parts
