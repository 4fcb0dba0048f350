use Rattle.std.proofs.Common.{◌∙◌}
use Rattle.statsd_text.proofs.KeptTags.{inserted}
use Rattle.statsd_text.proofs.tags.put_tag.Goals as goal

pub returns : goal.returns
returns c = c.in_ok-insert.ensures.entries ∙ rw (c.in_ok-key.ensures, c.in_ok-value.ensures) (inserted _ _ _)
