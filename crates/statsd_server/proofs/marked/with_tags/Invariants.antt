use Rattle.std.proofs.Common.{◌≡◌, drop}
use Rattle.statsd_server.specs.Marked.{tags_mark}
use Rattle.statsd_server.proofs.marked.with_tags.Given as goal

-- the number with the tags, from here on
abbrev pub invariant-loop-tag : goal.invariant-loop-tag
invariant-loop-tag l = tags_mark l.mark (drop l.tag-index l.tags) ≡ tags_mark l.name_mark l.tags
