use Rattle.std.proofs.Common.{◌≡◌, [], drop}
use denote.Shadow.{shadow}
use denote.Text.{Utf8}
use Rattle.journal_reader.specs.MetricReading.{are_tags}
use Rattle.journal_reader.proofs.tags.are_tags.Given as goal

-- the tags that are left, behind the key before them
abbrev pub invariant-loop-key : goal.invariant-loop-key
invariant-loop-key l = record {
  utf8 : shadow (Utf8 l.before);
  left : are_tags l.before (drop l.key-index l.tags) ≡ are_tags [] l.tags;
}
