use Rattle.std.proofs.Common.{◌≡◌, ◌++◌, take}
use Rattle.std.specs.List.{flat_map}
use Rattle.journal_text.specs.MetricText.{tag_text}
use Rattle.journal_text.proofs.metrics.append_tags.Given as goal

abbrev pub invariant-loop-key : goal.invariant-loop-key
invariant-loop-key l = l.out.items ≡ l.initial.out.items ++ flat_map tag_text (take l.key-index l.tags)
