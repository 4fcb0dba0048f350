use Rattle.std.proofs.Common.{◌≡◌, ◌++◌, List, [], take, map}
use Rattle.metric.specs.Draft.{Tag, StandsFor}
use Rattle.format_words.specs.Views.{tag_view}
use Rattle.graphite_text.proofs.applied.put_given.Given as goal

abbrev pub invariant-loop-key : goal.invariant-loop-key
invariant-loop-key l = record {
  name : l.draft.parts.name ≡ l.fn.draft.parts.name;
  kept : (given : List Tag) → StandsFor l.fn.draft given [] → StandsFor l.draft
      (given ++ map tag_view (take l.key-index l.tags)) [];
}
