use Rattle.std.proofs.Common.{◌≡◌, ◌++◌, List, [], take}
use Rattle.metric.specs.Draft.{Tag, StandsFor}
use Rattle.graphite_text.proofs.applied.put_own.Given as goal

abbrev pub invariant-loop-key : goal.invariant-loop-key
invariant-loop-key l = record {
  name : l.draft.parts.name ≡ l.fn.draft.parts.name;
  kept : (given : List Tag) → StandsFor l.fn.draft given [] → StandsFor l.draft (given ++ take l.key-index l.tags) [];
}
