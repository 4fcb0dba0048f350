use Rattle.std.proofs.Common.{◌≡◌, ◌++◌, ◌-◌, ◌≤◌, List, [], take, map, length}
use Rattle.std.specs.Prelude.{flat_map}
use Rattle.metric.specs.Draft.{Tag, StandsFor}
use Rattle.graphite_text.specs.Applied.{tags_at}
use Rattle.format_words.specs.Views.{now_of}
use Rattle.graphite_text.proofs.applied.put_collected.Given as goal

abbrev pub invariant-loop-i : goal.invariant-loop-i
invariant-loop-i l = record {
  name : l.draft.parts.name ≡ l.fn.draft.parts.name;
  within : l.i ≤ length l.segments;
  kept : (given : List Tag) → StandsFor l.fn.draft given []
      → StandsFor l.draft (given ++ flat_map (tags_at l.separator l.parts (map now_of l.segments)) (take l.i l.parts))
      [];
}

abbrev pub decreases-loop-i : goal.decreases-loop-i
decreases-loop-i l = length l.parts - l.i
