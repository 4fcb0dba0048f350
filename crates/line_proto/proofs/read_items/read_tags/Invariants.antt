use Rattle.std.proofs.Common.{◌≡◌, ◌-◌, List, [], length}
use Rattle.std.specs.Str.{IsCharBoundary}
use Rattle.text_parts.proofs.Items.{Reads}
use Rattle.metric.specs.Draft.{Tag, StandsFor}
use Rattle.line_proto.specs.Reading.{tag_at}
use Rattle.line_proto.proofs.read_items.read_tags.Given as goal

abbrev pub invariant-loop-alloc : goal.invariant-loop-alloc
invariant-loop-alloc l = (IsCharBoundary l.piece l.at) × (l.draft.parts.name ≡ l.fn.draft.parts.name)
    × ((tags : List Tag) × (Reads tag_at 44 l.piece l.fn.i tags l.at) × (StandsFor l.draft tags []))

abbrev pub decreases-loop-alloc : goal.decreases-loop-alloc
decreases-loop-alloc l = length l.initial.piece - l.at
