use Rattle.std.proofs.Common.{◌≡◌, ℕ, ◌-◌, List, [], ◌∷◌, Ok, length}
use Rattle.std.specs.Str.{IsCharBoundary}
use Rattle.text_parts.proofs.Items.{Reads}
use Rattle.metric.specs.Draft.{Tag, Field, StandsFor}
use Rattle.line_proto.specs.Reading.{field_at}
use Rattle.line_proto.proofs.read_items.read_fields.Given as goal

abbrev pub invariant-loop-alloc : goal.invariant-loop-alloc
invariant-loop-alloc l =
    (IsCharBoundary l.piece l.at)
    × (l.draft.parts.name ≡ l.fn.draft.parts.name)
    × ((first : Field) × (behind : ℕ) × (field_at l.piece l.fn.i ≡ Ok (first, behind))
    × ((fields : List Field) × (Reads field_at 44 l.piece behind fields l.at)
    × ((tags : List Tag) → StandsFor l.fn.draft tags [] → StandsFor l.draft tags (first ∷ fields))))

abbrev pub decreases-loop-alloc : goal.decreases-loop-alloc
decreases-loop-alloc l = length l.initial.piece - l.at
