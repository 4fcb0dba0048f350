use Rattle.std.proofs.Common.{◌≡◌, ◌-◌, ℕ, List, ◌∷◌, Ok, length, map}
use Rattle.std.specs.Str.{IsCharBoundary}
use Rattle.text_parts.proofs.Items.{Reads}
use Rattle.metric.specs.Draft.{Tag}
use Rattle.openmetrics_text.specs.Labels.{label_at, AreNamed}
use Rattle.openmetrics_text.specs.Views.{label_view}
use Rattle.openmetrics_text.proofs.labels.labels_at.Given as goal

abbrev pub invariant-labels : goal.invariant-labels
invariant-labels l =
    IsCharBoundary l.line l.at
    × AreNamed (map label_view l.labels.items)
    × ((first : Tag) × (behind : ℕ) × (label_at l.line l.fn.i ≡ Ok (first, behind))
    × ((others : List Tag) × Reads label_at 44 l.line behind others l.at
    × (map label_view l.labels.items ≡ first ∷ others)))

abbrev pub decreases-labels : goal.decreases-labels
decreases-labels l = length l.line - l.at
