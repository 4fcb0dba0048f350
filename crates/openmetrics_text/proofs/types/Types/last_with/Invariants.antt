use Rattle.std.proofs.Common.{◌≡◌, List, take, map}
use Rattle.metric.specs.Draft.{Tag}
use Rattle.openmetrics_text.specs.TypeViews.{HaveTypes}
use Rattle.openmetrics_text.specs.Types.{last_of, has_suffix_of}
use Rattle.openmetrics_text.proofs.types.Types.last_with.Given as goal

abbrev pub invariant-loop-suffix : goal.invariant-loop-suffix
invariant-loop-suffix l = (pairs : List Tag) → HaveTypes l.self pairs
    → l.last ≡ last_of (has_suffix_of l.name (take l.suffix-index (map (λ suffix. suffix.now) l.suffixes))) pairs
