-- What is left of a metric, with whether it is the metric that came in.
use Rattle.std.specs.Prelude.{◌≡◌, Bool, true, false}
use Rattle.metric.specs.declared.metric.Content.{Content}
use Rattle.metric_filter.specs.declared.kept.Kept.{Kept}
use Rattle.metric_filter.specs.declared.kept.Kept.TheVariants.{Same, Changed}

-- the metric
abbrev pub metric_of : Kept → Content
metric_of (Same m) = m
metric_of (Changed m) = m

-- is it said to be the one that came in
abbrev pub is_same : Kept → Bool
is_same (Same m) = true
is_same (Changed m) = false

-- where it is said to be the one that came in, it is that one
abbrev pub IsKeptOf : Content → Kept → Type 0
IsKeptOf m kept = is_same kept ≡ true → metric_of kept ≡ m
