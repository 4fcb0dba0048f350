-- Which metrics of a list are removed.
use Rattle.std.specs.Prelude.{◌≡◌, ◌&&◌, ℤ, Bool, not, List, [], ◌∷◌, reverse}
use Rattle.std.specs.Prelude.{Option, Some, None, IsSome, option_and_then, if◌then◌else◌}
use Rattle.std.specs.Map.{lookup}
use Rattle.std.specs.Ordering.{is_eq}
use Rattle.metric.specs.Series.{series_cmp, series_eq, Series}
use Rattle.metric.specs.declared.metric.Content.{Content}
use Rattle.proc_dedup.specs.Repeats.{repeats, series_of}
use Rattle.proc_dedup.specs.declared.sight.Sight.{Sight}
use Rattle.proc_dedup.specs.declared.sight.Sight.TheVariants.{Repeated, Fresh}

-- ---- which metrics of a list are removed

-- of the metrics of a list, the latest first: the last one of a series that wasn't removed. One was removed where it
-- repeated the last one of its own series before it that wasn't
unfoldable pub last_kept : ℤ → List Content → Series → Option Content
last_kept interval [] series = None
last_kept interval (m ∷ earlier) series =
    if series_eq (series_of m) series && not (repeats interval (last_kept interval earlier (series_of m)) m) then Some m
    else last_kept interval earlier series

-- is a metric removed that comes behind those of a list
abbrev pub is_removed : ℤ → List Content → Content → Bool
is_removed interval list m = repeats interval (last_kept interval (reverse list) (series_of m)) m

-- what is left of it
abbrev pub left_after : ℤ → List Content → Content → Option Content
left_after interval list m = if is_removed interval list m then None else Some m

-- what is seen of it
abbrev pub sight_of : ℤ → List Content → Content → Sight
sight_of interval list m = if is_removed interval list m then Repeated else Fresh m

-- ---- what is remembered of a list

-- metrics by their series; a series without one has room alone
pub record Memory : Type 0 where
  pub interval : ℤ
  pub kept : List (Series × Option Content)

-- what stands under a series
abbrev pub entry_of : List (Series × Option Content) → Series → Option (Option Content)
entry_of kept series = lookup (λ other. is_eq (series_cmp series other)) kept

-- the metric that is held of a series
abbrev pub held : List (Series × Option Content) → Series → Option Content
held kept series = option_and_then (λ entry. entry) (entry_of kept series)

-- a metric of the series can be kept without more memory
abbrev pub HasRoom : List (Series × Option Content) → Series → Type 0
HasRoom kept series = IsSome (entry_of kept series)

-- what is to be kept can be
abbrev pub CanKeep : List (Series × Option Content) → Sight → Type 0
CanKeep kept Repeated = Unit {0}
CanKeep kept (Fresh m) = HasRoom kept (series_of m)

-- it stands for a list of metrics that came: of each series it holds the last one that wasn't removed
pub record StandsFor (interval : ℤ) (list : List Content) (memory : Memory) : Type 0 where
  pub same : memory.interval ≡ interval
  pub each : (series : Series) → held memory.kept series ≡ last_kept interval (reverse list) series
