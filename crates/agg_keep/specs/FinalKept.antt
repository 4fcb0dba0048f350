-- What final keeps of a list of members.
use Rattle.std.specs.Prelude.{◌≡◌, ◌<◌, ◌&&◌, ℕ, ℤ, List, [], ◌∷◌, Option, Some, None, length, if◌then◌else◌}
use Rattle.metric.specs.Series.{series_cmp, series_eq, Series}
use Rattle.metric.specs.declared.metric.Content.{Content}
use Rattle.agg_keep.specs.Final.{given, gives, last_of, members_of, series_in}
use Rattle.agg_keep.specs.Keyed.{held_by, HasRoom}
use Rattle.agg_keep.specs.Spot.{series_of}
use Rattle.agg_keep.specs.declared.closing.Closing.{Closing}

-- the last metric of each series; where there is room alone there is none
pub record FinalMemory : Type 0 where
  pub timeout : ℤ
  pub kept : List (Series × Option Content)
  -- the series, in order of first member, and for how many of them there is room
  pub order : List Series
  pub room : ℕ
  -- what is prepared
  pub ready : Option Content

abbrev pub held : List (Series × Option Content) → Series → Option Content
held kept series = held_by series_cmp kept series

-- what is given of a series
abbrev pub given_at : ℤ → Closing → List (Series × Option Content) → Series → List Content
given_at timeout closing kept series = given timeout closing (held kept series)

-- what is held of a series once those of a list of series that are given are gone
unfoldable pub left_held : ℤ → Closing → List Series → Series → Option Content → Option Content
left_held timeout closing [] series last = last
left_held timeout closing (one ∷ order) series last =
    left_held timeout closing order series (if series_eq one series && gives timeout closing last then None else last)

-- what is prepared can be added without more memory
abbrev pub CanAdd : FinalMemory → Option Content → Type 0
CanAdd memory None = Unit {0}
CanAdd memory (Some m) = HasRoom series_cmp memory.kept (series_of m) × (length memory.order < memory.room)

-- it is prepared for a metric
pub record IsFinalReady (m : Content) (memory : FinalMemory) : Type 0 where
  pub last : memory.ready ≡ Some m
  pub can : CanAdd memory memory.ready

-- it stands for a list of members: of each series it holds the last one
pub record FinalStandsFor (timeout : ℤ) (members : List Content) (memory : FinalMemory) : Type 0 where
  pub same : memory.timeout ≡ timeout
  pub ordered : memory.order ≡ series_in members
  pub each : (series : Series) → held memory.kept series ≡ last_of (members_of series members)
