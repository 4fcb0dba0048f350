-- What merge keeps of a list of members.
use Rattle.std.specs.Prelude.{◌≡◌, ◌<◌, ℕ, List, Option, Some, None, length, if◌then◌else◌}
use Rattle.std.specs.List.{list_any}
use Rattle.std.specs.Option.{option_to_list}
use Rattle.metric.specs.Draft.{Field}
use Rattle.metric.specs.Metric.{IsMetric}
use Rattle.metric.specs.Pairs.{in_first_order_on}
use Rattle.metric.specs.declared.metric.Content.{Content}
use Rattle.agg_keep.specs.Keyed.{held_by, HasRoom}
use Rattle.agg_keep.specs.Merge.{merged_at, spots_in}
use Rattle.agg_keep.specs.Spot.{spot_cmp, spot_eq, spot_of}
use Rattle.agg_keep.specs.declared.spot.Spot.{Spot}

-- metrics by their series and time, each merged so far; where there is room alone there is none
pub record MergeMemory : Type 0 where
  pub kept : List (Spot × Option Content)
  -- the series and times, in order of first member, and for how many of them there is room
  pub order : List Spot
  pub room : ℕ
  -- what is prepared
  pub ready : Option Content

abbrev pub held_at : List (Spot × Option Content) → Spot → Option Content
held_at kept spot = held_by spot_cmp kept spot

-- what is given of what is held
abbrev pub made_at : List (Spot × Option Content) → Spot → List Content
made_at kept spot = option_to_list (held_at kept spot)

-- the fields that are held, if any, with those of a metric put over them
abbrev pub fields_with : Option Content → Content → List Field
fields_with None m = m.fields
fields_with (Some held) m = in_first_order_on held.fields m.fields

-- a metric merged into what is held of its series and time
abbrev pub merged_with : Option Content → Content → Content
merged_with held m = record m { fields = fields_with held m }

-- what is prepared can be added without more memory
abbrev pub CanMerge : MergeMemory → Option Content → Type 0
CanMerge memory None = Unit {0}
CanMerge memory (Some merged) = HasRoom spot_cmp memory.kept (spot_of merged) × (length memory.order < memory.room)

-- it is prepared for a metric
pub record IsMergeReady (m : Content) (memory : MergeMemory) : Type 0 where
  pub merged : memory.ready ≡ Some (merged_with (held_at memory.kept (spot_of m)) m)
  pub can : CanMerge memory memory.ready
  pub metric : IsMetric m

-- what is held where there are members
abbrev pub one_at : Spot → List Content → Option Content
one_at spot members =
    if list_any (λ m. spot_eq spot (spot_of m)) members then Some (merged_at members spot) else None

-- it stands for a list of members
pub record MergeStandsFor (members : List Content) (memory : MergeMemory) : Type 0 where
  pub ordered : memory.order ≡ spots_in members
  pub each : (spot : Spot) → held_at memory.kept spot ≡ one_at spot members
