-- What is kept of the parts that count.
use Rattle.std.specs.Prelude.{◌≡◌, ◌≤◌, ℕ, ℤ, pos, Bool, false, not, is_some, List, [], ◌∷◌, ◌++◌, length, map, Option}
use Rattle.std.specs.Prelude.{Some}
use Rattle.std.specs.Prelude.{None, unwrap_or}
use Rattle.std.specs.List.{list_any, AllByRecursion}
use Rattle.std.specs.Str.{bytes_eq}
use Rattle.metric.specs.Series.{Series}
use Rattle.metric.specs.declared.metric.Content.{Content}
use Rattle.agg_keep.specs.Spot.{series_of}
use Rattle.statsd_server.specs.declared.change.Change.{Change}
use Rattle.statsd_server.specs.declared.change.Change.TheVariants.{Sets, Moves}
use Rattle.statsd_server.specs.declared.part.Part.{Part}
use Rattle.statsd_server.specs.declared.placed.First.{First}
use Rattle.statsd_server.specs.declared.placed.Placed.{Placed}
use Rattle.statsd_server.specs.declared.summary.Summary.{Summary}
use Rattle.statsd_server.specs.Marked.{marked_cmp}
use Rattle.statsd_server.specs.Member.{member_cmp, member_eq, member_named}
use Rattle.statsd_server.specs.declared.member.Member.{Member}
use Rattle.statsd_server.specs.Parts.{change_of, changes_of, level_of, members_in, summary_of}
use Rattle.statsd_server.specs.Served.{metric_with, own_metric, series_in}
use Rattle.statsd_server.specs.Table.{held_by, place_by, value_at, Table}

-- what is counted of each series in the group in hand
abbrev pub Sums : Type 0
Sums = Table Series Summary

-- the level of each gauge
abbrev pub Levels : Type 0
Levels = Table Series ℤ

-- the members of sets that were named in the group in hand
abbrev pub Members : Type 0
Members = Table Member (Unit {0})

-- what is held of a series; nothing counts as what is counted of no change
abbrev pub sum_held : Sums → Series → Option Summary
sum_held sums series = held_by marked_cmp sums series

abbrev pub summary_held : Sums → Series → Summary
summary_held sums series = unwrap_or (sum_held sums series) (summary_of [])

abbrev pub level_held : Levels → Series → ℤ
level_held levels series = unwrap_or (held_by marked_cmp levels series) (pos 0)

abbrev pub is_named : Members → Member → Bool
is_named members member = is_some (held_by member_cmp members member)

-- whether a member is there and isn't named yet
abbrev pub is_new : Members → Option Member → Bool
is_new members None = false
is_new members (Some member) = not (is_named members member)

-- whether a member is there and is this one
abbrev pub is_it : Option Member → Member → Bool
is_it None member = false
is_it (Some named) member = member_eq named member

-- the level that a change moves; of what moves none it is 0
abbrev pub level_for : Levels → Series → Change → ℤ
level_for levels series (Moves n) = level_held levels series
level_for levels series change = pos 0

pub record Memory : Type 0 where
  pub sums : Sums
  pub levels : Levels
  pub members : Members
  -- the series of which a part counts, in the order of their first such parts, and for how many of them there is room
  pub order : List First
  pub room : ℕ
  -- how many parts count in the group in hand, and how many lines and parts were left out of it
  pub counted : ℕ
  pub refused : ℕ

-- what is counted of changes, where there are some
abbrev pub summary_if : List Change → Option Summary
summary_if [] = None
summary_if (change ∷ changes) = Some (summary_of (change ∷ changes))

-- the series of such a first part
abbrev pub first_series : First → Series
first_series first = first.series

-- what is counted of its series has its place
abbrev pub HasPlace : Sums → First → Type 0
HasPlace sums first = place_by marked_cmp sums (first_series first) ≡ Some first.sum

-- it is kept of the parts that count: those of earlier groups, and those of the group in hand
pub record Keeps (past now : List Content) (memory : Memory) : Type 0 where
  pub sums : (series : Series) → sum_held memory.sums series ≡ summary_if (changes_of series now)
  pub levels : (series : Series) → level_held memory.levels series ≡ level_of (changes_of series (past ++ now))
  pub members : (member : Member)
      → is_named memory.members member ≡ list_any (bytes_eq member.text) (members_in (changes_of member.series now))
  pub ordered : map first_series memory.order ≡ series_in now
  pub placed : AllByRecursion (HasPlace memory.sums) memory.order
  pub counted : memory.counted ≡ length now

-- ---- places

-- that of the level of a gauge, where a change has one
abbrev pub LevelPlace : Levels → Series → Change → ℕ → Type 0
LevelPlace levels series (Sets n) at = place_by marked_cmp levels series ≡ Some at
LevelPlace levels series (Moves n) at = place_by marked_cmp levels series ≡ Some at
LevelPlace levels series change at = Unit {0}

-- that of a member, where there is one
abbrev pub MemberPlace : Members → Option Member → Option ℕ → Type 0
MemberPlace members None None = Unit {0}
MemberPlace members None (Some at) = ⊥
MemberPlace members (Some member) None = ⊥
MemberPlace members (Some member) (Some at) = place_by member_cmp members member ≡ Some at

-- what is taken of a part: its series, and what it says of it
abbrev pub said_by : Content → Part
said_by part = record { series = series_of part; change = change_of part }

-- the part that was given its places
abbrev pub part_of : Placed → Part
part_of placed = placed.part

-- a part has its places
pub record IsPlaced (memory : Memory) (placed : Placed) : Type 0 where
  pub sum : place_by marked_cmp memory.sums placed.part.series ≡ Some placed.sum
  pub level : LevelPlace memory.levels placed.part.series placed.part.change placed.level
  pub member : MemberPlace memory.members (member_named placed.part.series placed.part.change) placed.member

-- it is kept as before, and each place stays
pub record HasStayed (old new : Memory) : Type 0 where
  pub keeps : (past now : List Content) → Keeps past now old → Keeps past now new
  pub placed : (other : Placed) → IsPlaced old other → IsPlaced new other
  pub order : new.order ≡ old.order
  pub room : old.room ≤ new.room
  pub counted : new.counted ≡ old.counted
  pub refused : new.refused ≡ old.refused

-- ---- what is served of it

abbrev pub served_of : Memory → First → Content
served_of memory first = metric_with (first_series first)
    (unwrap_or (value_at memory.sums.values first.sum) (summary_of [])) (level_held memory.levels (first_series first))

abbrev pub made_of : ℕ → Memory → List Content
made_of packets memory = own_metric packets memory.refused ∷ map (served_of memory) memory.order
