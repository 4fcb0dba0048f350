-- What is kept of a list of members.
use Rattle.std.specs.Prelude.{◌≡◌, ◌<◌, ◌≤◌, ◌+◌, ◌+ℤ◌, ◌==◌, ◌&&◌, ℕ, ℤ, Bool, true, false, zero, suc, nat_lt, nat_eq}
use Rattle.std.specs.Prelude.{length, if◌then◌else◌}
use Rattle.std.specs.Prelude.{pos, map, List, [], ◌∷◌, Option, Some, None, not, option_and_then, slice_get}
use Rattle.std.specs.Cmp.Lexicographic.{pointwise}
use Rattle.std.specs.Int.{int_max, int_min}
use Rattle.std.specs.List.{flat_map, fold, AllByRecursion, IsDistinct}
use Rattle.std.specs.Map.{keys_of, lookup}
use Rattle.std.specs.Option.{option_to_list}
use Rattle.std.specs.Ordering.{is_eq}
use Rattle.std.specs.Str.{bytes_eq}
use Rattle.metric.specs.Draft.{Field}
use Rattle.metric.specs.Metric.{IsMetric, IsWord}
use Rattle.metric.specs.Numbers.{billionths_of}
use Rattle.metric.specs.Pairs.{has_key, value_at, with_pair}
use Rattle.metric.specs.Series.{series_cmp, series_eq, Series}
use Rattle.metric.specs.declared.metric.Content.{Content}
use Rattle.metric.specs.declared.value.Value.{Value}
use Rattle.agg_stats.specs.Asked.{asked_of, Asked}
use Rattle.agg_stats.specs.Folds.{made_of, members_of, series_in, series_of}
use Rattle.agg_stats.specs.Summary.{is_int, is_number, is_uint, Summary}
use Rattle.agg_stats.specs.declared.kind.StatsKind.{StatsKind}

-- ---- one field's numbers

-- of no number
abbrev pub empty_summary : Summary
empty_summary = record {
  count = 0;
  sum = pos 0;
  least = pos 0;
  greatest = pos 0;
  ints = true;
  uints = true;
}

-- so many are counted
abbrev pub most : ℕ
most = 4294967296

-- of one number more
unfoldable pub with_number : Value → Summary → Summary
with_number value s =
    if nat_lt s.count most then record {
      count = s.count + 1;
      sum = s.sum +ℤ billionths_of value;
      least = if s.count == 0 then billionths_of value else int_min s.least (billionths_of value);
      greatest = if s.count == 0 then billionths_of value else int_max s.greatest (billionths_of value);
      ints = s.ints && is_int value;
      uints = s.uints && is_uint value;
    }
    else s

-- ---- the numbers of a series

-- the keys with their numbers' summaries
abbrev pub Sums : Type 0
Sums = List (List ℕ × Summary)

-- the summary that stands at a key, and that of no number where none does
abbrev pub or_empty : Option Summary → Summary
or_empty None = empty_summary
or_empty (Some s) = s

abbrev pub summary_at : Sums → List ℕ → Summary
summary_at sums key = or_empty (value_at sums key)

-- with a field more, which counts where it is a number
abbrev pub with_field : Sums → Field → Sums
with_field sums field =
    if is_number field.1 then with_pair sums field.0 (with_number field.1 (summary_at sums field.0)) else sums

abbrev pub with_fields : Sums → List Field → Sums
with_fields sums fields = fold with_field sums fields

-- the keys may be those of fields
abbrev pub HasWords : Sums → Type 0
HasWords sums = AllByRecursion (λ (pair : List ℕ × Summary). IsWord pair.0) sums

-- the keys are distinct
abbrev pub AreDistinct : Sums → Type 0
AreDistinct sums = IsDistinct (pointwise nat_eq) (keys_of sums)

-- they are, and distinct
pub record AreSums (sums : Sums) : Type 0 where
  pub words : HasWords sums
  pub distinct : AreDistinct sums

-- a series with them
abbrev pub SeriesSums : Type 0
SeriesSums = Series × Sums

-- a number more at a key that is there
unfoldable pub change_at : Value → Sums → List ℕ → Sums
change_at value [] key = []
change_at value (pair ∷ pairs) key =
    if bytes_eq pair.0 key then (pair.0, with_number value pair.1) ∷ pairs else pair ∷ change_at value pairs key

abbrev pub changed : Sums → Field → Sums
changed sums field = if is_number field.1 then change_at field.1 sums field.0 else sums

abbrev pub all_changed : Sums → List Field → Sums
all_changed sums fields = fold changed sums fields

-- the key of a number that isn't there yet, with no number
abbrev pub fresh_of : Sums → Field → Sums
fresh_of sums field =
    if is_number field.1 && not (has_key sums field.0) then (field.0, empty_summary) ∷ [] else []

abbrev pub all_fresh : Sums → List Field → Sums
all_fresh sums fields = flat_map (fresh_of sums) fields

-- does the sum of a key stand at an index
abbrev pub stands_at : Sums → ℕ → List ℕ → Bool
stands_at [] at key = false
stands_at (pair ∷ pairs) zero key = bytes_eq pair.0 key
stands_at (pair ∷ pairs) (suc at) key = stands_at pairs at key

-- ---- all series

-- a series with its sums, and for how many there is room
pub record RowMemory : Type 0 where
  pub row : SeriesSums
  pub room : ℕ

-- a metric that can be added without more memory: where the row of its series stands or will stand, and the keys that
-- are
-- new to it
pub record ReadyMemory : Type 0 where
  pub metric : Content
  pub at : ℕ
  pub fresh : Sums

pub record Memory : Type 0 where
  pub asked : Asked
  -- where the row of each series stands; where none of it stands there it has none
  pub kept : List (Series × ℕ)
  -- the rows, in order of first member, and for how many of them there is room
  pub rows : List RowMemory
  pub room : ℕ
  -- what is prepared
  pub ready : Option ReadyMemory

-- the rows without their room
abbrev pub row_in : RowMemory → SeriesSums
row_in memory = memory.row

abbrev pub seen : List RowMemory → List SeriesSums
seen rows = map row_in rows

abbrev pub entry_of : List (Series × ℕ) → Series → Option ℕ
entry_of kept series = lookup (λ other. is_eq (series_cmp series other)) kept

-- an index, where a row of a series stands there
abbrev pub place_if : Series → ℕ → SeriesSums → Option ℕ
place_if series at row = if series_eq row.0 series then Some at else None

abbrev pub place_at : List SeriesSums → Series → ℕ → Option ℕ
place_at rows series at = option_and_then (place_if series at) (slice_get rows at)

-- where the row of a series stands
abbrev pub place_of : List (Series × ℕ) → List SeriesSums → Series → Option ℕ
place_of kept rows series = option_and_then (place_at rows series) (entry_of kept series)

-- the entry of each row's series is its place
abbrev pub IsIndexed : List (Series × ℕ) → List SeriesSums → Type 0
IsIndexed kept rows =
    (at : ℕ) (row : SeriesSums) → slice_get rows at ≡ Some row → entry_of kept row.0 ≡ Some at

-- the sums at an index; none where no row stands there
abbrev pub sums_in : Option SeriesSums → Sums
sums_in None = []
sums_in (Some row) = row.1

abbrev pub sums_at : List SeriesSums → ℕ → Sums
sums_at rows at = sums_in (slice_get rows at)

-- there is room for what is prepared
pub record HasRoom (rows : List RowMemory) (room : ℕ) (ready : ReadyMemory) : Type 0 where
  pub fresh : ready.fresh ≡ all_fresh (sums_at (seen rows) ready.at) ready.metric.fields
  pub known : (memory : RowMemory) → slice_get rows ready.at ≡ Some memory
      → length memory.row.1 + length ready.fresh ≤ memory.room
  pub new : slice_get rows ready.at ≡ None → length rows < room

-- what is prepared can be added without more memory
abbrev pub CanAdd : Memory → Option ReadyMemory → Type 0
CanAdd memory None = Unit {0}
CanAdd memory (Some ready) = HasRoom memory.rows memory.room ready

-- the row of a series stands at an index, or will stand there
pub record IsPlace (series : Series) (kept : List (Series × ℕ)) (rows : List SeriesSums) (at : ℕ) : Type 0 where
  pub entry : entry_of kept series ≡ Some at
  pub own : (row : SeriesSums) → slice_get rows at ≡ Some row → row.0 ≡ series
  pub behind : slice_get rows at ≡ None → at ≡ length rows

-- it is prepared for a metric
pub record IsReady (m : Content) (memory : Memory) : Type 0 where
  pub at : ℕ
  pub fresh : Sums
  pub ready : memory.ready ≡ Some (record { metric = m; at = at; fresh = fresh })
  pub place : IsPlace (series_of m) memory.kept (seen memory.rows) at
  pub can : CanAdd memory memory.ready
  pub metric : IsMetric m

-- what is made of a row
abbrev pub made_at : Asked → ℤ → RowMemory → List Content
made_at asked time memory = option_to_list (made_of asked time memory.row)

-- the fields of members, in order
abbrev pub fields_in : List Content → List Field
fields_in members = flat_map (λ m. m.fields) members

-- the rows of members
abbrev pub row_of : List Content → Series → SeriesSums
row_of members series = (series, with_fields [] (fields_in (members_of series members)))

abbrev pub rows_of : List Content → List SeriesSums
rows_of members = map (row_of members) (series_in members)

-- it stands for a list of members
pub record StandsFor (kind : StatsKind) (members : List Content) (memory : Memory) : Type 0 where
  pub same : memory.asked ≡ asked_of kind
  pub rows : seen memory.rows ≡ rows_of members
  pub indexed : IsIndexed memory.kept (seen memory.rows)
  pub few : length members ≤ 4294967296
  pub metrics : AllByRecursion IsMetric members
