-- The lines of entries, by their words.
use Rattle.std.specs.Prelude.{ℕ, ℤ, not, Bool, List, [], ◌∷◌, replicate, codes, slice_get}
use Rattle.std.specs.Prelude.{Option, Some, None, option_map, if◌then◌else◌}
use Rattle.std.specs.Str.{bytes_eq}
use Rattle.metric.specs.declared.metric.Content.{Content}
use Rattle.account.specs.declared.entry.Verdict.{Verdict}
use Rattle.account.specs.declared.entry.Verdict.TheVariants.{Passes, Consumed, Late, Removed}
use Rattle.account.specs.declared.entry.Entry.{Entry}
use Rattle.account.specs.declared.entry.Entry.TheVariants.{Gather, Ended, Take, Route, Tick, Stop, Begin, Done}
use Rattle.journal_text.specs.JournalText.{are_equal}
use Rattle.journal_reader.specs.Words.{◌>>=◌, where_true, Parts, taken, behind, at_end, each, number}
use Rattle.journal_reader.specs.Words.{small_number, signed_number, either_of}
use Rattle.journal_reader.specs.MetricReading.{metric_of}
use Rattle.journal_reader.specs.declared.entry.Begun.{Begun}
use Rattle.journal_reader.specs.declared.entry.Counts.{Counts}
use Rattle.journal_reader.specs.declared.entry.Sizes.{Sizes}

-- an entry without metrics behind its line
abbrev pub alone : Entry → Begun
alone e = record { entry = e; owed = 0 }

-- the number of a group, or `-` for none
unfoldable pub group_of : List ℕ → Option (Option ℕ)
group_of word = if bytes_eq word (codes "-") then Some None else option_map Some (number word)

-- `PIECES REFUSED PASSED FILTERED`, and the words behind
unfoldable pub counts_of : Parts → Option (Counts × Parts)
counts_of words = do
  pieces ← taken small_number words
  refused ← taken small_number pieces.1
  passed ← taken small_number refused.1
  filtered ← taken small_number passed.1
  Some (record { pieces = pieces.0; refused = refused.0; passed = passed.0; filtered = filtered.0 }, filtered.1)

-- a Gather without metrics and reports
abbrev pub gather_of : ℕ → ℤ → Counts → Option ℕ → Entry
gather_of input moment counts group =
    Gather input moment counts.pieces counts.refused counts.passed counts.filtered [] group []

-- `I MOMENT PIECES REFUSED PASSED FILTERED COUNT GROUP`
unfoldable pub gather_in : Parts → Option Begun
gather_in words = do
  input ← taken small_number words
  moment ← taken signed_number input.1
  counts ← counts_of moment.1
  owed ← taken number counts.1
  group ← taken group_of owed.1
  at_end (record { entry = gather_of input.0 moment.0 counts.0 group.0; owed = owed.0 }) group.1

-- `I`
unfoldable pub ended_in : Parts → Option Begun
ended_in words = do
  input ← taken small_number words
  at_end (alone (Ended input.0)) input.1

-- `K`
unfoldable pub take_in : Parts → Option Begun
take_in words = do
  item ← taken number words
  at_end (alone (Take item.0)) item.1

-- `MOMENT COUNT`
unfoldable pub made_in : Parts → Option (ℤ × ℕ)
made_in words = do
  moment ← taken signed_number words
  count ← taken number moment.1
  at_end (moment.0, count.0) count.1

abbrev pub tick_of : ℤ × ℕ → Begun
tick_of made = record { entry = Tick made.0 []; owed = made.1 }

abbrev pub stop_of : ℤ × ℕ → Begun
stop_of made = record { entry = Stop made.0 []; owed = made.1 }

-- `O FROM TO`
unfoldable pub begin_in : Parts → Option Begun
begin_in words = do
  output ← taken small_number words
  from ← taken number output.1
  to ← taken number from.1
  at_end (alone (Begin output.0 from.0 to.0)) to.1

-- `O ok` or `O failed`
unfoldable pub done_in : Parts → Option Begun
done_in words = do
  output ← taken small_number words
  outcome ← taken (either_of (codes "ok") (codes "failed")) output.1
  at_end (alone (Done output.0 outcome.0 [])) outcome.1

-- an entry that is no Route, by its first word and what stands behind it
unfoldable pub event_in : List ℕ → Parts → Option Begun
event_in word words =
    if bytes_eq word (codes "gather") then gather_in words
    else if bytes_eq word (codes "take") then take_in words
    else if bytes_eq word (codes "begin") then begin_in words
    else if bytes_eq word (codes "done") then done_in words
    else if bytes_eq word (codes "ended") then ended_in words
    else if bytes_eq word (codes "tick") then option_map tick_of (made_in words)
    else if bytes_eq word (codes "stop") then option_map stop_of (made_in words)
    else None

-- ---- Routes

-- a metric that isn't the known one
abbrev pub other_than : Option Content → Content → Option Content
other_than None m = Some m
other_than (Some known) m = where_true (not (are_equal m known)) (Some m)

-- a metric beside one that may be known: `=` is that one, and any other is written out
unfoldable pub beside_of : Option Content → List ℕ → Option Content
beside_of known word =
    if bytes_eq word (codes "=") then known else (do
      m ← metric_of word
      other_than known m)

-- the same, or `-` for none
unfoldable pub view_of : Option Content → List ℕ → Option (Option Content)
view_of known word =
    if bytes_eq word (codes "-") then Some None else option_map Some (beside_of known word)

-- the verdict on an item that wasn't removed
unfoldable pub verdict_of : List ℕ → Option Verdict
verdict_of word =
    if bytes_eq word (codes "passes") then Some Passes
    else if bytes_eq word (codes "consumed") then Some Consumed
    else if bytes_eq word (codes "late") then Some Late
    else None

-- the views before `/`, and the words behind it
unfoldable pub agg_views : Content → Parts → Option (List (Option Content) × Parts)
agg_views whole [] = None
agg_views whole (word ∷ words) =
    if bytes_eq word (codes "/") then Some ([], words) else (do
      view ← view_of (Some whole) word
      others ← agg_views whole words
      Some (view ∷ others.0, others.1))

-- what stands behind an item and its whole: the verdict and the views
unfoldable pub whole_in : ℕ → Content → Parts → Option Entry
whole_in item whole words = do
  verdict ← taken verdict_of words
  aggs ← agg_views whole verdict.1
  outs ← each (view_of (Some whole)) aggs.1
  Some (Route item (Some whole) verdict.0 aggs.0 outs [])

-- the Route of an item that was removed: the views are none, one for each aggregator and output of the set-up
abbrev pub removed_of : Sizes → ℕ → Entry
removed_of sizes item = Route item None Removed (replicate sizes.aggs None) (replicate sizes.outs None) []

-- what stands behind an item and `-`
unfoldable pub removed_in : Sizes → ℕ → Parts → Option Entry
removed_in sizes item words = do
  words ← behind (codes "removed") words
  at_end (removed_of sizes item) words

abbrev pub routed_in : Sizes → ℕ → Option Content → Parts → Option Entry
routed_in sizes item None words = removed_in sizes item words
routed_in sizes item (Some whole) words = whole_in item whole words

-- `K WHOLE VERDICT AGG.. / OUT..`, or `K - removed`
unfoldable pub route_in : List Content → Sizes → Parts → Option Entry
route_in known sizes words = do
  item ← taken number words
  whole ← taken (view_of (slice_get known item.0)) item.1
  routed_in sizes item.0 whole.0 whole.1

-- the entry that a line begins, where these items are known, and how many metrics follow it
unfoldable pub entry_in : List Content → Sizes → Parts → Option Begun
entry_in known sizes [] = None
entry_in known sizes (word ∷ words) =
    if bytes_eq word (codes "route") then option_map alone (route_in known sizes words) else event_in word words

-- ---- the lines behind that of an entry

-- `m METRIC`
unfoldable pub metric_in : Parts → Option Content
metric_in words = do
  words ← behind (codes "m") words
  m ← taken metric_of words
  at_end m.0 m.1

-- `report G delivered` or `report G rejected`
unfoldable pub report_in : Parts → Option (ℕ × Bool)
report_in words = do
  words ← behind (codes "report") words
  group ← taken number words
  delivered ← taken (either_of (codes "delivered") (codes "rejected")) group.1
  at_end (group.0, delivered.0) delivered.1
