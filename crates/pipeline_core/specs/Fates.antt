-- What became of each routed metric at an output.
use Rattle.std.specs.Prelude.{ℕ, ◌+◌, List, [], ◌∷◌, ◌++◌, map, length, Bool, true, false}
use Rattle.std.specs.declared.option.Option.{Option}
use Rattle.std.specs.declared.option.Option.TheVariants.{Some, None}
use Rattle.metric.specs.declared.metric.Content.{Content}
use Rattle.account.specs.declared.entry.Entry.{Entry}
use Rattle.account.specs.declared.entry.Entry.TheVariants.{Route}
use Rattle.account.specs.declared.entry.Verdict.{Verdict}
use Rattle.account.specs.declared.entry.Verdict.TheVariants as verdicts
use Rattle.out_lane.specs.LaneEvents.{LaneEvent, LaneFate, fate_at}
use Rattle.out_lane.specs.LaneEvents as lane
use Rattle.pipeline_core.specs.Offers.{view_at, lane_events, offered_by}

-- exactly one of these is the fate of a routed metric at an output
pub data Fate : Type 0 where
  Filtered : Fate
  Late : Fate
  Consumed : Fate
  Written : Fate
  Buffered : Fate
  Dropped : Fate

-- an item, and its fate at an output
pub record ItemFate : Type 0 where
  pub item : ℕ
  pub fate : Fate

-- the fate of a view that came to the output
abbrev pub fate_of : LaneFate → Fate
fate_of lane.Written = Written
fate_of lane.Buffered = Buffered
fate_of lane.Dropped = Dropped

-- a metric that passes is filtered where it has no view at the output, and else has the fate of its position
abbrev pub fate_of_view : ℕ → List LaneEvent → ℕ → Option Content → Fate
fate_of_view limit events position None = Filtered
fate_of_view limit events position (Some view) = fate_of (fate_at limit events position)

-- the fates of what is routed with a verdict: none where it was removed
abbrev pub fates_by_verdict : ℕ → List LaneEvent → ℕ → Verdict → Option Content → List Fate
fates_by_verdict limit events position verdicts.Passes view = fate_of_view limit events position view ∷ []
fates_by_verdict limit events position verdicts.Consumed view = Consumed ∷ []
fates_by_verdict limit events position verdicts.Late view = Late ∷ []
fates_by_verdict limit events position verdicts.Removed view = []

-- the fate of the item that an entry routes, where it routes one that isn't removed
abbrev pub fates_by : ℕ → ℕ → List LaneEvent → ℕ → Entry → List ItemFate
fates_by limit output events position (Route item whole verdict aggs outs reports) =
    map (λ (fate : Fate). record { item = item; fate = fate })
    (fates_by_verdict limit events position verdict (view_at output outs))
fates_by limit output events position _ = []

-- the fates of the items that these entries route, the first position being the number of offers before them
unfoldable pub fates_from : ℕ → ℕ → List LaneEvent → ℕ → List Entry → List ItemFate
fates_from limit output events position [] = []
fates_from limit output events position (e ∷ es) =
    fates_by limit output events position e
    ++ fates_from limit output events (position + length (offered_by output e)) es

-- the routed items of a journal with their fates at an output with this buffer limit, in the order of their
-- Routes
abbrev pub item_fates : ℕ → ℕ → List Entry → List ItemFate
item_fates limit output es = fates_from limit output (lane_events output es) 0 es

-- their fates
abbrev pub fates : ℕ → ℕ → List Entry → List Fate
fates limit output es = map (λ (x : ItemFate). x.fate) (item_fates limit output es)

-- whether a fate is this one
abbrev pub is_filtered : Fate → Bool
is_filtered Filtered = true
is_filtered _ = false

abbrev pub is_late : Fate → Bool
is_late Late = true
is_late _ = false

abbrev pub is_consumed : Fate → Bool
is_consumed Consumed = true
is_consumed _ = false

abbrev pub is_written : Fate → Bool
is_written Written = true
is_written _ = false

abbrev pub is_buffered : Fate → Bool
is_buffered Buffered = true
is_buffered _ = false

abbrev pub is_dropped : Fate → Bool
is_dropped Dropped = true
is_dropped _ = false
