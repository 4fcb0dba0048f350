-- What is routed before more is sent, what is sent before more is gathered and before the Stop, and when a Tick has
-- to come.
use Rattle.std.specs.Prelude.{◌≡◌, ◌<◌, ◌⊎◌, ◌||◌, ℕ, Bool, true, false, not, List, [], ◌∷◌, ◌++◌, length}
use Rattle.std.specs.Prelude.{count_by, if◌then◌else◌}
use Rattle.account.specs.Setup.{Setup}
use Rattle.account.specs.Items.{raw_items}
use Rattle.account.specs.Origins.{raw_of, is_made}
use Rattle.account.specs.Numbers.{output_numbers}
use Rattle.account.specs.declared.entry.Entry.{Entry}
use Rattle.account.specs.declared.entry.Entry.TheVariants.{Begin, Route, Stop, Tick}
use Rattle.account.specs.Says.{GatherSays, gather_of}
use Rattle.std.specs.declared.option.Option.{Option}
use Rattle.std.specs.declared.option.Option.TheVariants.{Some, None}
use Rattle.out_lane.specs.LaneEvents.{LaneEvent, Done}
use Rattle.pipeline_core.specs.Offers.{lane_events}
use Rattle.pipeline_core.specs.Totals.{totals}
use Rattle.pipeline_core.specs.Windows.{HasNoAggs}

-- nothing is buffered at an output
abbrev pub NothingBuffered : Setup → List Entry → ℕ → Type 0
NothingBuffered setup journal output = (output_numbers (totals setup journal) output).buffered ≡ 0

-- the last of these events at an output is that a batch failed
pub record EndsFailed (events : List LaneEvent) : Type 0 where
  pub front : List LaneEvent
  pub is : events ≡ front ++ Done false ∷ []

-- whether an entry is a Tick
abbrev pub is_tick : Entry → Bool
is_tick (Tick moment made) = true
is_tick _ = false

unfoldable pub has_tick : List Entry → Bool
has_tick [] = false
has_tick (e ∷ es) = is_tick e || has_tick es

-- the entries behind the last Tick; all of them where there is no Tick
unfoldable pub behind_tick : List Entry → List Entry
behind_tick [] = []
behind_tick (e ∷ es) = if has_tick (e ∷ es) then behind_tick es else e ∷ es

-- whether an entry routes an item of a journal that was gathered
abbrev pub routes_gathered : List Entry → Entry → Bool
routes_gathered journal (Route item whole verdict aggs outs reports) = not (is_made journal item)
routes_gathered journal _ = false

-- how many items that were gathered were routed since the last Tick
abbrev pub routed_since_tick : List Entry → ℕ
routed_since_tick journal = count_by (routes_gathered journal) (behind_tick journal)

-- where there are aggregators, since the last Tick no item that was gathered was routed
abbrev pub IsTicked : Setup → List Entry → Type 0
IsTicked setup before = (HasNoAggs setup → ⊥) → routed_since_tick before ≡ 0

-- all was sent, as far as that could be: at each output nothing is buffered or the last event is that a batch
-- failed, and a Tick has come since items were routed
pub record IsFlushed (setup : Setup) (before : List Entry) : Type 0 where
  pub each : (output : ℕ) → output < length setup.outputs → NothingBuffered setup before output
      ⊎ EndsFailed (lane_events output before)
  pub ticked : IsTicked setup before

-- and no item of an input is raw
pub record IsDrained (setup : Setup) (before : List Entry) (input : ℕ) : Type 0 where
  pub none_raw : raw_of input before ≡ []
  pub flushed : IsFlushed setup before

-- and no item at all is raw
pub record IsSettled (setup : Setup) (before : List Entry) : Type 0 where
  pub none_raw : raw_items before ≡ []
  pub flushed : IsFlushed setup before

-- so it is before a Gather of the input, and before the Stop; before a Begin no item at all is raw
abbrev pub IsDrainedFor : Setup → List Entry → Option GatherSays → Type 0
IsDrainedFor setup before None = Unit {0}
IsDrainedFor setup before (Some says) = IsDrained setup before says.input

abbrev pub IsOrderly : Setup → List Entry → Entry → Type 0
IsOrderly setup before (Begin output from to) = raw_items before ≡ []
IsOrderly setup before (Stop moment made) = IsSettled setup before
IsOrderly setup before e = IsDrainedFor setup before (gather_of e)

-- so it is before each of the entries, which come after those before them
unfoldable pub AreOrderly : Setup → List Entry → List Entry → Type 0
AreOrderly setup before [] = Unit {0}
AreOrderly setup before (e ∷ es) = IsOrderly setup before e × AreOrderly setup (before ++ e ∷ []) es

-- so it is before each entry of a journal
abbrev pub InOrder : Setup → List Entry → Type 0
InOrder setup journal = AreOrderly setup [] journal
