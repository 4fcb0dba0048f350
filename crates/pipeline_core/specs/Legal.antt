-- What a journal may say, entry by entry.
use Rattle.std.specs.Prelude.{◌≡◌, ◌<◌, ◌≤◌, ◌⊎◌, ℕ, ℤ, ◌≤ℤ◌, ◌+◌, ◌^◌, ◌==◌, ◌||◌, Bool, true, false, List}
use Rattle.std.specs.Prelude.{[], ◌∷◌, ◌++◌, length, slice_get, IfSome}
use Rattle.std.specs.List.{AllByRecursion}
use Rattle.std.specs.declared.option.Option.{Option}
use Rattle.std.specs.declared.option.Option.TheVariants.{Some, None}
use Rattle.metric.specs.declared.metric.Content.{Content}
use Rattle.account.specs.Setup.{Setup}
use Rattle.account.specs.Items.{items, taken, raw_items, in_hand}
use Rattle.account.specs.Origins.{is_made}
use Rattle.account.specs.Says.{GatherSays, gather_of, metrics_said, reports_of}
use Rattle.account.specs.Views.{HasViews}
use Rattle.account.specs.declared.entry.Entry.{Entry}
use Rattle.account.specs.declared.entry.Entry.TheVariants.{Ended, Take, Route, Tick, Stop, Begin, Done}
use Rattle.account.specs.declared.entry.Verdict.{Verdict}
use Rattle.out_lane.specs.LaneEvents.{ranges_of, IsNextRange, IsOpen}
use Rattle.pipeline_core.specs.Offers.{lane_events}
use Rattle.pipeline_core.specs.Groups.{live_count, next_group, reports_at}
use Rattle.pipeline_core.specs.Windows.{judged, made_by_tick, made_by_stop}

-- whether an entry is a Stop, or the Ended of an input
abbrev pub is_stop : Entry → Bool
is_stop (Stop moment made) = true
is_stop _ = false

abbrev pub is_ended_of : ℕ → Entry → Bool
is_ended_of input (Ended number) = number == input
is_ended_of input _ = false

unfoldable pub has_stop : List Entry → Bool
has_stop [] = false
has_stop (e ∷ es) = is_stop e || has_stop es

unfoldable pub has_ended : ℕ → List Entry → Bool
has_ended input [] = false
has_ended input (e ∷ es) = is_ended_of input e || has_ended input es

-- how many metrics an entry gathers
abbrev pub gathered_by : Entry → ℕ
gathered_by e = length (metrics_said (gather_of e))

unfoldable pub gathered_count : List Entry → ℕ
gathered_count [] = 0
gathered_count (e ∷ es) = gathered_by e + gathered_count es

-- the moment that counts after an entry: a Tick and a Stop name it
abbrev pub moment_after : ℤ → Entry → ℤ
moment_after counted (Tick moment made) = moment
moment_after counted (Stop moment made) = moment
moment_after counted _ = counted

unfoldable pub counted_from : ℤ → List Entry → ℤ
counted_from counted [] = counted
counted_from counted (e ∷ es) = counted_from (moment_after counted e) es

-- the next pieces of an input: it hasn't ended, and nothing is stopped; all gathered metrics are fewer than
-- 2^32, and no item is raw or the raw ones with these are at most 10,000; a tracked input has fewer live groups
-- than it may have, and the pieces are its next group
pub record MeetsGather (setup : Setup) (before : List Entry) (says : GatherSays) : Type 0 where
  pub most : Option ℕ
  pub known : slice_get setup.inputs says.input ≡ Some most
  pub going : has_stop before ≡ false
  pub reading : has_ended says.input before ≡ false
  pub fits : gathered_count before + length says.metrics < 2 ^ 32
  pub room : (raw_items before ≡ []) ⊎ (length (raw_items before) + length says.metrics ≤ 10000)
  pub few : IfSome most (λ m. live_count setup before says.input < m)
  pub group : says.group ≡ next_group most before

-- so it is where an entry is a Gather
abbrev pub MeetsGathered : Setup → List Entry → Option GatherSays → Type 0
MeetsGathered setup before None = ⊥
MeetsGathered setup before (Some says) = MeetsGather setup before says

pub record MeetsEnded (setup : Setup) (before : List Entry) (input : ℕ) : Type 0 where
  pub known : input < length setup.inputs
  pub going : has_stop before ≡ false
  pub reading : has_ended input before ≡ false

-- the first raw item, while none is in hand
pub record MeetsTake (before : List Entry) (item : ℕ) : Type 0 where
  pub empty_handed : in_hand before ≡ None
  pub first : item ≡ taken before
  pub raw : item < length (items before)

-- the item in hand, with one view per aggregator and one per output; an item that was made has none at the
-- aggregators; the verdict is that of the windows
pub record MeetsRoute (setup : Setup) (before : List Entry) (item : ℕ) (whole : Option Content)
    (verdict : Verdict) (aggs outs : List (Option Content)) : Type 0 where
  pub held : in_hand before ≡ Some item
  pub aggregators : length aggs ≡ length setup.aggs
  pub outputs : length outs ≡ length setup.outputs
  pub views : HasViews whole (aggs ++ outs)
  pub made : is_made before item ≡ true → AllByRecursion (λ (view : Option Content). view ≡ None) aggs
  pub verdict_is : verdict ≡ judged setup before whole aggs

-- nothing is stopped, and time doesn't go back; the windows make these metrics
pub record MeetsMoment (setup : Setup) (before : List Entry) (moment : ℤ) (made all : List Content)
    : Type 0 where
  pub going : has_stop before ≡ false
  pub later : counted_from setup.start before ≤ℤ moment
  pub all_made : made ≡ all

-- the next range of an output
pub record MeetsBegin (setup : Setup) (before : List Entry) (output from to : ℕ) : Type 0 where
  pub batch : ℕ
  pub limit : ℕ
  pub known : slice_get setup.outputs output ≡ Some (batch, limit)
  pub next : IsNextRange batch limit (ranges_of (lane_events output before)) from to

-- a range of the output is open
pub record MeetsDone (setup : Setup) (before : List Entry) (output : ℕ) : Type 0 where
  pub known : output < length setup.outputs
  pub begun : IsOpen (ranges_of (lane_events output before)).begun

-- what an entry says may be said after those before it, but for its reports
abbrev pub MeetsLine : Setup → List Entry → Entry → Type 0
MeetsLine setup before (Ended input) = MeetsEnded setup before input
MeetsLine setup before (Take item) = MeetsTake before item
MeetsLine setup before (Route item whole verdict aggs outs reports) =
    MeetsRoute setup before item whole verdict aggs outs
MeetsLine setup before (Tick moment made) =
    MeetsMoment setup before moment made (made_by_tick setup before moment)
MeetsLine setup before (Stop moment made) =
    MeetsMoment setup before moment made (made_by_stop setup before moment)
MeetsLine setup before (Begin output from to) = MeetsBegin setup before output from to
MeetsLine setup before (Done output ok reports) = MeetsDone setup before output
MeetsLine setup before e = MeetsGathered setup before (gather_of e)

-- the entry may come after those before it: its reports are the groups that settle at it
pub record Meets (setup : Setup) (before : List Entry) (e : Entry) : Type 0 where
  pub line : MeetsLine setup before e
  pub reports : reports_of e ≡ reports_at setup before e

-- each entry may come after those before it
unfoldable pub AreLegal : Setup → List Entry → List Entry → Type 0
AreLegal setup before [] = Unit {0}
AreLegal setup before (e ∷ es) = Meets setup before e × AreLegal setup (before ++ e ∷ []) es

abbrev pub IsLegal : Setup → List Entry → Type 0
IsLegal setup journal = AreLegal setup [] journal
