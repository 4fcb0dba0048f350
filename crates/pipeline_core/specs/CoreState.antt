-- What a core keeps, as contracts see it.
use Rattle.std.specs.Prelude.{◌≡◌, ◌<◌, ◌≤◌, ℕ, ℤ, ◌+◌, ◌^◌, Bool, false, is_some, List, [], map, length}
use Rattle.std.specs.Prelude.{replicate, slice_index_or, if◌then◌else◌}
use Rattle.std.specs.List.{sum_by}
use Rattle.std.specs.declared.option.Option.{Option}
use Rattle.std.specs.declared.option.Option.TheVariants.{Some, None}
use Rattle.metric.specs.declared.metric.Content.{Content}
use Rattle.account.specs.Setup.{Setup}
use Rattle.account.specs.Numbers.{Numbers, no_numbers, sum_of_fates, unreached_output}
use Rattle.account.specs.declared.numbers.InputNumbers.{InputNumbers}
use Rattle.account.specs.declared.numbers.OutputNumbers.{OutputNumbers}
use Rattle.account.specs.declared.entry.Entry.{Entry}
use Rattle.account.specs.declared.entry.Report.{Report}
use Rattle.agg_bank.specs.Bank.{lines_of, BankMemory}
use Rattle.out_lane.specs.Lane.{LaneState, empty_lane, flying}
use Rattle.track_groups.specs.Tracker.{TrackerState, IsTracker, new_tracker}
use Rattle.pipeline_core.specs.Tracked.{most_live, is_tracking}
use Rattle.pipeline_core.specs.declared.output.Offer.{Offer}
use Rattle.pipeline_core.specs.declared.setup.CoreSetup.{CoreSetup}
use Rattle.pipeline_core.specs.declared.setup.InSetup.{InSetup}
use Rattle.pipeline_core.specs.declared.setup.OutSetup.{OutSetup}

pub record CoreState : Type 0 where
  pub setup : Setup
  -- the items that weren't taken yet, oldest first
  pub raw : List Content
  -- how many items were taken
  pub taken : ℕ
  -- the item in hand
  pub held : Option ℕ
  -- of each item without a Route, the one in hand and the raw ones, whether it was made
  pub made : List Bool
  -- and its group, where the input that gathered it is tracked
  pub groups : List (Option ℕ)
  -- the groups that are live
  pub tracker : TrackerState
  -- what the aggregators keep
  pub bank : BankMemory
  -- what waits at each output, and its batch in flight
  pub lanes : List (LaneState Offer)
  -- where an input is tracked, at each output the groups of these
  pub marked : List (LaneState (Option ℕ))
  -- of each input the reports that weren't handed out yet, oldest first
  pub told : List (List Report)
  pub numbers : Numbers
  -- the entries since the last cut
  pub stored : List Entry
  -- how many metrics were gathered
  pub gathered : ℕ
  -- the moment that counts
  pub counted : ℤ
  -- whether each input has ended
  pub ended : List Bool
  pub stopped : Bool

-- the most undelivered groups of an input, where it is tracked
abbrev pub most_undelivered : InSetup → Option ℕ
most_undelivered input = if input.tracked then Some input.max_undelivered else None

-- whether an input is tracked
abbrev pub is_tracked : InSetup → Bool
is_tracked input = input.tracked

-- an output's batch size and its buffer limit
abbrev pub sizes : OutSetup → ℕ × ℕ
sizes output = (output.batch, output.limit)

-- the set-up of a journal, of what a core is set up with
abbrev pub setup_of : CoreSetup → Setup
setup_of setup = record {
  start = setup.start;
  inputs = map most_undelivered setup.inputs;
  aggs = setup.aggs;
  outputs = map sizes setup.outputs;
}

-- an output at which nothing waits
abbrev pub lane_of : OutSetup → LaneState Offer
lane_of output = empty_lane output.batch output.limit

-- an output at which no group waits
abbrev pub marked_of : OutSetup → LaneState (Option ℕ)
marked_of output = empty_lane output.batch output.limit

-- a tracker for the inputs of a set-up
abbrev pub first_tracker : Setup → TrackerState
first_tracker setup = new_tracker (map most_live setup.inputs)

-- nothing happened yet
abbrev pub first_state : CoreSetup → BankMemory → CoreState
first_state setup bank = record {
  setup = setup_of setup;
  raw = [];
  taken = 0;
  held = None;
  made = [];
  groups = [];
  tracker = first_tracker (setup_of setup);
  bank = bank;
  lanes = map lane_of setup.outputs;
  marked = if is_tracking (setup_of setup) then map marked_of setup.outputs else [];
  told = replicate (length setup.inputs) [];
  numbers = no_numbers (map is_tracked setup.inputs) (length setup.outputs);
  stored = [];
  gathered = 0;
  counted = setup.start;
  ended = replicate (length setup.inputs) false;
  stopped = false;
}

-- an output's lane
abbrev pub lane_at : List (LaneState Offer) → ℕ → LaneState Offer
lane_at lanes output = slice_index_or lanes output (empty_lane 0 0)

-- the groups at an output
abbrev pub marked_at : List (LaneState (Option ℕ)) → ℕ → LaneState (Option ℕ)
marked_at marked output = slice_index_or marked output (empty_lane 0 0)

-- the reports of an input that weren't handed out yet
abbrev pub told_at : List (List Report) → ℕ → List Report
told_at told input = slice_index_or told input []

-- an output's sizes
abbrev pub sizes_at : Setup → ℕ → ℕ × ℕ
sizes_at setup output = slice_index_or setup.outputs output (0, 0)

-- one where an item is in hand
abbrev pub held_count : Option ℕ → ℕ
held_count None = 0
held_count (Some item) = 1

-- one where a batch is in flight
abbrev pub in_flight : LaneState Offer → ℕ
in_flight lane = if is_some lane.flight then 1 else 0

-- how many batches are in flight
abbrev pub flights : List (LaneState Offer) → ℕ
flights lanes = sum_by in_flight lanes

-- an output's sizes, its numbers and its lane agree
pub record IsOutput (size : ℕ × ℕ) (routed : ℕ) (x : OutputNumbers) (lane : LaneState Offer) : Type 0 where
  pub batch : lane.batch ≡ size.0
  pub limit : lane.limit ≡ size.1
  pub some : 1 ≤ lane.batch
  pub fits : lane.batch ≤ lane.limit
  pub waits : length lane.waiting ≤ lane.limit
  pub flies : length (flying lane) ≤ lane.batch
  pub buffered : x.buffered ≡ length (flying lane) + length lane.waiting
  pub all : sum_of_fates x ≡ routed
  pub pushed : lane.pushed ≤ routed

-- each output of the set-up, which are few, has a lane and numbers, and they agree
pub record OutputsAgree (sizes : List (ℕ × ℕ)) (routed : ℕ) (numbers : List OutputNumbers)
    (lanes : List (LaneState Offer)) : Type 0 where
  pub lane_count : length lanes ≡ length sizes
  pub number_count : length numbers ≡ length sizes
  pub few : length sizes ≤ 16
  pub each : (output : ℕ) → output < length sizes →
      IsOutput (slice_index_or sizes output (0, 0)) routed (slice_index_or numbers output unreached_output)
      (lane_at lanes output)

-- each input of the set-up has numbers, and may end
pub record InputsAgree (inputs : List (Option ℕ)) (numbers : List InputNumbers) (ended : List Bool)
    : Type 0 where
  pub number_count : length numbers ≡ length inputs
  pub ended_count : length ended ≡ length inputs

-- each item was gathered or made; there are fewer than 2^63, and fewer than 2^32 that were gathered; those that
-- were taken were removed or routed, but for the one in hand
pub record ItemsAgree (raw taken held gathered made removed routed : ℕ) : Type 0 where
  pub come : taken + raw ≡ gathered + made
  pub few : taken + raw < 2 ^ 63
  pub few_gathered : gathered < 2 ^ 32
  pub gone : removed + routed + held ≡ taken

-- what a core keeps agrees
pub record IsCore (state : CoreState) : Type 0 where
  pub outputs :
      OutputsAgree state.setup.outputs state.numbers.routed state.numbers.outputs state.lanes
  pub inputs : InputsAgree state.setup.inputs state.numbers.inputs state.ended
  pub items :
      ItemsAgree (length state.raw) state.taken (held_count state.held) state.gathered state.numbers.made
      state.numbers.removed state.numbers.routed
  -- the aggregators are those of the set-up, and each item without a Route is known as gathered or made
  pub lines : lines_of state.bank ≡ state.setup.aggs
  pub marks : length state.made ≡ held_count state.held + length state.raw

-- the group of each item without a Route is known, the tracker is one of the set-up's inputs, which have begun few
-- enough groups, and each of them has a list of reports
pub record GroupsAgree (state : CoreState) : Type 0 where
  pub known : length state.groups ≡ length state.made
  pub tracks : IsTracker state.tracker
  pub limits : state.tracker.limits ≡ map most_live state.setup.inputs
  pub few : state.tracker.started ≤ 2 ^ 63
  pub told_count : length state.told ≡ length state.setup.inputs
