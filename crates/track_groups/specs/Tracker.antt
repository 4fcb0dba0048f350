-- Live groups, and what each call makes of them.
use Rattle.std.specs.Prelude.{◌≡◌, ℕ, ◌+◌, ◌-◌, ◌^◌, ◌<◌, ◌≤◌, ◌==◌, Bool, true, false, not, ◌||◌, List, [], ◌∷◌}
use Rattle.std.specs.Prelude.{◌++◌, length, map, filter, find, sum, count_by, slice_index, All, AllPairs, Option}
use Rattle.std.specs.Prelude.{Some, None, IsSome, if◌then◌else◌}
use Rattle.std.specs.Option.{option_map_or}
use Rattle.account.specs.declared.entry.Report.{Report}
use Rattle.track_groups.specs.declared.group.LiveGroup.{LiveGroup}

-- Groups have numbers: 0, 1, 2 and so on, in the order in which they were started, over all inputs.
pub record TrackerState : Type 0 where
  -- of each input, how many of its groups may be live at once
  pub limits : List ℕ
  -- how many groups were started
  pub started : ℕ
  -- the groups of which copies wait, by rising number
  pub live : List LiveGroup

-- these limits, so many groups started, and these live
abbrev pub tracker_of : List ℕ → ℕ → List LiveGroup → TrackerState
tracker_of limits started live = record { limits = limits; started = started; live = live }

-- nothing was started
abbrev pub new_tracker : List ℕ → TrackerState
new_tracker limits = tracker_of limits 0 []

-- a group has this number
abbrev pub has_number : ℕ → LiveGroup → Bool
has_number g group = group.number == g

-- the live group with this number, where one is live
abbrev pub live_group : TrackerState → ℕ → Option LiveGroup
live_group state g = find (has_number g) state.live

-- a group with this number is live
abbrev pub IsLive : TrackerState → ℕ → Type 0
IsLive state g = IsSome (live_group state g)

-- how many copies of a group wait, 0 where it isn't live
abbrev pub copies_of : TrackerState → ℕ → ℕ
copies_of state g = option_map_or (λ group. group.copies) (live_group state g) 0

-- the input of a live group
abbrev pub input_of : TrackerState → ℕ → ℕ
input_of state g = option_map_or (λ group. group.input) (live_group state g) 0

-- a copy of a live group was dropped
abbrev pub is_rejected : TrackerState → ℕ → Bool
is_rejected state g = option_map_or (λ group. group.rejected) (live_group state g) false

-- a group is one of this input
abbrev pub is_of : ℕ → LiveGroup → Bool
is_of input group = group.input == input

-- how many groups of an input are live
abbrev pub live_of : TrackerState → ℕ → ℕ
live_of state input = count_by (is_of input) state.live

-- a group that begins
abbrev pub new_group : ℕ → ℕ → ℕ → LiveGroup
new_group number input copies = record { number = number; copies = copies; input = input; rejected = false }

-- One more group was started; it is live where copies of it wait.
abbrev pub after_start : TrackerState → ℕ → ℕ → TrackerState
after_start state input copies =
    record state {
      started = state.started + 1;
      live = if copies == 0 then state.live else state.live ++ new_group state.started input copies ∷ [];
    }

-- A group without copies is reported as it starts.
abbrev pub start_report : TrackerState → ℕ → ℕ → Option Report
start_report state input copies =
    if copies == 0 then Some (record { group = state.started; input = input; delivered = true }) else None

-- the group with this number is changed, and no other
abbrev pub changed : ℕ → (LiveGroup → LiveGroup) → List LiveGroup → List LiveGroup
changed g change groups = map (λ group. if has_number g group then change group else group) groups

-- all groups but that with this number
abbrev pub without : ℕ → List LiveGroup → List LiveGroup
without g groups = filter (λ group. not (has_number g group)) groups

-- more copies of a group wait
abbrev pub held : ℕ → LiveGroup → LiveGroup
held more group = record group { copies = group.copies + more }

-- one copy less of it waits; it is marked where that one was dropped, and stays marked
abbrev pub settled : Bool → LiveGroup → LiveGroup
settled rejected group = record group { copies = group.copies - 1; rejected = group.rejected || rejected }

-- More copies of the group wait.
abbrev pub after_hold : TrackerState → ℕ → ℕ → TrackerState
after_hold state g more = record state { live = changed g (held more) state.live }

-- one copy of the group waits, and no more
abbrev pub has_one : TrackerState → ℕ → Bool
has_one state g = copies_of state g == 1

-- With its last copy the group is no longer live.
abbrev pub after_settle : TrackerState → ℕ → Bool → TrackerState
after_settle state g rejected =
    record state {
      live = if has_one state g then without g state.live else changed g (settled rejected) state.live;
    }

-- A group is reported with its last copy; it was delivered where no copy was dropped, this one included.
abbrev pub settle_report : TrackerState → ℕ → Bool → Option Report
settle_report state g rejected =
    if has_one state g
    then Some (record {
      group = g;
      input = input_of state g;
      delivered = not (is_rejected state g || rejected);
    })
    else None

-- the numbers of groups rise
abbrev pub Rises : List LiveGroup → Type 0
Rises groups = AllPairs (λ a b. a.number < b.number) groups

-- what holds of every tracker
pub record IsTracker (state : TrackerState) : Type 0 where
  pub rises : Rises state.live
  -- each live group was started, by an input that there is
  pub begun : All (λ group. group.number < state.started) state.live
  pub inputs : All (λ group. group.input < length state.limits) state.live
  -- copies of it wait
  pub some : All (λ group. 1 ≤ group.copies) state.live
  pub few : All (λ group. group.copies < 2 ^ 40) state.live
  -- of each input at most as many groups are live as its limit says
  pub limited : (input : ℕ) → live_of state input ≤ slice_index state.limits input

-- what a tracker keeps besides: how many groups of each input are live, and places for groups
pub record Keeps (state : TrackerState) (counts : List ℕ) (places : ℕ) : Type 0 where
  pub stands : IsTracker state
  pub long : length counts ≡ length state.limits
  pub counted : (input : ℕ) → slice_index counts input ≡ live_of state input
  pub all : sum counts ≡ length state.live
  -- there are places for all groups that may be live at once
  pub room : sum state.limits ≤ places
