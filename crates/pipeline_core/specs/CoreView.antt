-- How a core is seen.
use Rattle.std.specs.Prelude.{◌≤◌, ◌<◌, ℕ, ◌+◌, length, map, vec_len, vec_capacity, slice_index_or}
use Rattle.track_groups.specs.Tracker.{live_of}
use Rattle.pipeline_core.specs.CoreState.{CoreState, IsCore, GroupsAgree, setup_of, flights}
use Rattle.pipeline_core.specs.Stands.{HasJournal}
use Rattle.pipeline_core.specs.ToldView.{no_reports, reports_in}
use Rattle.pipeline_core.specs.declared.state.Core.TheInside.{Inside}

abbrev pub core_state : Inside → CoreState
core_state c = record {
  setup = setup_of c.setup;
  raw = c.raw.items;
  taken = c.taken;
  held = c.held;
  made = c.unrouted.made;
  groups = c.unrouted.groups;
  tracker = c.tracker;
  bank = c.bank;
  lanes = c.outputs.items;
  marked = c.marked.items;
  told = map reports_in c.told.items;
  numbers = c.account;
  stored = c.stored.items;
  gathered = c.gathered;
  counted = c.counted;
  ended = c.ended.items;
  stopped = c.stopped;
}

-- what a core keeps agrees and is what some journal says, each batch in flight has room for the entry of its end, and
-- each live group has a place for its report
pub record IsKept (c : Inside) : Type 0 where
  pub core : IsCore (core_state c)
  pub groups : GroupsAgree (core_state c)
  pub told : HasJournal (core_state c)
  pub spare : flights c.outputs.items + vec_len c.stored ≤ vec_capacity c.stored
  pub places : (input : ℕ) → input < length c.told.items →
      length (slice_index_or c.told.items input no_reports).reports + live_of c.tracker input
      ≤ (slice_index_or c.told.items input no_reports).places
