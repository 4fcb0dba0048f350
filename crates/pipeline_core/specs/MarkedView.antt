-- How the groups of what waits at an output are seen.
use Rattle.std.specs.Prelude.{◌≡◌, ◌≤◌, ℕ, [], IsSome, length, count_by, is_some, vec_capacity}
use Rattle.std.specs.declared.option.Option.{Option}
use Rattle.out_lane.specs.Lane.{LaneState, flying}
use Rattle.pipeline_core.specs.declared.marked.Marked.TheInside.{Inside}

-- they are seen as a lane
abbrev pub marked_state : Inside → LaneState (Option ℕ)
marked_state m = m.lane

-- no more wait than may; what comes back of a batch in flight has room, and so have the reports of its groups
pub record IsMarkedKept (m : Inside) : Type 0 where
  pub waits : length m.lane.waiting ≤ m.lane.limit
  pub none : m.room.groups.items ≡ []
  pub no_reports : m.room.reports.items ≡ []
  pub room : IsSome m.lane.flight → m.lane.batch ≤ vec_capacity m.room.groups
  pub places : IsSome m.lane.flight → count_by is_some (flying m.lane) ≤ vec_capacity m.room.reports
