use Rattle.std.proofs.Common.{◌≡◌, ◌+◌, ◌≤◌, count_by, is_some, take, vec_len, vec_capacity}
use Rattle.track_groups.specs.Tracker.{IsTracker}
use Rattle.pipeline_core.specs.Letting.{LetsGo}
use Rattle.pipeline_core.specs.Tracked.{copies_in}
use Rattle.pipeline_core.proofs.settling.settle_all.Given as goal

abbrev pub invariant-loop-group : goal.invariant-loop-group
invariant-loop-group l = record {
  settled : LetsGo (copies_in l.dropped (take l.group-index l.groups)) l.fn.tracker l.fn.reports.items l.tracker
      l.reports.items;
  few : vec_len l.reports ≤ vec_len l.fn.reports + count_by is_some (take l.group-index l.groups);
  capacity : vec_capacity l.reports ≡ vec_capacity l.fn.reports;
  tracks : IsTracker l.tracker;
}
