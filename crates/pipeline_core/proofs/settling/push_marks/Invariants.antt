use Rattle.std.proofs.Common.{◌≡◌, ◌+◌, ◌≤◌, length, take, vec_len, vec_capacity}
use Rattle.track_groups.specs.Tracker.{IsTracker}
use Rattle.pipeline_core.specs.Letting.{LetsGo}
use Rattle.pipeline_core.specs.Tracked.{pushed_copies}
use Rattle.pipeline_core.proofs.MarkingLemmas.{Marking}
use Rattle.pipeline_core.proofs.settling.push_marks.Given as goal

abbrev pub invariant-loop-output : goal.invariant-loop-output
invariant-loop-output l = record {
  marked : Marking l.group l.outs l.fn.marked.items l.output l.marked.items;
  settled : LetsGo (pushed_copies (take l.output l.outs) (take l.output l.fn.marked.items)) l.fn.tracker
      l.fn.reports.items l.tracker l.reports.items;
  few :
      vec_len l.reports ≤ vec_len l.fn.reports + length (pushed_copies (take l.output l.outs)
      (take l.output l.fn.marked.items));
  capacity : vec_capacity l.reports ≡ vec_capacity l.fn.reports;
  tracks : IsTracker l.tracker;
}
