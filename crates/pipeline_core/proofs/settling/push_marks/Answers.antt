use Rattle.std.proofs.Common.{◌<◌, ◌≤◌, refl, ap, ◌∙◌, arith, length, length-append, take}
use Rattle.pipeline_core.specs.Tracked.{pushed_copies, gone_for}
use Rattle.pipeline_core.proofs.LettingLemmas.{lets_none, lets_more}
use Rattle.pipeline_core.proofs.MarkingLemmas.{marking_none, marking_more, marking_all, pushed_all, pushed_here}
use Rattle.pipeline_core.proofs.MarkingLemmas.{has_pushed, room_pushed}
use Rattle.pipeline_core.proofs.settling.push_marks.Goals as goal

pub loop-output-init : goal.loop-output-init
unfolding pushed_copies
loop-output-init c = record {
  marked = marking_none c.args.group.now c.args.outs.now c.args.marked.now.items;
  settled = lets_none c.args.tracker.now c.args.reports.now.items;
  few = omega arith;
  capacity = refl;
  tracks = c.requires.tracks;
}

pub push_mark-requires-clause-copies : goal.push_mark-requires-clause-copies
push_mark-requires-clause-copies c =
    has_pushed c.args.group.now c.args.outs.now c.args.marked.now.items c.loop-output.marked.items c.loop-output.output
    c.index-outs-output.result c.index_mut.result.now (omega (arith, c.loop-output-test.true, c.len-output-end.ensures))
    c.requires.outputs c.index-outs-output.is c.index_mut.ensures.value c.loop-output.invariant.marked
    c.args.tracker.now c.loop-output.tracker c.args.reports.now.items c.loop-output.reports.items c.requires.tracks
    c.loop-output.invariant.settled c.requires.copies

pub push_mark-requires-clause-room : goal.push_mark-requires-clause-room
push_mark-requires-clause-room c =
    let room = room_pushed c.args.group.now c.args.outs.now c.args.marked.now.items c.loop-output.marked.items
    c.loop-output.output c.index-outs-output.result c.index_mut.result.now
    (omega (arith, c.loop-output-test.true, c.len-output-end.ensures)) c.requires.outputs c.index-outs-output.is
    c.index_mut.ensures.value c.loop-output.invariant.marked in
    omega (arith, room, c.loop-output.invariant.few, c.loop-output.invariant.capacity, c.requires.room)

pub loop-output-preserved : goal.loop-output-preserved
loop-output-preserved c =
    let within : c.loop-output.output < length c.args.marked.now.items =
    omega (arith, c.loop-output-test.true, c.len-output-end.ensures) in
    let next = pushed_here c.args.group.now c.args.outs.now c.args.marked.now.items c.loop-output.marked.items
    c.loop-output.output c.index-outs-output.result c.index_mut.result.now within c.requires.outputs
    c.index-outs-output.is c.index_mut.ensures.value c.loop-output.invariant.marked in
    let long = length-append (pushed_copies (take c.loop-output.output c.args.outs.now)
    (take c.loop-output.output c.args.marked.now.items)) (gone_for c.index-outs-output.result c.index_mut.result.now) in
    record {
      marked = marking_more c.args.group.now c.args.outs.now c.args.marked.now.items c.loop-output.marked.items _
          c.loop-output.output c.index-outs-output.result c.index_mut.result.now c.push_mark.new.marked within
          (omega (arith, within, c.requires.outputs)) c.index-outs-output.is c.index_mut.ensures.value
          c.push_mark.ensures.marked refl c.loop-output.invariant.marked;
      settled = rw next (lets_more _ _ _ _ _ _ _ _ c.loop-output.invariant.settled c.push_mark.ensures.settled);
      few = omega (arith, ap length next, long, c.loop-output.invariant.few, c.push_mark.ensures.few);
      capacity = c.push_mark.ensures.capacity ∙ c.loop-output.invariant.capacity;
      tracks = c.push_mark.ensures.stands;
    }

-- all outputs were seen
seen : (c : goal.After-loop-output) → length c.args.marked.now.items ≤ c.loop-output.output
seen c = omega (arith, c.loop-output-test.false, c.len-output-end.ensures)

pub returns-clause-marked : goal.returns-clause-marked
returns-clause-marked c =
    marking_all c.args.group.now c.args.outs.now c.args.marked.now.items c.loop-output.marked.items
    c.loop-output.output (seen c) c.loop-output.invariant.marked

pub returns-clause-settled : goal.returns-clause-settled
returns-clause-settled c =
    rw (pushed_all c.args.outs.now c.args.marked.now.items c.loop-output.output (seen c))
    c.loop-output.invariant.settled

pub returns-clause-few : goal.returns-clause-few
returns-clause-few c =
    omega (
      arith,
      ap length (pushed_all c.args.outs.now c.args.marked.now.items c.loop-output.output (seen c)),
      c.loop-output.invariant.few,
    )
