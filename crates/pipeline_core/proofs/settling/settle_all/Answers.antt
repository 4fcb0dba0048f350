use Rattle.pipeline_core.proofs.LettingLemmas.{has_next}
use Rattle.pipeline_core.proofs.settling.settle_all.Goals as goal

pub settle-requires-clause-copies : goal.settle-requires-clause-copies
settle-requires-clause-copies c =
    has_next c.args.dropped c.args.groups.now c.loop-group.group-index c.group-item.result c.group-item.result
    c.args.tracker.now c.loop-group.tracker c.args.reports.now.items c.loop-group.reports.items c.loop-group-test.true
    c.group-item.is c.requires.tracks c.loop-group.invariant.settled c.requires.copies
