use Rattle.std.proofs.Common.{subst, ap, ◌∙◌}
use Rattle.std.specs.Prelude.{Option}
use Rattle.account.specs.declared.entry.Report.{Report}
use Rattle.track_groups.specs.Settling.{PutsTold}
use Rattle.track_groups.proofs.SettlingLemmas.{settled_among, settled_one}
use Rattle.track_groups.specs.Tracker.{TrackerState, IsLive, after_settle}
use Rattle.track_groups.proofs.tracker.Tracker.settle_among.Goals as goal

pub returns-clause-gone : goal.returns-clause-gone
returns-clause-gone c first copies t state =
    c.settle-told.ensures.state
    ∙ ap (λ (s : TrackerState). after_settle s c.args.g c.args.dropped) state
    ∙ settled_one first copies c.args.g c.args.dropped t
    (subst (λ (s : TrackerState). IsLive s c.args.g) state c.requires.live)

pub returns-clause-told : goal.returns-clause-told
returns-clause-told c first copies t state told =
    (settled_among first c.args.self.now c.settle-told.new.self copies c.args.g c.args.dropped c.args.reports.now.items
    c.put_told.new.reports.items c.requires.live c.settle-told.ensures.state
    (subst (λ (o : Option Report). PutsTold o c.args.reports.now.items c.put_told.new.reports.items)
    c.settle-told.ensures.report c.put_told.ensures.put) t state told).1
