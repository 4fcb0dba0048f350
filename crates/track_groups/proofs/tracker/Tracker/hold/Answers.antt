use Rattle.std.proofs.Common.{ap, arith, ◌∙◌}
use Rattle.track_groups.specs.Tracker.{TrackerState, tracker_of, live_group, copies_of}
use Rattle.track_groups.specs.declared.group.LiveGroup.{LiveGroup}
use Rattle.track_groups.proofs.StepLemmas.{Found, hold_keeps, hold_is, hold_group, hold_copies, hold_others}
use Rattle.track_groups.proofs.tracker.Tracker.hold.Goals.{After-index_mut}
use Rattle.track_groups.proofs.tracker.Tracker.hold.Goals as goal

-- the group that was found
found : (c : After-index_mut) → Found
    (tracker_of c.self.inside.limits.items c.self.inside.started c.self.inside.live.items) c.args.self.now
    c.args.g c.place_of-at.result c.index_mut.result.now
found c =
    let long = c.self.inside.live.ok.0 in
    record {
      same = c.self.view_is;
      tracks = c.self.invariant.stands;
      stands = record {
        within = omega (arith, c.place_of-at.ensures.within);
        is = c.index_mut.ensures.value;
      };
      number =
          ap (λ (y : LiveGroup). y.number) c.index_mut.ensures.value
          ∙ c.place_of-at.ensures.found c.index_mut.result.now
          ∙ c.number.ensures;
    }

pub invariant_of-self : goal.invariant_of-self
invariant_of-self c =
    hold_keeps _ c.args.self.now _ _ c.args.g _ c.args.more _
    (found (goal.at.invariant_of-self c).After-index_mut) c.self.invariant c.requires.few

pub returns-clause-state : goal.returns-clause-state
returns-clause-state c =
    hold_is _ c.args.self.now c.args.g _ c.args.more _ (found (goal.at.returns-clause-state c).After-index_mut)

pub returns-clause-group : goal.returns-clause-group
returns-clause-group c =
    ap (λ (s : TrackerState). live_group s c.args.g) (returns-clause-state c)
    ∙ hold_group c.args.self.now c.args.g c.args.more

pub returns-clause-copies : goal.returns-clause-copies
returns-clause-copies c =
    ap (λ (s : TrackerState). copies_of s c.args.g) (returns-clause-state c)
    ∙ hold_copies c.args.self.now c.args.g c.args.more c.requires.live

pub returns-clause-others : goal.returns-clause-others
returns-clause-others c h n =
    ap (λ (s : TrackerState). live_group s h) (returns-clause-state c)
    ∙ hold_others c.args.self.now c.args.g c.args.more h n

pub returns-clause-stands : goal.returns-clause-stands
returns-clause-stands c = (invariant_of-self c).stands
