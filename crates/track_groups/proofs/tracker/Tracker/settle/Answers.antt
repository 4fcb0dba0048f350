use Rattle.std.proofs.Common.{◌≡◌, ◌+◌, ◌≤◌, ◌<◌, length, get_or, OnSome, ap, subst, arith, ◌∙◌}
use Rattle.std.specs.Prelude.{remove, Option}
use Rattle.std.proofs.lemmas.List.{get_or_default}
use Rattle.track_groups.specs.Tracker.{TrackerState, tracker_of, live_group, copies_of, IsLive}
use Rattle.track_groups.specs.declared.group.LiveGroup.{LiveGroup}
use Rattle.track_groups.proofs.StateLemmas.{keeps_remove, known_input, some_live}
use Rattle.track_groups.proofs.StepLemmas.{Found, found_copies, some_copies, settle_keeps, settle_is, settle_none}
use Rattle.track_groups.proofs.StepLemmas.{last_is, last_report, settle_gone, settle_group, settle_copies}
use Rattle.track_groups.proofs.StepLemmas.{settle_others}
use Rattle.track_groups.proofs.tracker.Tracker.settle.Goals.{After-index-group, After-remove-settled}
use Rattle.track_groups.proofs.tracker.Tracker.settle.Goals as goal

-- the group that was found
found : (c : After-index-group) → Found
    (tracker_of c.self.inside.limits.items c.self.inside.started c.self.inside.live.items) c.args.self.now
    c.args.g c.place_of-at.result c.index-group.result.now
found c =
    let long = c.self.inside.live.ok.0 in
    record {
      same = c.self.view_is;
      tracks = c.self.invariant.stands;
      stands = record {
        within = omega (arith, c.place_of-at.ensures.within);
        is = c.index-group.ensures;
      };
      number =
          ap (λ (y : LiveGroup). y.number) c.index-group.ensures
          ∙ c.place_of-at.ensures.found c.index-group.result.now
          ∙ c.number.ensures;
    }

-- a copy of it waits
waits : (c : After-index-group) → 1 ≤ c.index-group.result.now.copies
waits c = some_copies _ _ _ _ _ (found c)

seen : (c : After-index-group) → 1 ≤ copies_of c.args.self.now c.args.g
seen c = let e = found_copies _ _ _ _ _ (found c) in let some = waits c in omega arith

pub invariant_of-self : goal.invariant_of-self
invariant_of-self c =
    settle_keeps _ c.args.self.now _ _ c.args.g _ _ c.args.rejected
    (found (goal.at.invariant_of-self c).After-index-group) c.self.invariant (omega arith)

pub returns-then-group-gt1-clause-state : goal.returns-then-group-gt1-clause-state
returns-then-group-gt1-clause-state c =
    settle_is _ c.args.self.now c.args.g _ _ c.args.rejected
    (found (goal.at.returns-then-group-gt1-clause-state c).After-index-group) (omega arith)

pub returns-then-group-gt1-clause-report : goal.returns-then-group-gt1-clause-report
returns-then-group-gt1-clause-report c =
    settle_none _ c.args.self.now c.args.g _ _ c.args.rejected
    (found (goal.at.returns-then-group-gt1-clause-report c).After-index-group) (omega arith)

pub returns-then-group-gt1-clause-group : goal.returns-then-group-gt1-clause-group
returns-then-group-gt1-clause-group c =
    let at = (goal.at.returns-then-group-gt1-clause-group c).After-index-group in
    let copies = found_copies _ _ _ _ _ (found at) in
    ap (λ (s : TrackerState). live_group s c.args.g) (returns-then-group-gt1-clause-state c)
    ∙ settle_group c.args.self.now c.args.g c.args.rejected (λ e. omega arith)

pub returns-then-group-gt1-clause-copies : goal.returns-then-group-gt1-clause-copies
returns-then-group-gt1-clause-copies c =
    ap (λ (s : TrackerState). copies_of s c.args.g + 1) (returns-then-group-gt1-clause-state c)
    ∙ settle_copies c.args.self.now c.args.g c.args.rejected
    (seen (goal.at.returns-then-group-gt1-clause-copies c).After-index-group)

pub returns-then-group-gt1-clause-others : goal.returns-then-group-gt1-clause-others
returns-then-group-gt1-clause-others c h n =
    ap (λ (s : TrackerState). live_group s h) (returns-then-group-gt1-clause-state c)
    ∙ settle_others c.args.self.now c.args.g h c.args.rejected n

pub returns-then-group-gt1-clause-stands : goal.returns-then-group-gt1-clause-stands
returns-then-group-gt1-clause-stands c = (invariant_of-self c).stands

-- what its removal leaves
removed : (c : After-remove-settled) →
    c.remove-settled.new.self.items ≡ remove c.self.inside.live.items c.place_of-at.result
removed c =
    subst (λ (o : Option LiveGroup). OnSome o
    (c.remove-settled.new.self.items ≡ remove c.self.inside.live.items c.place_of-at.result))
    (c.remove-settled.ensures.succeeds c.index-group.result.now c.place_of-at.ensures.within)
    c.remove-settled.ensures.items

-- its input is a known one, of which at least this group is live
known : (c : After-index-group) →
    (c.index-group.result.now.input < length c.self.inside.counts.items)
    × (1 ≤ get_or c.self.inside.counts.items c.index-group.result.now.input 0)
known c =
    let state : TrackerState =
    tracker_of c.self.inside.limits.items c.self.inside.started c.self.inside.live.items
    in
    let f = found c in
    let low = known_input state _ _ c.self.invariant.stands f.stands in
    let some = some_live state c.place_of-at.result c.index-group.result.now f.stands in
    let is = c.self.invariant.counted c.index-group.result.now.input in
    let long = c.self.invariant.long in
    (omega arith, omega arith)

pub overflow_sub-index_mut : goal.overflow_sub-index_mut
overflow_sub-index_mut c =
    let k = known (goal.at.overflow_sub-index_mut c).After-index-group in
    let is = c.index_mut-2.ensures.value ∙ get_or_default _ _ _ 0 k.0 in
    omega arith

pub invariant_of-self-2 : goal.invariant_of-self-2
invariant_of-self-2 c =
    let k = known (goal.at.invariant_of-self-2 c).After-index-group in
    let is = c.index_mut-2.ensures.value ∙ get_or_default _ _ _ 0 k.0 in
    rw (removed (goal.at.invariant_of-self-2 c).After-remove-settled, c.remove-settled.ensures.capacity)
    (keeps_remove _ _ _ _ _ _ c.self.invariant (found (goal.at.invariant_of-self-2 c).After-index-group).stands
    (omega arith))

pub returns-clause-state : goal.returns-clause-state
returns-clause-state c =
    let some = waits (goal.at.returns-clause-state c).After-index-group in
    rw (removed (goal.at.returns-clause-state c).After-remove-settled)
    (last_is _ c.args.self.now c.args.g _ _ c.args.rejected
    (found (goal.at.returns-clause-state c).After-index-group) (omega arith))

pub returns-clause-report : goal.returns-clause-report
returns-clause-report c =
    let some = waits (goal.at.returns-clause-report c).After-index-group in
    last_report _ c.args.self.now c.args.g _ _ c.args.rejected
    (found (goal.at.returns-clause-report c).After-index-group) (omega arith)

pub returns-clause-gone : goal.returns-clause-gone
returns-clause-gone c live =
    let some = waits (goal.at.returns-clause-gone c).After-index-group in
    let known = found_copies _ _ _ _ _ (found (goal.at.returns-clause-gone c).After-index-group) in
    settle_gone c.args.self.now c.args.g c.args.rejected (omega arith)
    (subst (λ (s : TrackerState). IsLive s c.args.g) (returns-clause-state c) live)

pub returns-clause-copies : goal.returns-clause-copies
returns-clause-copies c =
    ap (λ (s : TrackerState). copies_of s c.args.g + 1) (returns-clause-state c)
    ∙ settle_copies c.args.self.now c.args.g c.args.rejected
    (seen (goal.at.returns-clause-copies c).After-index-group)

pub returns-clause-others : goal.returns-clause-others
returns-clause-others c h n =
    ap (λ (s : TrackerState). live_group s h) (returns-clause-state c)
    ∙ settle_others c.args.self.now c.args.g h c.args.rejected n

pub returns-clause-stands : goal.returns-clause-stands
returns-clause-stands c = (invariant_of-self-2 c).stands
