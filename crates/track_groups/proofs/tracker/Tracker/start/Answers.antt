use Rattle.std.proofs.Common.{◌≡◌, ◌+◌, ◌<◌, length, get_or, sym, ap, subst, arith, ◌∙◌}
use Rattle.std.proofs.lemmas.List.{get_or_default}
use Rattle.track_groups.specs.Tracker.{TrackerState, tracker_of, live_of}
use Rattle.track_groups.proofs.StateLemmas.{keeps_push, room_left}
use Rattle.track_groups.proofs.StepLemmas.{fresh_number, start_group, start_others}
use Rattle.track_groups.proofs.tracker.Tracker.start.Goals.{After-index_mut}
use Rattle.track_groups.proofs.tracker.Tracker.start.Goals as goal

-- the input is a known one, with a group less than its limit says; so many of its groups were live
input_is : (c : After-index_mut) →
    let state = tracker_of c.self.inside.limits.items c.self.inside.started c.self.inside.live.items in
    (c.args.input < length state.limits) × (live_of state c.args.input < get_or state.limits c.args.input 0)
    × (c.index_mut.result.now ≡ get_or c.self.inside.counts.items c.args.input 0)
input_is c =
    let known : c.args.input < length c.self.inside.limits.items =
    subst (λ (s : TrackerState). c.args.input < length s.limits) (sym c.self.view_is) c.requires.input
    in
    let long = c.self.invariant.long in
    let here : c.args.input < length c.self.inside.counts.items = omega arith in (
      known,
      subst (λ (s : TrackerState). live_of s c.args.input < get_or s.limits c.args.input 0) (sym c.self.view_is)
          c.requires.room,
      c.index_mut.ensures.value ∙ get_or_default _ _ _ 0 here,
    )

pub returns-then-copies-eq0-clause-fresh : goal.returns-then-copies-eq0-clause-fresh
returns-then-copies-eq0-clause-fresh c =
    fresh_number _ _ _ c.self.view_is c.self.invariant.stands c.of.ensures

pub overflow_add-index_mut : goal.overflow_add-index_mut
overflow_add-index_mut c =
    let k = input_is (goal.at.overflow_add-index_mut c).After-index_mut in
    let limit = c.index-limit.ensures ∙ get_or_default _ _ _ 0 k.0 in
    let is = c.self.invariant.counted c.args.input in
    omega (arith, c.type_inv._limit)

pub push_back_reserved-requires : goal.push_back_reserved-requires
push_back_reserved-requires c =
    let k = input_is (goal.at.push_back_reserved-requires c).After-index_mut in
    let left = room_left _ _ _ c.args.input c.self.invariant k.0 k.1 in
    let long = c.self.inside.live.ok.0 in
    omega arith

pub invariant_of-self-2 : goal.invariant_of-self-2
invariant_of-self-2 c =
    let k = input_is (goal.at.invariant_of-self-2 c).After-index_mut in
    rw (c.push_back_reserved.ensures.items, c.push_back_reserved.ensures.capacity)
    (keeps_push _ _ _ c.args.input c.args.copies _ c.self.invariant k.0 k.1 (ap (λ n. n + 1) k.2) (omega arith)
    (omega arith))

pub returns-clause-fresh : goal.returns-clause-fresh
returns-clause-fresh c = fresh_number _ _ _ c.self.view_is c.self.invariant.stands c.of-2.ensures

pub returns-clause-group : goal.returns-clause-group
returns-clause-group c =
    rw c.push_back_reserved.ensures.items
    (start_group (tracker_of c.self.inside.limits.items c.self.inside.started c.self.inside.live.items) _ c.args.input
    c.args.copies c.self.invariant.stands c.of-2.ensures)

pub returns-clause-others : goal.returns-clause-others
returns-clause-others c h n =
    rw c.push_back_reserved.ensures.items
    (start_others (tracker_of c.self.inside.limits.items c.self.inside.started c.self.inside.live.items) _ _ h
    c.args.input c.args.copies c.self.view_is c.of-2.ensures n)

pub returns-clause-stands : goal.returns-clause-stands
returns-clause-stands c = (invariant_of-self-2 c).stands
