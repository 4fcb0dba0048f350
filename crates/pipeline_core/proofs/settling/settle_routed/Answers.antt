use Rattle.std.proofs.Common.{◌≡◌, ◌⊎◌, ◌++◌, ◌∙◌, inl, inr, ap, sym, subst, ℕ}
use Rattle.std.proofs.Common.{false, List, count_by, is_some, rules, [], ◌∷◌, length, arith, None, Some}
use Rattle.std.specs.declared.option.Option.{Option}
use Rattle.metric.specs.declared.metric.Content.{Content}
use Rattle.account.specs.declared.entry.Verdict.{Verdict}
use Rattle.account.specs.declared.entry.Verdict.TheVariants as verdicts
use Rattle.out_lane.specs.Lane.{LaneState}
use Rattle.track_groups.specs.Tracker.{IsTracker, TrackerState}
use Rattle.pipeline_core.specs.Letting.{HasCopies, LetsGo}
use Rattle.pipeline_core.specs.Tracked.{copy_of, held_routed, hold_more, pushed_copies, routed_copies}
use Rattle.pipeline_core.proofs.LettingLemmas.{has_first, has_others, lets_none}
use Rattle.pipeline_core.proofs.settling.settle_routed.Goals.{in-Passes, in-Removed}
use Rattle.pipeline_core.proofs.settling.settle_routed.Goals as goal
use Rattle.account.specs.declared.entry.Report.{Report}

module _ (tracker : TrackerState) (group : Option ℕ) (outs : List (Option Content))
    (marked : List (LaneState (Option ℕ))) where
  -- there are the copies that an item with a verdict lets go
  abbrev Has : Verdict → Type 0
  Has verdict = HasCopies (routed_copies verdict outs marked ++ copy_of false group)
      (held_routed tracker group verdict outs)

  -- where it passes
  passing : (verdict : Verdict) (held : TrackerState) → verdict ≡ verdicts.Passes
      → held ≡ hold_more tracker group (count_by is_some outs) → Has verdict
      → HasCopies (pushed_copies outs marked ++ copy_of false group) held
  passing verdict held is holds has =
      subst (HasCopies (pushed_copies outs marked ++ copy_of false group)) (sym holds) (subst Has is has)

  -- where it doesn't
  kept_back : (verdict : Verdict) → (verdict ≡ verdicts.Removed) ⊎ ((verdict ≡ verdicts.Consumed)
      ⊎ (verdict ≡ verdicts.Late)) → Has verdict → HasCopies (copy_of false group) tracker
  kept_back verdict (inl is) has = subst Has is has
  kept_back verdict (inr (inl is)) has = subst Has is has
  kept_back verdict (inr (inr is)) has = subst Has is has

pub push_marks-requires-clause-copies : goal.push_marks-requires-clause-copies
push_marks-requires-clause-copies c =
    has_first (pushed_copies c.args.outs.now c.args.marked.now.items) (copy_of false c.args.group.now)
    c.hold.new.tracker (passing c.args.tracker.now c.args.group.now c.args.outs.now c.args.marked.now.items
    c.args.verdict c.hold.new.tracker c.in-Passes.is
    (c.hold.ensures.held ∙ ap (hold_more c.args.tracker.now c.args.group.now) c.views_in.ensures) c.requires.copies)

pub settle-requires-clause-copies : goal.settle-requires-clause-copies
settle-requires-clause-copies c =
    elim c.match-verdict.branch [
      | in-Passes w ↦ subst (HasCopies (copy_of false c.args.group.now)) (sym w.tracker-is)
          (has_others (pushed_copies c.args.outs.now c.args.marked.now.items) (copy_of false c.args.group.now)
          w.hold.new.tracker w.push_marks.new.tracker c.args.reports.now.items w.push_marks.new.reports.items
          w.hold.ensures.stands w.push_marks.ensures.settled
          (passing c.args.tracker.now c.args.group.now c.args.outs.now c.args.marked.now.items c.args.verdict
          w.hold.new.tracker w.in-Passes.is
          (w.hold.ensures.held ∙ ap (hold_more c.args.tracker.now c.args.group.now) w.views_in.ensures)
          c.requires.copies))
      | in-Removed w ↦ subst (HasCopies (copy_of false c.args.group.now)) (sym w.tracker-is)
          (kept_back c.args.tracker.now c.args.group.now c.args.outs.now c.args.marked.now.items c.args.verdict
          w.in-Removed.is c.requires.copies)
    ]

-- the groups, once the new copies are held
held_passing : (tracker held : TrackerState) (group : Option ℕ) (outs : List (Option Content)) (verdict : Verdict) →
    verdict ≡ verdicts.Passes → held ≡ hold_more tracker group (count_by is_some outs) → IsTracker held →
    IsTracker (held_routed tracker group verdict outs)
held_passing tracker held group outs verdict is holds tracks =
    subst (λ (v : Verdict). IsTracker (held_routed tracker group v outs)) (sym is) (subst IsTracker holds tracks)

held_back : (tracker : TrackerState) (group : Option ℕ) (outs : List (Option Content)) (verdict : Verdict) →
    (verdict ≡ verdicts.Removed) ⊎ ((verdict ≡ verdicts.Consumed) ⊎ (verdict ≡ verdicts.Late)) → IsTracker tracker →
    IsTracker (held_routed tracker group verdict outs)
held_back tracker group outs verdict (inl is) tracks =
    subst (λ (v : Verdict). IsTracker (held_routed tracker group v outs)) (sym is) tracks
held_back tracker group outs verdict (inr (inl is)) tracks =
    subst (λ (v : Verdict). IsTracker (held_routed tracker group v outs)) (sym is) tracks
held_back tracker group outs verdict (inr (inr is)) tracks =
    subst (λ (v : Verdict). IsTracker (held_routed tracker group v outs)) (sym is) tracks

pub returns-clause-held : goal.returns-clause-held
returns-clause-held c =
    elim c.match-verdict.branch [
      | in-Passes w ↦ held_passing c.args.tracker.now w.hold.new.tracker c.args.group.now c.args.outs.now c.args.verdict
          w.in-Passes.is
          (w.hold.ensures.held ∙ ap (hold_more c.args.tracker.now c.args.group.now) w.views_in.ensures)
          w.hold.ensures.stands
      | in-Removed w ↦ held_back c.args.tracker.now c.args.group.now c.args.outs.now c.args.verdict w.in-Removed.is
          c.requires.tracks
    ]

-- where an item has no group, and no output has marks
none_pushed : (outs : List (Option Content)) → pushed_copies outs [] ≡ []
unfolding pushed_copies
none_pushed [] = λ i. []
none_pushed (view ∷ views) = λ i. []

lets_nothing : (tracker : TrackerState) (group : Option ℕ) (verdict : Verdict) (outs : List (Option Content))
    (marked : List (LaneState (Option ℕ))) (told : List Report) → is_some group ≡ false → length marked ≡ 0
    → LetsGo (routed_copies verdict outs marked ++ copy_of false group) (held_routed tracker group verdict outs) told
    tracker told
lets_nothing tracker (Some group) verdict outs marked told lacks none = absurd cc
lets_nothing tracker None verdict outs (mark ∷ marked) told lacks none = absurd (omega (arith, none))
lets_nothing tracker None verdicts.Passes outs [] told lacks none = rw (none_pushed outs) (lets_none tracker told)
lets_nothing tracker None verdicts.Removed outs [] told lacks none = lets_none tracker told
lets_nothing tracker None verdicts.Consumed outs [] told lacks none = lets_none tracker told
lets_nothing tracker None verdicts.Late outs [] told lacks none = lets_none tracker told

pub returns-then-is_empty-clause-settled : goal.returns-then-is_empty-clause-settled
returns-then-is_empty-clause-settled c =
    let none : length c.args.marked.now.items ≡ 0 = search rules in
    lets_nothing c.args.tracker.now c.args.group.now c.args.verdict c.args.outs.now c.args.marked.now.items
    c.args.reports.now.items c.if-is_none.ensures none
