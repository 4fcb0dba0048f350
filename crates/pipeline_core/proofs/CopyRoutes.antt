-- What a Route does to the items of a group at an output, by the output's lane of groups.
use Rattle.std.proofs.Common.{◌≡◌, ℕ, ◌+◌, ◌&&◌, cond, Bool, true, false, List, [], ◌∷◌, ◌++◌}
use Rattle.std.proofs.Common.{map, refl, ap, arith, is_some}
use Rattle.std.specs.List.{count_by}
use Rattle.std.specs.Option.{option_to_list}
use Rattle.std.specs.declared.option.Option.{Option}
use Rattle.std.specs.declared.option.Option.TheVariants.{Some, None}
use Rattle.metric.specs.declared.metric.Content.{Content}
use Rattle.account.specs.Setup.{Setup}
use Rattle.account.specs.Origins.{origin_at, is_number}
use Rattle.account.specs.declared.entry.Entry.{Entry}
use Rattle.account.specs.declared.entry.Entry.TheVariants.{Route}
use Rattle.account.specs.declared.entry.Report.{Report}
use Rattle.account.specs.declared.entry.Verdict.{Verdict}
use Rattle.account.specs.declared.entry.Verdict.TheVariants as verdicts
use Rattle.out_lane.specs.Lane.{LaneState, after_push}
use Rattle.out_lane.specs.Lane.{pushed_out}
use Rattle.out_lane.specs.LaneCounts.{ones}
use Rattle.out_lane.specs.LaneEvents as lane
use Rattle.out_lane.specs.LaneLaws.{IsLaneOf, Pushes}
use Rattle.out_lane.proofs.LaneLemmas.{push_meets}
use Rattle.track_groups.specs.Settling.{drops, times}
use Rattle.pipeline_core.specs.Offers.{lane_events, offer_of, offered, pushes, view_at}
use Rattle.pipeline_core.specs.Fates.{Fate, is_buffered, is_dropped}
use Rattle.pipeline_core.specs.Legal.{IsLegal, MeetsLine}
use Rattle.pipeline_core.specs.Tracked.{gone_for, mark_of, marks}
use Rattle.pipeline_core.specs.Steps.{marked_with}
use Rattle.pipeline_core.proofs.CopySteps.{buffered-of_lane, count-come, count-still}
use Rattle.pipeline_core.proofs.CopySteps.{dropped-of_lane, fate_count, is_item_of, IsLaneTest, lane-event, lane-still}
use Rattle.pipeline_core.proofs.CopySteps.{no_route_kept, one_if}
use Rattle.pipeline_core.proofs.TotalPush.{tested}
use Rattle.pipeline_core.proofs.CopyLanes.{drops_in, times_in}

-- ---- an item that is routed

-- a lane of groups, once an item of a group was routed
abbrev pub marks_routed : Verdict → Option Content → Option ℕ → LaneState (Option ℕ) → LaneState (Option ℕ)
marks_routed verdicts.Passes view grp x = marked_with grp view x
marks_routed _ view grp x = x

-- an item that comes to no lane
pub stays_out : (setup : Setup) (t : Fate → Bool) (l o : ℕ) (es : List Entry) (item : ℕ) (whole : Option Content)
    (verdict : Verdict) (aggs outs : List (Option Content)) (reports : List Report) (g : ℕ) →
    let e : Entry = Route item whole verdict aggs outs reports in
    IsLegal setup es → MeetsLine setup es e → IsLaneTest t → offered item verdict (view_at o outs) ≡ []
    → fate_count t l o (es ++ e ∷ []) g ≡ fate_count t l o es g
stays_out setup t l o es item whole verdict aggs outs reports g h m is none =
    let e : Entry = Route item whole verdict aggs outs reports in
    count-still setup t l o es e g h m (ap pushes none) none
    (no_route_kept t (is_item_of (es ++ e ∷ []) g) o item whole verdict aggs outs reports is)

ones_if : (b : Bool) → ones b ≡ one_if b
ones_if true = refl
ones_if false = refl

-- an item of a group that passes, with a view at an output or without one
module _ (setup : Setup) (b l o : ℕ) (es : List Entry) (item : ℕ) (whole : Option Content)
    (aggs outs : List (Option Content)) (reports : List Report) (x : LaneState (Option ℕ)) (h : IsLegal setup es)
    (m : MeetsLine setup es (Route item whole verdicts.Passes aggs outs reports))
    (at : IsLaneOf b l (lane_events o es) (marks o es) x) where
  abbrev pub passing : Entry
  passing = Route item whole verdicts.Passes aggs outs reports

  abbrev pub mark : Option ℕ
  mark = (origin_at es item).group

  -- it comes to the lane
  comes_in : (t : Fate → Bool) (g : ℕ) (view : Content) → IsLaneTest t → view_at o outs ≡ Some view →
      fate_count t l o (es ++ passing ∷ []) g + cond (tested t lane.Buffered)
      (count_by (is_number g) (option_to_list (pushed_out x))) 0
      ≡ fate_count t l o es g + cond (tested t lane.Dropped) (count_by (is_number g) (option_to_list (pushed_out x))) 0
      + ones (tested t lane.Buffered && is_number g mark)
  comes_in t g view is v =
      let p : Pushes b l (lane_events o es) (marks o es) x mark =
      push_meets b l (lane_events o es) (marks o es) x mark at in
      count-come setup t l o es passing g mark (option_to_list (pushed_out x)) h m
      (ap (λ (w : Option Content). pushes (offer_of item w)) v)
      (ap (λ (w : Option Content). map (mark_of es) (offer_of item w)) v)
      (no_route_kept t (is_item_of (es ++ passing ∷ []) g) o item whole verdicts.Passes aggs outs reports is)
      p.comes p.dropped

  -- or to none
  stays_away : (t : Fate → Bool) (g : ℕ) → IsLaneTest t → view_at o outs ≡ None →
      fate_count t l o (es ++ passing ∷ []) g ≡ fate_count t l o es g
  stays_away t g is v =
      stays_out setup t l o es item whole verdicts.Passes aggs outs reports g h m is (ap (offer_of item) v)

  -- what is buffered, with a view more
  pub view_buffered : (g : ℕ) (view : Option Content) → view_at o outs ≡ view →
      fate_count is_buffered l o (es ++ passing ∷ []) g + times g (gone_for view x)
      ≡ fate_count is_buffered l o es g + one_if (is_some view && is_number g mark)
  view_buffered g None v = omega (arith, stays_away is_buffered g buffered-of_lane v)
  view_buffered g (Some view) v =
      omega (
        arith,
        comes_in is_buffered g view buffered-of_lane v,
        times_in g true (option_to_list (pushed_out x)),
        ones_if (is_number g mark),
      )

  -- and what is dropped
  pub view_dropped : (g : ℕ) (view : Option Content) → view_at o outs ≡ view →
      fate_count is_dropped l o (es ++ passing ∷ []) g ≡ fate_count is_dropped l o es g + drops g (gone_for view x)
  view_dropped g None v = omega (arith, stays_away is_dropped g dropped-of_lane v)
  view_dropped g (Some view) v =
      omega (
        arith,
        comes_in is_dropped g view dropped-of_lane v,
        drops_in g true (option_to_list (pushed_out x)),
      )

  view_lane : (view : Option Content) → view_at o outs ≡ view →
      IsLaneOf b l (lane_events o (es ++ passing ∷ [])) (marks o (es ++ passing ∷ [])) (marked_with mark view x)
  view_lane None v =
      lane-still setup b l o es passing x h m (ap (λ (w : Option Content). pushes (offer_of item w)) v)
      (ap (offer_of item) v) at
  view_lane (Some view) v =
      lane-event setup b l o es passing lane.Push (mark ∷ []) (after_push x mark) h m
      (ap (λ (w : Option Content). pushes (offer_of item w)) v)
      (ap (λ (w : Option Content). map (mark_of es) (offer_of item w)) v)
      (push_meets b l (lane_events o es) (marks o es) x mark at).state

-- and the lane
pub route_lane : (verdict : Verdict) (setup : Setup) (b l o : ℕ) (es : List Entry) (item : ℕ)
    (whole : Option Content) (aggs outs : List (Option Content)) (reports : List Report) (x : LaneState (Option ℕ)) →
    let e : Entry = Route item whole verdict aggs outs reports in
    IsLegal setup es → MeetsLine setup es e → IsLaneOf b l (lane_events o es) (marks o es) x
    → IsLaneOf b l (lane_events o (es ++ e ∷ [])) (marks o (es ++ e ∷ []))
    (marks_routed verdict (view_at o outs) (origin_at es item).group x)
route_lane verdicts.Passes setup b l o es item whole aggs outs reports x h m at =
    view_lane setup b l o es item whole aggs outs reports x h m at (view_at o outs) refl
route_lane verdicts.Consumed setup b l o es item whole aggs outs reports x h m at =
    lane-still setup b l o es (Route item whole verdicts.Consumed aggs outs reports) x h m refl refl at
route_lane verdicts.Late setup b l o es item whole aggs outs reports x h m at =
    lane-still setup b l o es (Route item whole verdicts.Late aggs outs reports) x h m refl refl at
route_lane verdicts.Removed setup b l o es item whole aggs outs reports x h m at =
    lane-still setup b l o es (Route item whole verdicts.Removed aggs outs reports) x h m refl refl at
