-- In a legal journal each output has a lane of groups.
use Rattle.std.proofs.Common.{◌≡◌, ◌≢◌, ◌<◌, ◌≤◌, ℕ, zero, suc, List, [], ◌∷◌, ◌++◌, length, refl, sym}
use Rattle.std.proofs.Common.{arith, subst, append-nil, append_assoc, Bool, ◌∙◌, set}
use Rattle.std.proofs.lemmas.List.{get_or-set_same, get_or-set_other, length-set}
use Rattle.std.proofs.lemmas.Option.{slice_get_within}
use Rattle.metric.specs.declared.metric.Content.{Content}
use Rattle.account.specs.declared.entry.Report.{Report}
use Rattle.account.specs.declared.entry.Verdict.{Verdict}
use Rattle.std.specs.declared.option.Option.{Option}
use Rattle.account.specs.Setup.{Setup}
use Rattle.account.specs.Origins.{origin_at}
use Rattle.account.specs.declared.entry.Entry.{Entry}
use Rattle.account.specs.declared.entry.Entry.TheVariants.{Gather, Ended, Take, Route, Tick, Stop, Begin}
use Rattle.account.specs.declared.entry.Entry.TheVariants.{Done}
use Rattle.out_lane.specs.Lane.{LaneState, after_begin, empty_lane}
use Rattle.out_lane.specs.LaneLaws.{IsLaneOf}
use Rattle.out_lane.proofs.LaneLemmas.{new_is_lane}
use Rattle.pipeline_core.specs.CoreState.{sizes_at}
use Rattle.pipeline_core.specs.Offers.{lane_events, offers, view_at}
use Rattle.pipeline_core.specs.Legal.{AreLegal, IsLegal, MeetsLine}
use Rattle.pipeline_core.specs.Tracked.{marks}
use Rattle.pipeline_core.specs.CoreState.{marked_at}
use Rattle.pipeline_core.specs.Steps.{marked_done}
use Rattle.pipeline_core.proofs.CopyLanes.{begin_lane, done_lane, IsPlain, IsPlainAt, plain_lane}
use Rattle.pipeline_core.proofs.CopyLanes.{plain_anywhere}
use Rattle.pipeline_core.proofs.CopyRoutes.{marks_routed, route_lane}
use Rattle.pipeline_core.proofs.CopySums.{AreMarked, each_output}
use Rattle.pipeline_core.proofs.JournalPush.{IsLegal-push}

-- an output has a lane of groups
pub record HasLane (setup : Setup) (o : ℕ) (es : List Entry) : Type 0 where
  pub lane : LaneState (Option ℕ)
  pub is : IsLaneOf (sizes_at setup o).0 (sizes_at setup o).1 (lane_events o es) (marks o es) lane

stays : (setup : Setup) (o : ℕ) (es : List Entry) (e : Entry) → IsLegal setup es → MeetsLine setup es e → IsPlainAt o e
    → HasLane setup o es → HasLane setup o (es ++ e ∷ [])
stays setup o es e h m is at = record {
  lane = at.lane;
  is = plain_lane setup (sizes_at setup o).0 (sizes_at setup o).1 o es e at.lane h m is at.is;
}

-- with one entry more
pub has_lane-push : (setup : Setup) (o : ℕ) (es : List Entry) (e : Entry) → IsLegal setup es → MeetsLine setup es e
    → HasLane setup o es → HasLane setup o (es ++ e ∷ [])
has_lane-push setup o es (Gather input moment pieces refused passed filtered metrics group reports) h m at =
    stays setup o es _ h m tt at
has_lane-push setup o es (Ended input) h m at = stays setup o es _ h m tt at
has_lane-push setup o es (Take item) h m at = stays setup o es _ h m tt at
has_lane-push setup o es (Route item whole verdict aggs outs reports) h m at = record {
  lane = marks_routed verdict (view_at o outs) (origin_at es item).group at.lane;
  is = route_lane verdict setup (sizes_at setup o).0 (sizes_at setup o).1 o es item whole aggs outs reports at.lane h m
      at.is;
}
has_lane-push setup o es (Tick moment made) h m at = stays setup o es _ h m tt at
has_lane-push setup o es (Stop moment made) h m at = stays setup o es _ h m tt at
has_lane-push setup o es (Begin number from to) h m at =
    each_output number o (HasLane setup o (es ++ Begin number from to ∷ []))
    (λ is. subst (λ (k : ℕ). HasLane setup k (es ++ Begin number from to ∷ [])) (sym is)
    (let here : HasLane setup number es = subst (λ (k : ℕ). HasLane setup k es) is at in
    record {
      lane = after_begin here.lane;
      is = begin_lane setup number es from to here.lane h m here.is;
    }))
    (λ d. stays setup o es (Begin number from to) h m d at)
has_lane-push setup o es (Done number ok reports) h m at =
    each_output number o (HasLane setup o (es ++ Done number ok reports ∷ []))
    (λ is. subst (λ (k : ℕ). HasLane setup k (es ++ Done number ok reports ∷ [])) (sym is)
    (let here : HasLane setup number es = subst (λ (k : ℕ). HasLane setup k es) is at in
    record {
      lane = marked_done ok here.lane;
      is = done_lane setup (sizes_at setup number).0 (sizes_at setup number).1 number es ok reports here.lane h m
          here.is;
    }))
    (λ d. stays setup o es (Done number ok reports) h m d at)

has_lane-from : (setup : Setup) (o : ℕ) (before es : List Entry) → IsLegal setup before → AreLegal setup before es
    → HasLane setup o before → HasLane setup o (before ++ es)
unfolding AreLegal
has_lane-from setup o before [] h more at = subst (HasLane setup o) (sym (append-nil before)) at
has_lane-from setup o before (e ∷ es) h more at =
    subst (HasLane setup o) (append_assoc before (e ∷ []) es)
    (has_lane-from setup o (before ++ e ∷ []) es (IsLegal-push setup before e h more.0) more.1
    (has_lane-push setup o before e h more.0.line at))

-- nothing happened
pub first_lane : (setup : Setup) (o : ℕ) → 1 ≤ (sizes_at setup o).0 → (sizes_at setup o).0 ≤ (sizes_at setup o).1
    → IsLaneOf (sizes_at setup o).0 (sizes_at setup o).1 (lane_events o []) (marks o [])
    (empty_lane (sizes_at setup o).0 (sizes_at setup o).1)
unfolding lane_events offers
first_lane setup o some fits = new_is_lane (Option ℕ) (sizes_at setup o).0 (sizes_at setup o).1 some fits

-- an output of a legal journal has a lane of groups
pub has_lane : (setup : Setup) (o : ℕ) (es : List Entry) → 1 ≤ (sizes_at setup o).0
    → (sizes_at setup o).0 ≤ (sizes_at setup o).1 → IsLegal setup es → HasLane setup o es
unfolding AreLegal
has_lane setup o es some fits h =
    has_lane-from setup o [] es tt h (record {
      lane = empty_lane (sizes_at setup o).0 (sizes_at setup o).1;
      is = first_lane setup o some fits;
    })

-- ---- a list of them

-- so many lanes, each of which is one of these
record HaveLanes (n : ℕ) (P : ℕ → LaneState (Option ℕ) → Type 0) : Type 0 where
  all : List (LaneState (Option ℕ))
  as_many : length all ≡ n
  each : (o : ℕ) → o < n → P o (marked_at all o)

listed : (n : ℕ) (P : ℕ → LaneState (Option ℕ) → Type 0)
    → ((o : ℕ) → o < n → (x : LaneState (Option ℕ)) × P o x) → HaveLanes n P
listed zero P h = record { all = []; as_many = refl; each = λ o l. absurd (omega (arith, l)) }
listed (suc n) P h =
    let first : (x : LaneState (Option ℕ)) × P 0 x = h 0 (omega arith) in
    let rest : HaveLanes n (λ (o : ℕ). P (suc o)) =
    listed n (λ (o : ℕ). P (suc o)) (λ o l. h (suc o) (omega (arith, l))) in
    record {
      all = first.0 ∷ rest.all;
      as_many = omega (arith, rest.as_many);
      each = each_of n P first.0 rest.all first.1 rest.each;
    }
  where
    each_of : (n : ℕ) (P : ℕ → LaneState (Option ℕ) → Type 0) (x : LaneState (Option ℕ))
        (xs : List (LaneState (Option ℕ))) → P 0 x → ((o : ℕ) → o < n → P (suc o) (marked_at xs o)) → (o : ℕ)
        → o < suc n → P o (marked_at (x ∷ xs) o)
    each_of n P x xs first rest zero l = first
    each_of n P x xs first rest (suc o) l = rest o (omega (arith, l))

-- each output of a legal journal has one
pub are_marked : (setup : Setup) (es : List Entry)
    → ((o : ℕ) → o < length setup.outputs → (1 ≤ (sizes_at setup o).0) × ((sizes_at setup o).0 ≤ (sizes_at setup o).1))
    → IsLegal setup es → (all : List (LaneState (Option ℕ))) × AreMarked setup es all
are_marked setup es sizes h =
    let lanes : HaveLanes (length setup.outputs) (λ (o : ℕ). λ (x : LaneState (Option ℕ)).
    IsLaneOf (sizes_at setup o).0 (sizes_at setup o).1 (lane_events o es) (marks o es) x) =
    listed (length setup.outputs) _
    (λ o l. let at : HasLane setup o es = has_lane setup o es (sizes o l).0 (sizes o l).1 h in (at.lane, at.is)) in
    (lanes.all, record { as_many = lanes.as_many; each = lanes.each })

-- ---- the lanes of all outputs, with one entry more

-- an entry that is nothing to any output
pub marked_plain : (setup : Setup) (es : List Entry) (e : Entry) (all : List (LaneState (Option ℕ)))
    → IsLegal setup es → MeetsLine setup es e → IsPlain e → AreMarked setup es all → AreMarked setup (es ++ e ∷ []) all
marked_plain setup es e all h m is are = record {
  as_many = are.as_many;
  each = λ o l. plain_lane setup (sizes_at setup o).0 (sizes_at setup o).1 o es e (marked_at all o) h m
      (plain_anywhere o e is) (are.each o l);
}

-- one of an output
marked_set : (setup : Setup) (es : List Entry) (e : Entry) (o : ℕ) (x : LaneState (Option ℕ))
    (all : List (LaneState (Option ℕ))) → IsLegal setup es → MeetsLine setup es e → o < length setup.outputs
    → ((k : ℕ) → k ≢ o → IsPlainAt k e)
    → IsLaneOf (sizes_at setup o).0 (sizes_at setup o).1 (lane_events o (es ++ e ∷ [])) (marks o (es ++ e ∷ [])) x
    → AreMarked setup es all → AreMarked setup (es ++ e ∷ []) (set all o x)
marked_set setup es e o x all h m b others here are =
    let next : List Entry = es ++ e ∷ [] in
    let P : ℕ → LaneState (Option ℕ) → Type 0 = λ k y.
    IsLaneOf (sizes_at setup k).0 (sizes_at setup k).1 (lane_events k next) (marks k next) y in
    let same : marked_at (set all o x) o ≡ x = get_or-set_same all o x (empty_lane 0 0) (omega (arith, are.as_many)) in
    record {
      as_many = length-set all o x ∙ are.as_many;
      each = λ k l. each_output o k (P k (marked_at (set all o x) k))
          (λ is. subst (λ (j : ℕ). P j (marked_at (set all o x) j)) (sym is) (subst (P o) (sym same) here))
          (λ d. subst (P k) (sym (get_or-set_other all o k x (empty_lane 0 0) d))
          (plain_lane setup (sizes_at setup k).0 (sizes_at setup k).1 k es e (marked_at all k) h m (others k d)
          (are.each k l)));
    }

pub marked_begin : (setup : Setup) (es : List Entry) (o from to : ℕ) (all : List (LaneState (Option ℕ)))
    → IsLegal setup es → MeetsLine setup es (Begin o from to) → AreMarked setup es all
    → AreMarked setup (es ++ Begin o from to ∷ []) (set all o (after_begin (marked_at all o)))
marked_begin setup es o from to all h m are =
    let b : o < length setup.outputs = slice_get_within setup.outputs o (m.batch, m.limit) m.known in
    marked_set setup es (Begin o from to) o (after_begin (marked_at all o)) all h m b (λ k d. d)
    (begin_lane setup o es from to (marked_at all o) h m (are.each o b)) are

pub done_marked : (setup : Setup) (es : List Entry) (o : ℕ) (ok : Bool) (reports : List Report)
    (all : List (LaneState (Option ℕ))) → IsLegal setup es → MeetsLine setup es (Done o ok reports)
    → AreMarked setup es all
    → AreMarked setup (es ++ Done o ok reports ∷ []) (set all o (marked_done ok (marked_at all o)))
done_marked setup es o ok reports all h m are =
    let b : o < length setup.outputs = m.known in
    marked_set setup es (Done o ok reports) o (marked_done ok (marked_at all o)) all h m b (λ k d. d)
    (done_lane setup (sizes_at setup o).0 (sizes_at setup o).1 o es ok reports (marked_at all o) h m (are.each o b)) are

-- each output's lane has got its view
pub marked_route : (verdict : Verdict) (setup : Setup) (es : List Entry) (item : ℕ) (whole : Option Content)
    (aggs outs : List (Option Content)) (reports : List Report) (all new : List (LaneState (Option ℕ))) →
    let e : Entry = Route item whole verdict aggs outs reports in
    IsLegal setup es → MeetsLine setup es e → length new ≡ length all
    → ((o : ℕ) → o < length all →
    marked_at new o ≡ marks_routed verdict (view_at o outs) (origin_at es item).group (marked_at all o))
    → AreMarked setup es all → AreMarked setup (es ++ e ∷ []) new
marked_route verdict setup es item whole aggs outs reports all new h m long steps are =
    let e : Entry = Route item whole verdict aggs outs reports in
    record {
      as_many = long ∙ are.as_many;
      each = λ o l. subst (IsLaneOf (sizes_at setup o).0 (sizes_at setup o).1 (lane_events o (es ++ e ∷ []))
          (marks o (es ++ e ∷ []))) (sym (steps o (omega (arith, are.as_many))))
          (route_lane verdict setup (sizes_at setup o).0 (sizes_at setup o).1 o es item whole aggs outs reports
          (marked_at all o) h m (are.each o l));
    }
