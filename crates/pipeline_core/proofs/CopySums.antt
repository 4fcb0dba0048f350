-- What each entry does to the copies of a group, over all outputs.
use Rattle.std.proofs.Common.{◌≡◌, ◌≢◌, ◌<◌, ℕ, zero, suc, ◌+◌, ◌&&◌, if◌then◌else◌, Bool, true, false, List}
use Rattle.std.proofs.Common.{[], ◌∷◌, ◌++◌, length, get_or, refl, ap, sym, arith, subst, is_some, inl, inr}
use Rattle.std.specs.List.{count_by, enumerate_from, sum_by}
use Rattle.std.proofs.Math.Nat.{eq-or-lt_of_le}
use Rattle.std.proofs.lemmas.Bool.{cases_lt}
use Rattle.std.proofs.lemmas.List.Sums.{sum_by-cons}
use Rattle.std.proofs.lemmas.Option.{slice_get_within}
use Rattle.std.specs.declared.option.Option.{Option}
use Rattle.metric.specs.declared.metric.Content.{Content}
use Rattle.account.specs.Setup.{Setup}
use Rattle.account.specs.Origins.{is_number, origin_at}
use Rattle.account.specs.declared.entry.Entry.{Entry}
use Rattle.account.specs.declared.entry.Entry.TheVariants.{Route, Begin}
use Rattle.account.specs.declared.entry.Entry.TheVariants.{Done}
use Rattle.account.specs.declared.entry.Report.{Report}
use Rattle.account.specs.declared.entry.Verdict.{Verdict}
use Rattle.account.specs.declared.entry.Verdict.TheVariants as verdicts
use Rattle.out_lane.specs.Lane.{LaneState}
use Rattle.out_lane.specs.LaneLaws.{IsLaneOf}
use Rattle.track_groups.specs.Settling.{Copy, drops, is_copy_of, is_dropped_of, times}
use Rattle.pipeline_core.specs.CoreState.{sizes_at}
use Rattle.pipeline_core.specs.Offers.{lane_events, offered, view_at}
use Rattle.pipeline_core.specs.Fates.{Fate, is_buffered, is_dropped}
use Rattle.pipeline_core.specs.Groups.{count_of_fate}
use Rattle.pipeline_core.specs.Legal.{IsLegal, MeetsLine}
use Rattle.pipeline_core.specs.Tracked.{done_copies, gone_for, marks, pushed_copies, routed_copies}
use Rattle.pipeline_core.proofs.CopyCounts.{count-append, count-cons, none_or}
use Rattle.pipeline_core.specs.CoreState.{marked_at}
use Rattle.pipeline_core.proofs.CopyLanes.{begin_count, done_buffered, done_dropped, IsPlain, plain_anywhere}
use Rattle.pipeline_core.proofs.CopyLanes.{and_false, plain_count}
use Rattle.pipeline_core.proofs.CopyRoutes.{stays_out, view_buffered, view_dropped}
use Rattle.pipeline_core.proofs.CopySteps.{buffered-of_lane, dropped-of_lane, fate_count, IsLaneTest, one_if}

-- each output has a lane of groups
pub record AreMarked (setup : Setup) (es : List Entry) (all : List (LaneState (Option ℕ))) : Type 0 where
  pub as_many : length all ≡ length setup.outputs
  pub each : (o : ℕ) → o < length setup.outputs →
      IsLaneOf (sizes_at setup o).0 (sizes_at setup o).1 (lane_events o es) (marks o es) (marked_at all o)

-- ---- sums over outputs

abbrev At : Type 0
At = ℕ × (ℕ × ℕ)

sum_same : (new old : At → ℕ) (k : ℕ) (sizes : List (ℕ × ℕ)) →
    ((i n : ℕ) → n ≡ k + i → i < length sizes → new (n, get_or sizes i (0, 0)) ≡ old (n, get_or sizes i (0, 0))) →
    sum_by new (enumerate_from k sizes) ≡ sum_by old (enumerate_from k sizes)
sum_same new old k [] h = refl
sum_same new old k (x ∷ sizes) h =
    let first : new (k, x) ≡ old (k, x) = h 0 k (omega arith) (omega arith) in
    omega (
      arith,
      sum_by-cons new (k, x) (enumerate_from (k + 1) sizes),
      sum_by-cons old (k, x) (enumerate_from (k + 1) sizes),
      sum_same new old (k + 1) sizes (λ i n e l. h (suc i) n (omega arith) (omega arith)),
    )

-- one output is other than before
sum_one : (new old : At → ℕ) (k : ℕ) (sizes : List (ℕ × ℕ)) (o a b : ℕ) → o < length sizes →
    ((i n : ℕ) → n ≡ k + i → i < length sizes → i ≢ o →
    new (n, get_or sizes i (0, 0)) ≡ old (n, get_or sizes i (0, 0))) →
    ((n : ℕ) → n ≡ k + o → new (n, get_or sizes o (0, 0)) + a ≡ old (n, get_or sizes o (0, 0)) + b) →
    sum_by new (enumerate_from k sizes) + a ≡ sum_by old (enumerate_from k sizes) + b
sum_one new old k [] o a b l others here = absurd (omega (arith, l))
sum_one new old k (x ∷ sizes) zero a b l others here =
    let first : new (k, x) + a ≡ old (k, x) + b = here k (omega arith) in
    omega (
      arith,
      sum_by-cons new (k, x) (enumerate_from (k + 1) sizes),
      sum_by-cons old (k, x) (enumerate_from (k + 1) sizes),
      sum_same new old (k + 1) sizes (λ i n e m. others (suc i) n (omega arith) (omega arith) (omega arith)),
    )
sum_one new old k (x ∷ sizes) (suc o) a b l others here =
    let first : new (k, x) ≡ old (k, x) = others 0 k (omega arith) (omega arith) (omega arith) in
    omega (
      arith,
      sum_by-cons new (k, x) (enumerate_from (k + 1) sizes),
      sum_by-cons old (k, x) (enumerate_from (k + 1) sizes),
      sum_one new old (k + 1) sizes o a b (omega arith)
          (λ i n e m d. others (suc i) n (omega arith) (omega arith) (omega arith)) (λ n e. here n (omega arith)),
    )

comes_or : (b more : Bool) (n : ℕ) →
    one_if (b && more) + (if more then n else 0) ≡ (if more then one_if b + n else 0)
comes_or true true n = refl
comes_or true false n = refl
comes_or false true n = refl
comes_or false false n = refl

-- each output loses what a view pushes out there, and gets the view's item
sum_routed : (new old : At → ℕ) (u v : Copy → Bool) (more : Bool) (k : ℕ) (sizes : List (ℕ × ℕ))
    (outs : List (Option Content)) (all : List (LaneState (Option ℕ))) → length outs ≡ length sizes →
    length all ≡ length sizes →
    ((i n : ℕ) → n ≡ k + i → i < length sizes → new (n, get_or sizes i (0, 0)) + count_by u
    (gone_for (view_at i outs) (marked_at all i)) ≡ old (n, get_or sizes i (0, 0)) + count_by v
    (gone_for (view_at i outs) (marked_at all i)) + one_if (is_some (view_at i outs) && more)) →
    sum_by new (enumerate_from k sizes) + count_by u (pushed_copies outs all)
    ≡ sum_by old (enumerate_from k sizes) + count_by v (pushed_copies outs all)
    + (if more then count_by is_some outs else 0)
unfolding pushed_copies
sum_routed new old u v true k [] [] all a b h = refl
sum_routed new old u v false k [] [] all a b h = refl
sum_routed new old u v more k [] (view ∷ outs) all a b h = absurd (omega (arith, a))
sum_routed new old u v more k (x ∷ sizes) [] all a b h = absurd (omega (arith, a))
sum_routed new old u v more k (x ∷ sizes) (view ∷ outs) [] a b h = absurd (omega (arith, b))
sum_routed new old u v more k (x ∷ sizes) (view ∷ outs) (m ∷ all) a b h =
    let first : new (k, x) + count_by u (gone_for view m) ≡ old (k, x) + count_by v (gone_for view m) + one_if
    (is_some view && more) = h 0 k (omega arith) (omega arith) in
    let rest : sum_by new (enumerate_from (k + 1) sizes) + count_by u (pushed_copies outs all)
    ≡ sum_by old (enumerate_from (k + 1) sizes) + count_by v (pushed_copies outs all)
    + (if more then count_by is_some outs else 0) =
    sum_routed new old u v more (k + 1) sizes outs all (omega arith) (omega arith)
    (λ i n e l. h (suc i) n (omega arith) (omega arith)) in
    let come : (if more then one_if (is_some view) + count_by is_some outs else 0)
    ≡ (if more then count_by is_some (view ∷ outs) else 0) =
    ap (λ (n : ℕ). if more then n else 0) (sym (count-cons is_some view outs)) in
    omega (
      arith,
      sum_by-cons new (k, x) (enumerate_from (k + 1) sizes),
      sum_by-cons old (k, x) (enumerate_from (k + 1) sizes),
      count-append u (gone_for view m) (pushed_copies outs all),
      count-append v (gone_for view m) (pushed_copies outs all),
      comes_or (is_some view) more (count_by is_some outs),
    )

-- ---- over all outputs

plain_number : (i n : ℕ) → n ≡ 0 + i → i ≡ n
plain_number i n q = omega (arith, q)

-- how many of an output's items of a group have such a fate
abbrev at_output : (Fate → Bool) → List Entry → ℕ → At → ℕ
at_output t es g output = fate_count t output.1.1 output.0 es g

-- an entry that is nothing to any output
pub plain_all : (setup : Setup) (t : Fate → Bool) (es : List Entry) (e : Entry) (g : ℕ) → IsLegal setup es
    → MeetsLine setup es e → IsPlain e → count_of_fate t setup (es ++ e ∷ []) g ≡ count_of_fate t setup es g
plain_all setup t es e g h m is =
    sum_same (at_output t (es ++ e ∷ []) g) (at_output t es g) 0 setup.outputs
    (λ i n q l. plain_count setup t (sizes_at setup i).1 n es e g h m (plain_anywhere n e is))

-- an output and the others
pub each_output : (o i : ℕ) (P : Type 0) → (i ≡ o → P) → (i ≢ o → P) → P
each_output o i P same other =
    elim (cases_lt i o) [
      | inl l ↦ other (omega arith)
      | inr l ↦ elim (eq-or-lt_of_le l) [ inl q ↦ same (sym q) | inr q ↦ other (omega arith) ]
    ]

-- a batch that is begun
pub begin_all : (setup : Setup) (t : Fate → Bool) (es : List Entry) (o from to g : ℕ)
    (all : List (LaneState (Option ℕ))) → IsLegal setup es → MeetsLine setup es (Begin o from to)
    → AreMarked setup es all
    → count_of_fate t setup (es ++ Begin o from to ∷ []) g ≡ count_of_fate t setup es g
begin_all setup t es o from to g all h m are =
    let b : o < length setup.outputs = slice_get_within setup.outputs o (m.batch, m.limit) m.known in
    let e : Entry = Begin o from to in
    sum_same (at_output t (es ++ e ∷ []) g) (at_output t es g) 0 setup.outputs
    (λ i n q l. each_output o n
    (fate_count t (sizes_at setup i).1 n (es ++ e ∷ []) g ≡ fate_count t (sizes_at setup i).1 n es g)
    (λ is. subst (λ (k : ℕ). fate_count t (sizes_at setup k).1 n (es ++ e ∷ []) g ≡ fate_count t (sizes_at setup k).1 n
    es g) (sym (omega (arith, is, q)))
    (subst (λ (k : ℕ). fate_count t (sizes_at setup o).1 k (es ++ e ∷ []) g ≡ fate_count t (sizes_at setup o).1 k es g)
    (sym is) (begin_count setup t o es from to g (marked_at all o) h m (are.each o b))))
    (λ d. plain_count setup t (sizes_at setup i).1 n es e g h m d))

done_others : (setup : Setup) (t : Fate → Bool) (es : List Entry) (o : ℕ) (ok : Bool) (reports : List Report) (g : ℕ)
    → IsLegal setup es → MeetsLine setup es (Done o ok reports) → (i n : ℕ) → n ≡ 0 + i → i ≢ o
    → fate_count t (sizes_at setup i).1 n (es ++ Done o ok reports ∷ []) g ≡ fate_count t (sizes_at setup i).1 n es g
done_others setup t es o ok reports g h m i n q d =
    plain_count setup t (sizes_at setup i).1 n es (Done o ok reports) g h m (λ is. d (omega arith))

-- a batch that is done
pub done_buffered_all : (setup : Setup) (es : List Entry) (o : ℕ) (ok : Bool) (reports : List Report) (g : ℕ)
    (all : List (LaneState (Option ℕ))) → IsLegal setup es → MeetsLine setup es (Done o ok reports)
    → AreMarked setup es all
    → count_of_fate is_buffered setup (es ++ Done o ok reports ∷ []) g + times g (done_copies ok (marked_at all o))
    ≡ count_of_fate is_buffered setup es g
done_buffered_all setup es o ok reports g all h m are =
    let e : Entry = Done o ok reports in
    let x : LaneState (Option ℕ) = marked_at all o in
    let l : ℕ = (sizes_at setup o).1 in
    let here : fate_count is_buffered l o (es ++ e ∷ []) g + times g (done_copies ok x)
    ≡ fate_count is_buffered l o es g + 0 =
    omega (
      arith,
      done_buffered setup (sizes_at setup o).0 l o es ok reports g x h m (are.each o m.known),
    ) in
    let a : sum_by (at_output is_buffered (es ++ e ∷ []) g) (enumerate_from 0 setup.outputs)
    + times g (done_copies ok x) ≡ sum_by (at_output is_buffered es g) (enumerate_from 0 setup.outputs) + 0 =
    sum_one (at_output is_buffered (es ++ e ∷ []) g) (at_output is_buffered es g) 0 setup.outputs o
    (times g (done_copies ok x)) 0 m.known
    (λ i n q b d. done_others setup is_buffered es o ok reports g h m i n q d)
    (λ n q. subst (λ (k : ℕ). fate_count is_buffered l k (es ++ e ∷ []) g + times g (done_copies ok x)
    ≡ fate_count is_buffered l k es g + 0) (plain_number o n q) here) in
    omega arith

pub done_dropped_all : (setup : Setup) (es : List Entry) (o : ℕ) (ok : Bool) (reports : List Report) (g : ℕ)
    (all : List (LaneState (Option ℕ))) → IsLegal setup es → MeetsLine setup es (Done o ok reports)
    → AreMarked setup es all
    → count_of_fate is_dropped setup (es ++ Done o ok reports ∷ []) g
    ≡ count_of_fate is_dropped setup es g + drops g (done_copies ok (marked_at all o))
done_dropped_all setup es o ok reports g all h m are =
    let e : Entry = Done o ok reports in
    let x : LaneState (Option ℕ) = marked_at all o in
    let l : ℕ = (sizes_at setup o).1 in
    let here : fate_count is_dropped l o (es ++ e ∷ []) g + 0
    ≡ fate_count is_dropped l o es g + drops g (done_copies ok x) =
    omega (
      arith,
      done_dropped setup (sizes_at setup o).0 l o es ok reports g x h m (are.each o m.known),
    ) in
    let a : sum_by (at_output is_dropped (es ++ e ∷ []) g) (enumerate_from 0 setup.outputs) + 0
    ≡ sum_by (at_output is_dropped es g) (enumerate_from 0 setup.outputs) + drops g (done_copies ok x) =
    sum_one (at_output is_dropped (es ++ e ∷ []) g) (at_output is_dropped es g) 0 setup.outputs o 0
    (drops g (done_copies ok x)) m.known
    (λ i n q b d. done_others setup is_dropped es o ok reports g h m i n q d)
    (λ n q. subst (λ (k : ℕ). fate_count is_dropped l k (es ++ e ∷ []) g + 0
    ≡ fate_count is_dropped l k es g + drops g (done_copies ok x)) (plain_number o n q) here) in
    omega arith

-- ---- a Route

-- to how many outputs a routed item comes
abbrev pub comers : Verdict → List (Option Content) → ℕ
comers verdicts.Passes outs = count_by is_some outs
comers _ outs = 0

none_counted : {X : Type 0} (xs : List X) → count_by (λ (x : X). false) xs ≡ 0
none_counted [] = refl
none_counted {X} (x ∷ xs) = omega (arith, count-cons (λ (y : X). false) x xs, none_counted xs)

-- a verdict by which an item comes to no output
record StaysOut (verdict : Verdict) : Type 0 where
  offers : (item : ℕ) (view : Option Content) → offered item verdict view ≡ []
  copies : (outs : List (Option Content)) (all : List (LaneState (Option ℕ))) → routed_copies verdict outs all ≡ []
  comes : (outs : List (Option Content)) → comers verdict outs ≡ 0

-- one that isn't counted then
out_same : (t : Fate → Bool) (verdict : Verdict) (setup : Setup) (es : List Entry) (item : ℕ) (whole : Option Content)
    (aggs outs : List (Option Content)) (reports : List Report) (g : ℕ) →
    let e : Entry = Route item whole verdict aggs outs reports in
    IsLegal setup es → MeetsLine setup es e → IsLaneTest t → StaysOut verdict
    → count_of_fate t setup (es ++ e ∷ []) g ≡ count_of_fate t setup es g
out_same t verdict setup es item whole aggs outs reports g h m is out =
    let e : Entry = Route item whole verdict aggs outs reports in
    sum_same (at_output t (es ++ e ∷ []) g) (at_output t es g) 0 setup.outputs
    (λ i n q l. stays_out setup t (sizes_at setup i).1 n es item whole verdict aggs outs reports g h m is
    (out.offers item (view_at n outs)))

-- of a group's copies those are buffered more that come to an output with the item, and those fewer that it pushes out
abbrev BufferedOn : Verdict → Setup → List Entry → ℕ → Option Content → List (Option Content) →
    List (Option Content) → List Report → ℕ → List (LaneState (Option ℕ)) → Type 0
BufferedOn verdict setup es item whole aggs outs reports g all =
    count_of_fate is_buffered setup (es ++ Route item whole verdict aggs outs reports ∷ []) g
    + times g (routed_copies verdict outs all)
    ≡ count_of_fate is_buffered setup es g
    + (if is_number g (origin_at es item).group then comers verdict outs else 0)

-- and these are dropped more
abbrev DroppedOn : Verdict → Setup → List Entry → ℕ → Option Content → List (Option Content) →
    List (Option Content) → List Report → ℕ → List (LaneState (Option ℕ)) → Type 0
DroppedOn verdict setup es item whole aggs outs reports g all =
    count_of_fate is_dropped setup (es ++ Route item whole verdict aggs outs reports ∷ []) g
    ≡ count_of_fate is_dropped setup es g + drops g (routed_copies verdict outs all)

goes_out : (verdict : Verdict) (setup : Setup) (es : List Entry) (item : ℕ) (whole : Option Content)
    (aggs outs : List (Option Content)) (reports : List Report) (g : ℕ) (all : List (LaneState (Option ℕ)))
    → IsLegal setup es
    → MeetsLine setup es (Route item whole verdict aggs outs reports) → StaysOut verdict
    → BufferedOn verdict setup es item whole aggs outs reports g all
    × DroppedOn verdict setup es item whole aggs outs reports g all
goes_out verdict setup es item whole aggs outs reports g all h m out =
    let more : Bool = is_number g (origin_at es item).group in (
      omega (
        arith,
        out_same is_buffered verdict setup es item whole aggs outs reports g h m buffered-of_lane out,
        ap (times g) (out.copies outs all),
        ap (λ (n : ℕ). if more then n else 0) (out.comes outs),
        none_or more 0,
      ),
      omega (
        arith,
        out_same is_dropped verdict setup es item whole aggs outs reports g h m dropped-of_lane out,
        ap (drops g) (out.copies outs all),
      ),
    )

consumed_out : StaysOut verdicts.Consumed
consumed_out = record { offers = λ i v. refl; copies = λ o a. refl; comes = λ o. refl }

late_out : StaysOut verdicts.Late
late_out = record { offers = λ i v. refl; copies = λ o a. refl; comes = λ o. refl }

removed_out : StaysOut verdicts.Removed
removed_out = record { offers = λ i v. refl; copies = λ o a. refl; comes = λ o. refl }

passes_buffered : (setup : Setup) (es : List Entry) (item : ℕ) (whole : Option Content)
    (aggs outs : List (Option Content)) (reports : List Report) (g : ℕ) (all : List (LaneState (Option ℕ)))
    → IsLegal setup es
    → MeetsLine setup es (Route item whole verdicts.Passes aggs outs reports) → AreMarked setup es all
    → BufferedOn verdicts.Passes setup es item whole aggs outs reports g all
passes_buffered setup es item whole aggs outs reports g all h m are =
    let e : Entry = Route item whole verdicts.Passes aggs outs reports in
    let more : Bool = is_number g (origin_at es item).group in
    let a : sum_by (at_output is_buffered (es ++ e ∷ []) g) (enumerate_from 0 setup.outputs)
    + times g (pushed_copies outs all) ≡ sum_by (at_output is_buffered es g) (enumerate_from 0 setup.outputs)
    + count_by (λ (x : Copy). false) (pushed_copies outs all) + (if more then count_by is_some outs else 0) =
    sum_routed (at_output is_buffered (es ++ e ∷ []) g) (at_output is_buffered es g) (is_copy_of g)
    (λ (x : Copy). false) more 0 setup.outputs outs all m.outputs are.as_many
    (λ i n q l. subst (λ (k : ℕ). fate_count is_buffered (sizes_at setup i).1 k (es ++ e ∷ []) g + times g
    (gone_for (view_at i outs) (marked_at all i)) ≡ fate_count is_buffered (sizes_at setup i).1 k es g + count_by
    (λ (x : Copy). false) (gone_for (view_at i outs) (marked_at all i)) + one_if (is_some (view_at i outs) && more))
    (plain_number i n q)
    (omega (
      arith,
      view_buffered setup (sizes_at setup i).0 (sizes_at setup i).1 i es item whole aggs outs reports
          (marked_at all i) h m (are.each i l) g (view_at i outs) refl,
      none_counted (gone_for (view_at i outs) (marked_at all i)),
    ))) in
    omega (arith, none_counted (pushed_copies outs all))

passes_dropped : (setup : Setup) (es : List Entry) (item : ℕ) (whole : Option Content)
    (aggs outs : List (Option Content)) (reports : List Report) (g : ℕ) (all : List (LaneState (Option ℕ)))
    → IsLegal setup es
    → MeetsLine setup es (Route item whole verdicts.Passes aggs outs reports) → AreMarked setup es all
    → DroppedOn verdicts.Passes setup es item whole aggs outs reports g all
passes_dropped setup es item whole aggs outs reports g all h m are =
    let e : Entry = Route item whole verdicts.Passes aggs outs reports in
    let a : sum_by (at_output is_dropped (es ++ e ∷ []) g) (enumerate_from 0 setup.outputs)
    + count_by (λ (x : Copy). false) (pushed_copies outs all)
    ≡ sum_by (at_output is_dropped es g) (enumerate_from 0 setup.outputs)
    + drops g (pushed_copies outs all) + 0 =
    sum_routed (at_output is_dropped (es ++ e ∷ []) g) (at_output is_dropped es g) (λ (x : Copy). false)
    (is_dropped_of g) false 0 setup.outputs outs all m.outputs are.as_many
    (λ i n q l. subst (λ (k : ℕ). fate_count is_dropped (sizes_at setup i).1 k (es ++ e ∷ []) g + count_by
    (λ (x : Copy). false) (gone_for (view_at i outs) (marked_at all i)) ≡ fate_count is_dropped
    (sizes_at setup i).1 k es
    g + drops g (gone_for (view_at i outs) (marked_at all i)) + one_if (is_some (view_at i outs) && false))
    (plain_number i n q)
    (omega (
      arith,
      view_dropped setup (sizes_at setup i).0 (sizes_at setup i).1 i es item whole aggs outs reports
          (marked_at all i) h m (are.each i l) g (view_at i outs) refl,
      none_counted (gone_for (view_at i outs) (marked_at all i)),
      ap one_if (and_false (is_some (view_at i outs))),
    ))) in
    omega (arith, none_counted (pushed_copies outs all))

pub route_all : (verdict : Verdict) (setup : Setup) (es : List Entry) (item : ℕ) (whole : Option Content)
    (aggs outs : List (Option Content)) (reports : List Report) (g : ℕ) (all : List (LaneState (Option ℕ)))
    → IsLegal setup es
    → MeetsLine setup es (Route item whole verdict aggs outs reports) → AreMarked setup es all
    → BufferedOn verdict setup es item whole aggs outs reports g all
    × DroppedOn verdict setup es item whole aggs outs reports g all
route_all verdicts.Passes setup es item whole aggs outs reports g all h m are = (
  passes_buffered setup es item whole aggs outs reports g all h m are,
  passes_dropped setup es item whole aggs outs reports g all h m are,
)
route_all verdicts.Consumed setup es item whole aggs outs reports g all h m are =
    goes_out verdicts.Consumed setup es item whole aggs outs reports g all h m consumed_out
route_all verdicts.Late setup es item whole aggs outs reports g all h m are =
    goes_out verdicts.Late setup es item whole aggs outs reports g all h m late_out
route_all verdicts.Removed setup es item whole aggs outs reports g all h m are =
    goes_out verdicts.Removed setup es item whole aggs outs reports g all h m removed_out
