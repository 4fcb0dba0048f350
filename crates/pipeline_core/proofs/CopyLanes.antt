-- What each entry does to the items of a group at an output, by the output's lane of groups.
use Rattle.std.proofs.Common.{◌≡◌, ◌≢◌, ℕ, ◌+◌, ◌-◌, ◌&&◌, ◌==◌, cond, if◌then◌else◌, Bool, true, false, not, List, []}
use Rattle.std.proofs.Common.{◌∷◌, ◌++◌, length, min, refl, ap, sym, ◌∙◌, arith, subst, IsSome, length-drop}
use Rattle.std.proofs.Common.{◌*◌}
use Rattle.std.specs.List.{count_by}
use Rattle.std.proofs.lemmas.List.{append-nil}
use Rattle.std.proofs.lemmas.List.Concat.{flat_map-cons}
use Rattle.std.proofs.lemmas.Option.{get_or_from_slice_get}
use Rattle.std.specs.declared.option.Option.{Option}
use Rattle.std.specs.declared.option.Option.TheVariants.{Some, None}
use Rattle.account.specs.Setup.{Setup}
use Rattle.account.specs.Origins.{is_number}
use Rattle.account.specs.declared.entry.Entry.{Entry}
use Rattle.account.specs.declared.entry.Entry.TheVariants.{Gather, Ended, Take, Route, Tick, Stop, Begin}
use Rattle.account.specs.declared.entry.Entry.TheVariants.{Done}
use Rattle.account.specs.declared.entry.Report.{Report}
use Rattle.out_lane.specs.Lane.{LaneState, after_begin}
use Rattle.out_lane.specs.Lane.{waiting_from}
use Rattle.out_lane.specs.LaneEvents.{LaneEvent, LaneFate, IsNextRange, IsOpen, open_end, ranges_of}
use Rattle.out_lane.specs.LaneEvents as lane
use Rattle.out_lane.specs.LaneLaws.{Answers, Becomes, Begins, IsFlight, IsLaneOf, oldest_waiting}
use Rattle.out_lane.proofs.LaneLemmas.{accept_meets, begin_meets, begun_answer, fail_meets}
use Rattle.track_groups.specs.Settling.{Copy, drops, is_copy_of, is_dropped_of, times}
use Rattle.pipeline_core.specs.CoreState.{sizes_at}
use Rattle.pipeline_core.specs.Offers.{lane_events, lane_events_by, offered_by}
use Rattle.pipeline_core.specs.Fates.{Fate, is_buffered, is_dropped}
use Rattle.pipeline_core.specs.Legal.{IsLegal, MeetsLine, MeetsBegin}
use Rattle.pipeline_core.specs.Tracked.{copies_in, copy_of, done_copies, leaving, marks}
use Rattle.pipeline_core.specs.Steps.{marked_done}
use Rattle.pipeline_core.proofs.CopyCounts.{count-cons, kept_of}
use Rattle.pipeline_core.proofs.CopySteps.{count-kept, count-leave, count-still}
use Rattle.pipeline_core.proofs.CopySteps.{fate_count, is_item_of, lane-event, lane-still}
use Rattle.pipeline_core.proofs.CopySteps.{one_if}
use Rattle.pipeline_core.proofs.Keeping.{differs, same_number}
use Rattle.pipeline_core.proofs.TotalPush.{tested}

-- ---- the copies of items

and_true : (b : Bool) → (b && true) ≡ b
and_true true = refl
and_true false = refl

pub and_false : (b : Bool) → (b && false) ≡ false
and_false true = refl
and_false false = refl

-- how many of these copies are of a group
pub times_in : (g : ℕ) (dropped : Bool) (xs : List (Option ℕ)) →
    times g (copies_in dropped xs) ≡ count_by (is_number g) xs
times_in g dropped [] = refl
times_in g dropped (None ∷ xs) =
    let a : times g (copies_in dropped (None ∷ xs)) ≡ times g (copies_in dropped xs) =
    ap (times g) (flat_map-cons (copy_of dropped) None xs) in
    omega (arith, count-cons (is_number g) None xs, times_in g dropped xs)
times_in g dropped (Some n ∷ xs) =
    let one : Copy = record { group = n; dropped = dropped } in
    let a : times g (copies_in dropped (Some n ∷ xs)) ≡ times g (one ∷ copies_in dropped xs) =
    ap (times g) (flat_map-cons (copy_of dropped) (Some n) xs) in
    omega (
      arith,
      count-cons (is_number g) (Some n) xs,
      count-cons (is_copy_of g) one (copies_in dropped xs),
      times_in g dropped xs,
    )

-- and how many of them were dropped
pub drops_in : (g : ℕ) (dropped : Bool) (xs : List (Option ℕ)) →
    drops g (copies_in dropped xs) ≡ (if dropped then count_by (is_number g) xs else 0)
drops_in g true [] = refl
drops_in g false [] = refl
drops_in g true (None ∷ xs) =
    let a : drops g (copies_in true (None ∷ xs)) ≡ drops g (copies_in true xs) =
    ap (drops g) (flat_map-cons (copy_of true) None xs) in
    omega (arith, count-cons (is_number g) None xs, drops_in g true xs)
drops_in g false (None ∷ xs) = ap (drops g) (flat_map-cons (copy_of false) None xs) ∙ drops_in g false xs
drops_in g true (Some n ∷ xs) =
    let one : Copy = record { group = n; dropped = true } in
    let a : drops g (copies_in true (Some n ∷ xs)) ≡ drops g (one ∷ copies_in true xs) =
    ap (drops g) (flat_map-cons (copy_of true) (Some n) xs) in
    let b : one_if (n == g && true) ≡ one_if (n == g) = ap one_if (and_true (n == g)) in
    omega (
      arith,
      count-cons (is_number g) (Some n) xs,
      count-cons (is_dropped_of g) one (copies_in true xs),
      drops_in g true xs,
    )
drops_in g false (Some n ∷ xs) =
    let one : Copy = record { group = n; dropped = false } in
    let a : drops g (copies_in false (Some n ∷ xs)) ≡ drops g (one ∷ copies_in false xs) =
    ap (drops g) (flat_map-cons (copy_of false) (Some n) xs) in
    let b : one_if (n == g && false) ≡ 0 = ap one_if (and_false (n == g)) in
    omega (arith, count-cons (is_dropped_of g) one (copies_in false xs), drops_in g false xs)

-- ---- entries that do nothing at the lane

-- an entry that is nothing to any output
abbrev pub IsPlain : Entry → Type 0
IsPlain (Route item whole verdict aggs outs reports) = ⊥
IsPlain (Begin output from to) = ⊥
IsPlain (Done output ok reports) = ⊥
IsPlain _ = Unit {0}

-- an entry that is nothing to this one
abbrev pub IsPlainAt : ℕ → Entry → Type 0
IsPlainAt o (Route item whole verdict aggs outs reports) = ⊥
IsPlainAt o (Begin output from to) = o ≢ output
IsPlainAt o (Done output ok reports) = o ≢ output
IsPlainAt o _ = Unit {0}

pub record Nothing (o : ℕ) (e : Entry) : Type 0 where
  pub events : lane_events_by o e ≡ []
  pub offers : offered_by o e ≡ []
  pub kept : (t : Fate → Bool) (q : ℕ → Bool) → kept_of t q o e ≡ 0

pub nothing : (o : ℕ) (e : Entry) → IsPlainAt o e → Nothing o e
nothing o (Gather input moment pieces refused passed filtered metrics group reports) is =
    record { events = refl; offers = refl; kept = λ t q. refl }
nothing o (Ended input) is = record { events = refl; offers = refl; kept = λ t q. refl }
nothing o (Take item) is = record { events = refl; offers = refl; kept = λ t q. refl }
nothing o (Route item whole verdict aggs outs reports) is = absurd is
nothing o (Tick moment made) is = record { events = refl; offers = refl; kept = λ t q. refl }
nothing o (Stop moment made) is = record { events = refl; offers = refl; kept = λ t q. refl }
nothing o (Begin output from to) is = record {
  events = ap (λ (q : Bool). if q then lane.Begin from to ∷ [] else []) (differs output o (λ k. is (sym k)));
  offers = refl;
  kept = λ t q. refl;
}
nothing o (Done output ok reports) is = record {
  events = ap (λ (q : Bool). if q then lane.Done ok ∷ [] else []) (differs output o (λ k. is (sym k)));
  offers = refl;
  kept = λ t q. refl;
}

pub plain_anywhere : (o : ℕ) (e : Entry) → IsPlain e → IsPlainAt o e
plain_anywhere o (Gather input moment pieces refused passed filtered metrics group reports) is = tt
plain_anywhere o (Ended input) is = tt
plain_anywhere o (Take item) is = tt
plain_anywhere o (Route item whole verdict aggs outs reports) is = absurd is
plain_anywhere o (Tick moment made) is = tt
plain_anywhere o (Stop moment made) is = tt
plain_anywhere o (Begin output from to) is = absurd is
plain_anywhere o (Done output ok reports) is = absurd is

pub plain_count : (setup : Setup) (t : Fate → Bool) (limit o : ℕ) (es : List Entry) (e : Entry) (g : ℕ)
    → IsLegal setup es → MeetsLine setup es e → IsPlainAt o e
    → fate_count t limit o (es ++ e ∷ []) g ≡ fate_count t limit o es g
plain_count setup t limit o es e g h m is =
    let n : Nothing o e = nothing o e is in
    count-still setup t limit o es e g h m n.events n.offers (n.kept t (is_item_of (es ++ e ∷ []) g))

pub plain_lane : (setup : Setup) (b l o : ℕ) (es : List Entry) (e : Entry) (x : LaneState (Option ℕ))
    → IsLegal setup es → MeetsLine setup es e → IsPlainAt o e → IsLaneOf b l (lane_events o es) (marks o es) x
    → IsLaneOf b l (lane_events o (es ++ e ∷ [])) (marks o (es ++ e ∷ [])) x
plain_lane setup b l o es e x h m is at =
    let n : Nothing o e = nothing o e is in
    lane-still setup b l o es e x h m n.events n.offers at

-- ---- a batch that is begun

begin_is : (b l : ℕ) (es : List LaneEvent) (xs : List (Option ℕ)) (x : LaneState (Option ℕ)) (from to : ℕ)
    → IsLaneOf b l es xs x → IsNextRange b l (ranges_of es) from to → Begins b l es xs x (from, to)
begin_is b l es xs x from to at n =
    let none : x.flight ≡ None =
    subst (λ (o : Option (ℕ × ℕ)). IsFlight o xs x) n.closed at.state.flight in
    let shut : open_end (ranges_of es).begun ≡ 0 = ap open_end n.closed in
    let long : length x.waiting ≡ (ranges_of es).pushed - from =
    ap length at.state.waiting
    ∙ omega (arith, length-drop (oldest_waiting l (ranges_of es)) xs, n.first, at.state.offered) in
    let start : waiting_from x ≡ from = omega (arith, n.some, at.state.pushed) in
    let end : waiting_from x + min x.batch (length x.waiting) ≡ to =
    omega (arith, n.some, n.first, n.end, at.state.batch) in
    let raw : Begins b l es xs x (waiting_from x, waiting_from x + min x.batch (length x.waiting)) =
    subst (Answers b l es xs x) (begun_answer x none (λ z. absurd (omega (arith, z, n.some))))
    (begin_meets b l es xs x at) in
    subst (λ (n : ℕ). Begins b l es xs x (n, to)) start
    (subst (λ (n : ℕ). Begins b l es xs x (waiting_from x, n)) end raw)

-- the sizes of an output, where its next batch is begun
next_is : (setup : Setup) (es : List Entry) (o from to : ℕ) → MeetsBegin setup es o from to
    → IsNextRange (sizes_at setup o).0 (sizes_at setup o).1 (ranges_of (lane_events o es)) from to
next_is setup es o from to m =
    subst (λ (sizes : ℕ × ℕ). IsNextRange sizes.0 sizes.1 (ranges_of (lane_events o es)) from to)
    (sym (get_or_from_slice_get setup.outputs o (m.batch, m.limit) (0, 0) m.known)) m.next

pub begun : (setup : Setup) (o : ℕ) (es : List Entry) (from to : ℕ) (x : LaneState (Option ℕ))
    → MeetsLine setup es (Begin o from to)
    → IsLaneOf (sizes_at setup o).0 (sizes_at setup o).1 (lane_events o es) (marks o es) x
    → Begins (sizes_at setup o).0 (sizes_at setup o).1 (lane_events o es) (marks o es) x (from, to)
begun setup o es from to x m at =
    begin_is (sizes_at setup o).0 (sizes_at setup o).1 (lane_events o es) (marks o es) x from to at
    (next_is setup es o from to m)

begin_event : (o from to : ℕ) → lane_events_by o (Begin o from to) ≡ lane.Begin from to ∷ []
begin_event o from to = ap (λ (q : Bool). if q then lane.Begin from to ∷ [] else []) (same_number o)

pub begin_count : (setup : Setup) (t : Fate → Bool) (o : ℕ) (es : List Entry) (from to g : ℕ)
    (x : LaneState (Option ℕ)) → IsLegal setup es → MeetsLine setup es (Begin o from to)
    → IsLaneOf (sizes_at setup o).0 (sizes_at setup o).1 (lane_events o es) (marks o es) x
    → fate_count t (sizes_at setup o).1 o (es ++ Begin o from to ∷ []) g ≡ fate_count t (sizes_at setup o).1 o es g
begin_count setup t o es from to g x h m at =
    count-kept setup t (sizes_at setup o).1 o es (Begin o from to) g (lane.Begin from to) h m (begin_event o from to)
    refl refl (begun setup o es from to x m at).fates

pub begin_lane : (setup : Setup) (o : ℕ) (es : List Entry) (from to : ℕ) (x : LaneState (Option ℕ))
    → IsLegal setup es → MeetsLine setup es (Begin o from to)
    → IsLaneOf (sizes_at setup o).0 (sizes_at setup o).1 (lane_events o es) (marks o es) x
    → IsLaneOf (sizes_at setup o).0 (sizes_at setup o).1 (lane_events o (es ++ Begin o from to ∷ []))
    (marks o (es ++ Begin o from to ∷ [])) (after_begin x)
begin_lane setup o es from to x h m at =
    lane-event setup (sizes_at setup o).0 (sizes_at setup o).1 o es (Begin o from to) (lane.Begin from to) []
    (after_begin x) h m (begin_event o from to) refl
    (subst (λ (all : List (Option ℕ)). IsLaneOf (sizes_at setup o).0 (sizes_at setup o).1
    (lane_events o es ++ lane.Begin from to ∷ []) all (after_begin x)) (sym (append-nil (marks o es)))
    (begun setup o es from to x m at).state)

-- ---- a batch that is done

-- the fate of what leaves the lane then
abbrev fate_then : Bool → LaneFate
fate_then true = lane.Written
fate_then false = lane.Dropped

open_flies : (o : Option (ℕ × ℕ)) (xs : List (Option ℕ)) (x : LaneState (Option ℕ)) → IsOpen o → IsFlight o xs x
    → IsSome x.flight
open_flies None xs x is at = absurd is
open_flies (Some range) xs x is at = subst IsSome (sym at) refl

-- a batch that ends is in flight
pub done_flies : (setup : Setup) (b l o : ℕ) (es : List Entry) (ok : Bool) (reports : List Report)
    (x : LaneState (Option ℕ)) → MeetsLine setup es (Done o ok reports)
    → IsLaneOf b l (lane_events o es) (marks o es) x → IsSome x.flight
done_flies setup b l o es ok reports x m at =
    open_flies (ranges_of (lane_events o es)).begun (marks o es) x m.begun at.state.flight

done_state : (ok : Bool) (b l : ℕ) (es : List LaneEvent) (xs : List (Option ℕ)) (x : LaneState (Option ℕ))
    → IsSome x.flight → IsLaneOf b l es xs x → IsLaneOf b l (es ++ lane.Done ok ∷ []) xs (marked_done ok x)
done_state true b l es xs x some at = (accept_meets b l es xs x at some).state
done_state false b l es xs x some at = (fail_meets b l es xs x at some).state

done_leave : (ok : Bool) (b l : ℕ) (es : List LaneEvent) (xs : List (Option ℕ)) (x : LaneState (Option ℕ))
    → IsSome x.flight → IsLaneOf b l es xs x
    → Becomes l es (es ++ lane.Done ok ∷ []) xs (fate_then ok) (leaving ok x)
done_leave true b l es xs x some at = (accept_meets b l es xs x at some).written
done_leave false b l es xs x some at = (fail_meets b l es xs x at some).dropped

done_event : (o : ℕ) (ok : Bool) (reports : List Report) → lane_events_by o (Done o ok reports) ≡ lane.Done ok ∷ []
done_event o ok reports = ap (λ (q : Bool). if q then lane.Done ok ∷ [] else []) (same_number o)

pub done_lane : (setup : Setup) (b l o : ℕ) (es : List Entry) (ok : Bool) (reports : List Report)
    (x : LaneState (Option ℕ)) → IsLegal setup es → MeetsLine setup es (Done o ok reports)
    → IsLaneOf b l (lane_events o es) (marks o es) x
    → IsLaneOf b l (lane_events o (es ++ Done o ok reports ∷ [])) (marks o (es ++ Done o ok reports ∷ []))
    (marked_done ok x)
done_lane setup b l o es ok reports x h m at =
    lane-event setup b l o es (Done o ok reports) (lane.Done ok) [] (marked_done ok x) h m
    (done_event o ok reports) refl
    (subst (λ (all : List (Option ℕ)). IsLaneOf b l (lane_events o es ++ lane.Done ok ∷ []) all (marked_done ok x))
    (sym (append-nil (marks o es)))
    (done_state ok b l (lane_events o es) (marks o es) x (done_flies setup b l o es ok reports x m at) at))

done_count : (setup : Setup) (t : Fate → Bool) (b l o : ℕ) (es : List Entry) (ok : Bool) (reports : List Report)
    (g : ℕ) (x : LaneState (Option ℕ)) → IsLegal setup es → MeetsLine setup es (Done o ok reports)
    → IsLaneOf b l (lane_events o es) (marks o es) x
    → fate_count t l o (es ++ Done o ok reports ∷ []) g + cond (tested t lane.Buffered)
    (count_by (is_number g) (leaving ok x)) 0
    ≡ fate_count t l o es g + cond (tested t (fate_then ok)) (count_by (is_number g) (leaving ok x)) 0
done_count setup t b l o es ok reports g x h m at =
    count-leave setup t l o es (Done o ok reports) g (lane.Done ok) (fate_then ok) (leaving ok x) h m
    (done_event o ok reports) refl refl
    (done_leave ok b l (lane_events o es) (marks o es) x (done_flies setup b l o es ok reports x m at) at)

then_buffered : (ok : Bool) (n : ℕ) → cond (tested is_buffered (fate_then ok)) n 0 ≡ 0 * n
then_buffered true n = omega arith
then_buffered false n = omega arith

then_dropped : (g : ℕ) (ok : Bool) (x : LaneState (Option ℕ)) →
    cond (tested is_dropped (fate_then ok)) (count_by (is_number g) (leaving ok x)) 0 ≡ drops g (done_copies ok x)
then_dropped g true x = sym (drops_in g false (leaving true x))
then_dropped g false x = sym (drops_in g true (leaving false x))

-- what leaves is no longer buffered
pub done_buffered : (setup : Setup) (b l o : ℕ) (es : List Entry) (ok : Bool) (reports : List Report)
    (g : ℕ) (x : LaneState (Option ℕ)) → IsLegal setup es → MeetsLine setup es (Done o ok reports)
    → IsLaneOf b l (lane_events o es) (marks o es) x
    → fate_count is_buffered l o (es ++ Done o ok reports ∷ []) g + times g (done_copies ok x)
    ≡ fate_count is_buffered l o es g
done_buffered setup b l o es ok reports g x h m at =
    omega (
      arith,
      done_count setup is_buffered b l o es ok reports g x h m at,
      then_buffered ok (count_by (is_number g) (leaving ok x)),
      times_in g (not ok) (leaving ok x),
    )

-- and dropped where the batch failed
pub done_dropped : (setup : Setup) (b l o : ℕ) (es : List Entry) (ok : Bool) (reports : List Report)
    (g : ℕ) (x : LaneState (Option ℕ)) → IsLegal setup es → MeetsLine setup es (Done o ok reports)
    → IsLaneOf b l (lane_events o es) (marks o es) x
    → fate_count is_dropped l o (es ++ Done o ok reports ∷ []) g
    ≡ fate_count is_dropped l o es g + drops g (done_copies ok x)
done_dropped setup b l o es ok reports g x h m at =
    omega (arith, done_count setup is_dropped b l o es ok reports g x h m at, then_dropped g ok x)
