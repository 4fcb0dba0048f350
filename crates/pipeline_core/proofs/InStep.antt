-- The groups at an output are in step with what waits there.
use Rattle.std.proofs.Common.{◌≡◌, ◌<◌, ◌≤◌, ℕ, Bool, true, false, List, [], ◌∷◌, length, refl, sym, ap, ◌∙◌}
use Rattle.std.proofs.Common.{subst, arith, IsSome, length-drop, if◌then◌else◌, set, ◌++◌}
use mathlib.Core.Bool.{false≢true}
use Rattle.std.specs.declared.option.Option.{Option}
use Rattle.std.specs.declared.option.Option.TheVariants.{Some, None}
use Rattle.std.proofs.lemmas.List.{set-get_or}
use Rattle.account.specs.declared.entry.Entry.{Entry}
use Rattle.account.specs.declared.entry.Entry.TheVariants.{Begin}
use Rattle.out_lane.specs.Lane.{LaneState, empty_lane}
use Rattle.out_lane.specs.Lane as lane
use Rattle.out_lane.specs.LaneEvents.{Ranges, ranges_of}
use Rattle.out_lane.specs.LaneLaws.{IsFlight, IsLaneAt, items_between, oldest_waiting}
use Rattle.pipeline_core.specs.declared.output.Offer.{Offer}
use Rattle.pipeline_core.specs.CoreState.{CoreState, lane_at, marked_at, sizes_at}
use Rattle.pipeline_core.specs.Offers.{lane_events, offers}
use Rattle.pipeline_core.specs.Stands.{HasJournal}
use Rattle.pipeline_core.specs.Steps.{after_begin}
use Rattle.pipeline_core.specs.Tracked.{is_tracking, marks}

-- two lanes to which the same came, and of which the same left
pub record InStep {X Y : Type 0} (x : LaneState X) (y : LaneState Y) : Type 0 where
  pub batch : y.batch ≡ x.batch
  pub pushed : y.pushed ≡ x.pushed
  pub waiting : length y.waiting ≡ length x.waiting
  pub lands : x.flight ≡ None → y.flight ≡ None
  pub flies : IsSome x.flight → IsSome y.flight

none_is_some : (A : Type 0) → IsSome {T = A} None → ⊥
none_is_some A h = false≢true h

some_is_none : (A : Type 0) (a : A) → Some a ≡ None → ⊥
some_is_none A a h = cc

both_fly : {X Y : Type 0} (range : Option (ℕ × ℕ)) (xs : List X) (ys : List Y) (x : LaneState X) (y : LaneState Y) →
    IsFlight range xs x → IsFlight range ys y → IsSome x.flight → IsSome y.flight
both_fly {X} None xs ys x y f g some = absurd (none_is_some (ℕ × List X) (subst IsSome f some))
both_fly (Some range) xs ys x y f g some = subst IsSome (sym g) refl

both_land : {X Y : Type 0} (range : Option (ℕ × ℕ)) (xs : List X) (ys : List Y) (x : LaneState X) (y : LaneState Y) →
    IsFlight range xs x → IsFlight range ys y → x.flight ≡ None → y.flight ≡ None
both_land None xs ys x y f g none = g
both_land {X} (Some range) xs ys x y f g none =
    absurd (some_is_none (ℕ × List X) (range.0, items_between range.0 range.1 xs) (sym f ∙ none))

pub in_step : {X Y : Type 0} (b l : ℕ) (ranges : Ranges) (xs : List X) (ys : List Y) (x : LaneState X)
    (y : LaneState Y) → IsLaneAt b l ranges xs x → IsLaneAt b l ranges ys y → InStep x y
in_step b l ranges xs ys x y f g = record {
  batch = g.batch ∙ sym f.batch;
  pushed = g.pushed ∙ sym f.pushed;
  waiting = omega (
    arith,
    ap length f.waiting,
    ap length g.waiting,
    length-drop (oldest_waiting l ranges) xs,
    length-drop (oldest_waiting l ranges) ys,
    f.offered,
    g.offered,
  );
  lands = both_land ranges.begun xs ys x y f.flight g.flight;
  flies = both_fly ranges.begun xs ys x y f.flight g.flight;
}

few_if : (b : Bool) (n : ℕ) → (if b then n else 0) ≤ n
few_if true n = omega arith
few_if false n = omega arith

-- an output whose groups are known is one of the set-up
pub marked_within : (s : CoreState) → HasJournal s → (o : ℕ) → o < length s.marked → o < length s.setup.outputs
marked_within s told o b =
    omega (arith, b, told.stands.mark_count, few_if (is_tracking s.setup) (length s.setup.outputs))

pub marked_in_step : (s : CoreState) → HasJournal s → (o : ℕ) → o < length s.marked →
    InStep (lane_at s.lanes o) (marked_at s.marked o)
marked_in_step s told o b =
    let h = told.stands in
    in_step (sizes_at s.setup o).0 (sizes_at s.setup o).1 (ranges_of (lane_events o told.journal))
    (offers o told.journal) (marks o told.journal) (lane_at s.lanes o) (marked_at s.marked o)
    (h.lanes o (marked_within s told o b)).state (h.marked o b).state

-- what a batch that is begun leaves
pub begun_is : (s : CoreState) (o from to : ℕ) (x : LaneState Offer) (marked : List (LaneState (Option ℕ)))
    (stored : List Entry) → x ≡ lane.after_begin (lane_at s.lanes o) →
    marked ≡ set s.marked o (lane.after_begin (marked_at s.marked o)) → stored ≡ s.stored ++ Begin o from to ∷ [] →
    record s { lanes = set s.lanes o x; marked = marked; stored = stored } ≡ after_begin s o from to
begun_is s o from to x marked stored a b c = rw (a, b, c) refl

-- and what one leaves that isn't
pub not_begun : (s : CoreState) (o : ℕ) (x : LaneState Offer) (stored : List Entry) → x ≡ lane_at s.lanes o →
    stored ≡ s.stored → record s { lanes = set s.lanes o x; stored = stored } ≡ s
not_begun s o x stored a b =
    rw (a, b) (ap (λ (xs : List (LaneState Offer)). record s { lanes = xs }) (set-get_or s.lanes o (empty_lane 0 0)))
