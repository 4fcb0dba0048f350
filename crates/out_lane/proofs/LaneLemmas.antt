-- The laws of the calls.
use Rattle.std.proofs.Common.{◌≡◌, ℕ, ◌+◌, ◌-◌, ◌<◌, ◌≤◌, ◌==◌, eqb, leb, min, max, Bool, true, false, ◌||◌, ◌↔◌}
use Rattle.std.proofs.Common.{inl, inr, List, [], ◌∷◌, ◌++◌, length, take, drop, slice_get, is_some, IsSome}
use Rattle.std.proofs.Common.{if◌then◌else◌, Option, Some, None, Result, Ok, Err, refl, sym, ◌∙◌, ap, subst}
use Rattle.std.proofs.Common.{arith, length-drop}
use Rattle.std.specs.Option.{option_to_list}
use Rattle.std.specs.List.{list_any}
use Rattle.std.proofs.lemmas.Bool.{cases_eq, eq-eqb, ne_eqb, or_cases, or_left, leb-true, lt-leb}
use Rattle.std.proofs.lemmas.List.{length_push, drop_all}
use Rattle.out_lane.specs.declared.BeginAnswer.{BeginAnswer}
use Rattle.out_lane.specs.declared.BeginAnswer.TheVariants.{InFlight, NothingWaiting}
use Rattle.out_lane.specs.Lane.{LaneState, newest, older, waiting_from, batch_items, flying, after_push}
use Rattle.out_lane.specs.Lane.{after_begin, begin_answer}
use Rattle.out_lane.specs.LaneEvents.{LaneEvent, Push, Begin, Done, Ranges, reached, ranges_after}
use Rattle.out_lane.specs.LaneEvents.{ranges_from, ranges_of, next_from, open_end, IsNextRange, IsOpen}
use Rattle.out_lane.specs.LaneEvents.{MeetsLane, AreLaneEvents, holds, is_in_open, is_written, Buffered}
use Rattle.out_lane.specs.LaneEvents.{fate_at}
use Rattle.out_lane.specs.LaneLaws.{no_ranges, oldest_waiting, items_between, IsFlight, IsOfBatch, IsLaneAt}
use Rattle.out_lane.specs.LaneLaws.{IsLaneOf, Pushes, Begins, Answers, Accepts, Fails, IsKept, NewIsLane}
use Rattle.out_lane.proofs.RangeLemmas.{OpenIn, IsOpenIn, Steady, steady_from, steady_none, ranges_from-push}
use Rattle.out_lane.proofs.RangeLemmas.{AreLaneEvents-push, newly}
use Rattle.out_lane.proofs.FateLemmas.{holds_inside, holds_parts, buffered_by, fate_is, from_buffered}
use Rattle.out_lane.proofs.FateLemmas.{is_unwritten}
use Rattle.out_lane.proofs.EventLemmas.{buffered_above}
use Rattle.out_lane.proofs.ItemLemmas.{items_between-push, length-items_between, newest_push, pushed_out_is}
use Rattle.out_lane.proofs.ItemLemmas.{newest_failed, older_failed, begun_items, behind_begun}
use Rattle.out_lane.proofs.BecomeLemmas.{stays, was_buffered, is_now, is_now_written, push_same, behind_start}
use Rattle.out_lane.proofs.BecomeLemmas.{before_start, begin_same, inside_is_buffered, outside_is_no_more}
use Rattle.out_lane.proofs.BecomeLemmas.{accept_same, fail_same, once_any}

-- ranges by their parts
abbrev pub ranges : ℕ → ℕ → Option (ℕ × ℕ) → Ranges
ranges n w o = record { pushed = n; written_to = w; begun = o }

pub new_is_lane : (X : Type 0) → NewIsLane X
unfolding AreLaneEvents ranges_from
new_is_lane X batch limit b f = record {
  some = b;
  fits = f;
  legal = tt;
  state = record {
    batch = refl;
    limit = refl;
    pushed = refl;
    offered = refl;
    flight = refl;
    waiting = sym (drop_all (oldest_waiting limit no_ranges) [] (omega arith));
  };
}

open_within : (limit n w : ℕ) (o : Option (ℕ × ℕ)) → IsOpenIn limit n w o → open_end o ≤ n
open_within limit n w None s = omega arith
open_within limit n w (Some range) s = s.within

start_within : (limit : ℕ) (r : Ranges) → Steady limit r → oldest_waiting limit r ≤ r.pushed
start_within limit r s = let e = open_within limit r.pushed r.written_to r.begun s.open_range in let w = s.within in
    omega arith

module _ {X : Type 0} where
  pub steady_of : (batch limit : ℕ) (es : List LaneEvent) (offers : List X) (lane : LaneState X) →
      IsLaneOf batch limit es offers lane → Steady limit (ranges_of es)
  steady_of batch limit es offers lane a =
      steady_from batch limit no_ranges es a.some a.legal (steady_none limit)

  -- the lane of the events with one more
  next_lane : (batch limit : ℕ) (es : List LaneEvent) (e : LaneEvent) (offers : List X) (lane : LaneState X)
      (offers' : List X) (lane' : LaneState X) → IsLaneOf batch limit es offers lane
      → MeetsLane batch limit (ranges_of es) e → IsLaneAt batch limit (ranges_after (ranges_of es) e) offers' lane'
      → IsLaneOf batch limit (es ++ e ∷ []) offers' lane'
  next_lane batch limit es e offers lane offers' lane' a m s = record {
    some = a.some;
    fits = a.fits;
    legal = AreLaneEvents-push batch limit no_ranges es e a.legal m;
    state = subst (λ (r : Ranges). IsLaneAt batch limit r offers' lane') (sym (ranges_from-push no_ranges es e)) s;
  }

  -- a push
  flight-push : (n : ℕ) (limit w : ℕ) (o : Option (ℕ × ℕ)) (offers : List X) (item : X) (lane : LaneState X) →
      length offers ≡ n → IsOpenIn limit n w o → IsFlight o offers lane →
      IsFlight o (offers ++ item ∷ []) (after_push lane item)
  flight-push n limit w None offers item lane e s f = f
  flight-push n limit w (Some range) offers item lane e s f =
      f ∙ ap (λ (xs : List X). Some (range.0, xs)) (sym (items_between-push range.0 range.1 offers item (omega arith)
      (omega arith)))

  push_at : (batch limit : ℕ) (r : Ranges) (offers : List X) (lane : LaneState X) (item : X) →
      Steady limit r → IsLaneAt batch limit r offers lane →
      IsLaneAt batch limit (ranges_after r Push) (offers ++ item ∷ []) (after_push lane item)
  push_at batch limit r offers lane item s a =
      let start : ℕ = oldest_waiting limit r in
      let h : start ≤ length offers = (let k = start_within limit r s in omega arith) in
      let more : max start (length offers + 1 - limit) ≡ oldest_waiting limit (ranges_after r Push) = omega arith in
      record {
        batch = a.batch;
        limit = a.limit;
        pushed = ap (λ k. k + 1) a.pushed;
        offered = length_push offers item ∙ ap (λ k. k + 1) a.offered;
        flight = flight-push r.pushed limit r.written_to r.begun offers item lane a.offered s.open_range a.flight;
        waiting =
            ap (λ k. newest k (lane.waiting ++ item ∷ [])) a.limit
            ∙ ap (λ (xs : List X). newest limit (xs ++ item ∷ [])) a.waiting
            ∙ newest_push limit start offers item h
            ∙ ap (λ k. drop k (offers ++ item ∷ [])) more;
      }

  -- what is new by a push, and what is dropped by it
  pub push_meets : (batch limit : ℕ) (es : List LaneEvent) (offers : List X) (lane : LaneState X) (item : X) →
      IsLaneOf batch limit es offers lane → Pushes batch limit es offers lane item
  push_meets batch limit es offers lane item a =
      let r : Ranges = ranges_of es in
      let s : Steady limit r = steady_of batch limit es offers lane a in
      let n : length offers ≡ r.pushed = a.state.offered in
      let some = a.some in
      let fits = a.fits in
      let start : ℕ = oldest_waiting limit r in
      let next : ℕ = oldest_waiting limit (ranges_after r Push) in
      let h : start ≤ r.pushed = start_within limit r s in
      let up : start ≤ next = omega arith in
      let in_range : next ≤ length offers = (let k = open_within limit r.pushed r.written_to r.begun s.open_range in
      let w = s.within in omega arith) in
      let unwritten : (p : ℕ) → start ≤ p → is_written es p ≡ false =
      λ p l. is_unwritten batch limit es p a.some a.legal (omega arith) in
      record {
        state = next_lane batch limit es Push offers lane (offers ++ item ∷ []) (after_push lane item) a tt
            (push_at batch limit r offers lane item s a.state);
        comes = is_now limit es Push (length offers) true (unwritten (length offers) (omega arith)) refl
            (behind_start r.begun next (length offers) in_range);
        dropped = record {
          from = start;
          to = next;
          ordered = up;
          within = in_range;
          are =
              ap (λ (xs : List X). option_to_list (if length xs == lane.limit then slice_get xs 0 else None))
              a.state.waiting
              ∙ ap (λ k. option_to_list (if length (drop start offers) == k then slice_get
              (drop start offers) 0 else None)) a.state.limit
              ∙ pushed_out_is limit start offers (omega arith) (omega arith) (omega arith)
              ∙ ap (λ k. items_between start k offers) (let e : max start (length offers + 1 - limit) ≡ next = omega
              arith in e);
          were = λ p l m. was_buffered limit es p (unwritten p l) (behind_start r.begun start p l);
          become = λ p l m. is_now limit es Push p false (unwritten p l) refl
              (before_start r.begun next p (omega arith) m);
          others = λ p b o. stays limit es Push p refl (push_same r.begun start next p up o);
        };
      }

  -- a batch that is begun
  flight_length : (limit n w : ℕ) (range : ℕ × ℕ) (offers : List X) (lane : LaneState X) → length offers ≡ n →
      OpenIn limit n w range → IsFlight (Some range) offers lane → length (flying lane) ≡ range.1 - range.0
  flight_length limit n w range offers lane e s f =
      ap (λ (o : Option (ℕ × List X)). length (batch_items o)) f
      ∙ length-items_between range.0 range.1 offers (omega arith)

  pub waiting_length : (batch limit : ℕ) (r : Ranges) (offers : List X) (lane : LaneState X) →
      IsLaneAt batch limit r offers lane → length lane.waiting ≡ r.pushed - oldest_waiting limit r
  waiting_length batch limit r offers lane a =
      ap length a.waiting ∙ length-drop (oldest_waiting limit r) offers
      ∙ ap (λ k. k - oldest_waiting limit r) a.offered

  -- the waiting items begin where the ranges say so
  pub waiting_from_is : (batch limit : ℕ) (r : Ranges) (offers : List X) (lane : LaneState X) →
      Steady limit r → IsLaneAt batch limit r offers lane → waiting_from lane ≡ oldest_waiting limit r
  waiting_from_is batch limit r offers lane s a =
      let k = waiting_length batch limit r offers lane a in
      let h = start_within limit r s in
      let p = a.pushed in
      omega arith

  in_flight_answer : (lane : LaneState X) → IsSome lane.flight → begin_answer lane ≡ Err InFlight
  in_flight_answer lane t = rw t refl

  nothing_answer : (lane : LaneState X) → lane.flight ≡ None → length lane.waiting ≡ 0 →
      begin_answer lane ≡ Err NothingWaiting
  nothing_answer lane z y =
      let t : is_some lane.flight ≡ false = ap is_some z in
      let u : eqb (length lane.waiting) 0 ≡ true = eq-eqb (length lane.waiting) 0 y in
      rw (t, u) refl

  pub begun_answer : (lane : LaneState X) → lane.flight ≡ None → (length lane.waiting ≡ 0 → ⊥) →
      begin_answer lane ≡ Ok (waiting_from lane, waiting_from lane + min lane.batch (length lane.waiting))
  begun_answer lane z y =
      let t : is_some lane.flight ≡ false = ap is_some z in
      let u : eqb (length lane.waiting) 0 ≡ false = ne_eqb (length lane.waiting) 0 y in
      rw (t, u) refl

  begins : (batch limit : ℕ) (es : List LaneEvent) (offers : List X) (lane : LaneState X) →
      IsLaneOf batch limit es offers lane → (ranges_of es).begun ≡ None → (length lane.waiting ≡ 0 → ⊥) →
      Begins batch limit es offers lane (waiting_from lane, waiting_from lane + min lane.batch (length lane.waiting))
  begins batch limit es offers lane a closed y =
      let r : Ranges = ranges_of es in
      let s : Steady limit r = steady_of batch limit es offers lane a in
      let n : length offers ≡ r.pushed = a.state.offered in
      let start : ℕ = oldest_waiting limit r in
      let from : ℕ = waiting_from lane in
      let to : ℕ = waiting_from lane + min lane.batch (length lane.waiting) in
      let h : start ≤ r.pushed = start_within limit r s in
      let long : length lane.waiting ≡ r.pushed - start = waiting_length batch limit r offers lane a.state in
      let first : from ≡ start = waiting_from_is batch limit r offers lane s a.state in
      let size : lane.batch ≡ batch = a.state.batch in
      let zero : open_end r.begun ≡ 0 = ap open_end closed in
      let positive : 0 < r.pushed - start = omega arith in
      let end : to ≡ min (start + batch) r.pushed = omega arith in
      let end' : min (start + batch) (length offers) ≡ to = omega arith in
      let behind : to ≡ oldest_waiting limit (ranges_after r (Begin from to)) = omega arith in
      let meets : IsNextRange batch limit r from to = record {
        closed = closed;
        first = omega arith;
        end =
            omega arith;
        some = omega arith;
      } in
      record {
        meets = meets;
        state = next_lane batch limit es (Begin from to) offers lane offers (after_begin lane) a meets (record {
          batch = a.state.batch;
          limit = a.state.limit;
          pushed = a.state.pushed;
          offered = a.state.offered;
          flight =
              ap (λ (xs : List X). Some (from, xs))
              (ap (λ k. take k lane.waiting) size
              ∙ ap (λ (xs : List X). take batch xs) a.state.waiting
              ∙ begun_items batch start offers (omega arith)
              ∙ ap (λ k. items_between start k offers) end'
              ∙ ap (λ k. items_between k to offers) (sym first));
          waiting =
              ap (λ k. drop k lane.waiting) size
              ∙ ap (λ (xs : List X). drop batch xs) a.state.waiting
              ∙ behind_begun batch start offers (omega arith)
              ∙ ap (λ k. drop k offers) (end' ∙ behind);
        });
        fates = λ p l. stays limit es (Begin from to) p refl
            (begin_same from to (oldest_waiting limit (ranges_after r (Begin from to))) p (omega arith) (omega arith)
            ∙ ap (λ k. false || leb k p) first
            ∙ sym (ap (λ (o : Option (ℕ × ℕ)). is_in_open p o || leb start p) closed));
      }

  -- what begin answers where this range is open, or none
  answers : (batch limit : ℕ) (es : List LaneEvent) (offers : List X) (lane : LaneState X) (o : Option (ℕ × ℕ)) →
      (ranges_of es).begun ≡ o → IsFlight o offers lane → IsLaneOf batch limit es offers lane →
      Answers batch limit es offers lane (begin_answer lane)
  answers batch limit es offers lane (Some range) opened f a =
      subst (Answers batch limit es offers lane) (sym (in_flight_answer lane (ap is_some f)))
      (subst IsOpen (sym opened) tt)
  answers batch limit es offers lane None closed f a =
      let r : Ranges = ranges_of es in
      let s : Steady limit r = steady_of batch limit es offers lane a in
      let P : Result (ℕ × ℕ) BeginAnswer → Type 0 = Answers batch limit es offers lane in
      elim (cases_eq (length lane.waiting) 0) [
        | inl y ↦
            (let k = waiting_length batch limit r offers lane a.state in
            let zero : open_end r.begun ≡ 0 = ap open_end closed in
            let none : r.pushed ≤ next_from limit r = omega arith in
            subst P (sym (nothing_answer lane f y)) (closed, none))
        | inr y ↦ subst P (sym (begun_answer lane f y)) (begins batch limit es offers lane a closed y)
      ]

  pub begin_meets : (batch limit : ℕ) (es : List LaneEvent) (offers : List X) (lane : LaneState X) →
      IsLaneOf batch limit es offers lane → Answers batch limit es offers lane (begin_answer lane)
  begin_meets batch limit es offers lane a =
      answers batch limit es offers lane (ranges_of es).begun refl a.state.flight a

  -- a batch that is done
  none_flies : (o : Option (ℕ × List X)) → o ≡ None → IsSome o → ⊥
  none_flies None h s = cc
  none_flies (Some batch) h s = cc

  open_range : (o : Option (ℕ × ℕ)) (offers : List X) (lane : LaneState X) → IsFlight o offers lane →
      IsSome lane.flight →
      (range : ℕ × ℕ) × (o ≡ Some range)
  open_range None offers lane f h = absurd (none_flies lane.flight f h)
  open_range (Some range) offers lane f h = (range, refl)

  -- the range of a batch in flight: what the lane and the tests of positions say of it
  record HasOpen (limit : ℕ) (r : Ranges) (offers : List X) (lane : LaneState X) : Type 0 where
    range : ℕ × ℕ
    opened : r.begun ≡ Some range
    inside : OpenIn limit r.pushed r.written_to range
    flight : IsFlight (Some range) offers lane
    end : open_end r.begun ≡ range.1
    offered : length offers ≡ r.pushed
    is_open : IsOpen r.begun
    was : (p : ℕ) → buffered_by limit r p ≡ (holds p range || leb (oldest_waiting limit r) p)

  has_open : (batch limit : ℕ) (es : List LaneEvent) (offers : List X) (lane : LaneState X) →
      IsLaneOf batch limit es offers lane → IsSome lane.flight → HasOpen limit (ranges_of es) offers lane
  has_open batch limit es offers lane a g =
      let r : Ranges = ranges_of es in
      let s : Steady limit r = steady_of batch limit es offers lane a in
      let flew = open_range r.begun offers lane a.state.flight g in
      let opened : r.begun ≡ Some flew.0 = flew.1 in
      record {
        range = flew.0;
        opened = opened;
        inside = subst (λ (o : Option (ℕ × ℕ)). IsOpenIn limit r.pushed r.written_to o) opened s.open_range;
        flight = subst (λ (o : Option (ℕ × ℕ)). IsFlight o offers lane) opened a.state.flight;
        end = ap open_end opened;
        offered = a.state.offered;
        is_open = subst IsOpen (sym opened) tt;
        was = λ p. ap (λ (o : Option (ℕ × ℕ)). is_in_open p o || leb (oldest_waiting limit r) p) opened;
      }

  -- the lane behind a batch that is done, where these items wait
  done_lane : (batch limit : ℕ) (es : List LaneEvent) (ok : Bool) (offers : List X) (lane : LaneState X)
      (waiting : List X) → IsLaneOf batch limit es offers lane → IsOpen (ranges_of es).begun
      → waiting ≡ drop (oldest_waiting limit (ranges_after (ranges_of es) (Done ok))) offers
      → IsLaneOf batch limit (es ++ Done ok ∷ []) offers (record lane { flight = None; waiting = waiting })
  done_lane batch limit es ok offers lane waiting a m w =
      next_lane batch limit es (Done ok) offers lane offers (record lane { flight = None; waiting = waiting }) a m
      (record {
        batch = a.state.batch;
        limit = a.state.limit;
        pushed = a.state.pushed;
        offered = a.state.offered;
        flight = refl;
        waiting = w;
      })

  accepts : (batch limit : ℕ) (es : List LaneEvent) (offers : List X) (lane : LaneState X) →
      IsLaneOf batch limit es offers lane → HasOpen limit (ranges_of es) offers lane →
      Accepts batch limit es offers lane
  accepts batch limit es offers lane a o =
      let r : Ranges = ranges_of es in
      let range : ℕ × ℕ = o.range in
      let wrote : reached true r.written_to r.begun ≡ range.1 =
      ap (λ (b : Option (ℕ × ℕ)). reached true r.written_to b) o.opened in
      let start : ℕ = oldest_waiting limit r in
      let next : ℕ = oldest_waiting limit (ranges_after r (Done true)) in
      let same : start ≡ next = omega arith in
      let new_is : (p : ℕ) → list_any (holds p) (newly r.begun (Done true)) ≡ holds p range =
      λ p. ap (λ (b : Option (ℕ × ℕ)). list_any (holds p) (newly b (Done true))) o.opened ∙ once_any (holds p range) in
      record {
        meets = o.is_open;
        state = done_lane batch limit es true offers lane lane.waiting a o.is_open
            (a.state.waiting ∙ ap (λ k. drop k offers) same);
        written = record {
          from = range.0;
          to = range.1;
          ordered = omega arith;
          within = omega arith;
          are = ap batch_items o.flight;
          were = λ p l m. was_buffered limit es p (is_unwritten batch limit es p a.some a.legal (omega arith))
              (o.was p ∙ inside_is_buffered range.0 range.1 start p l m);
          become = λ p l m. is_now_written limit es (Done true) p (new_is p ∙ holds_inside range.0 range.1 p l m);
          others = λ p l m. stays limit es (Done true) p (new_is p ∙ outside_is_no_more range.0 range.1 p m)
              (accept_same range.0 range.1 start next p same m ∙ sym (o.was p));
        };
      }

  pub accept_meets : (batch limit : ℕ) (es : List LaneEvent) (offers : List X) (lane : LaneState X) →
      IsLaneOf batch limit es offers lane → IsSome lane.flight → Accepts batch limit es offers lane
  accept_meets batch limit es offers lane a g =
      accepts batch limit es offers lane a (has_open batch limit es offers lane a g)

  fails : (batch limit : ℕ) (es : List LaneEvent) (offers : List X) (lane : LaneState X) →
      IsLaneOf batch limit es offers lane → HasOpen limit (ranges_of es) offers lane →
      Fails batch limit es offers lane
  fails batch limit es offers lane a o =
      let r : Ranges = ranges_of es in
      let range : ℕ × ℕ = o.range in
      let start : ℕ = oldest_waiting limit r in
      let next : ℕ = oldest_waiting limit (ranges_after r (Done false)) in
      let starts : start ≡ max range.1 (r.pushed - limit) = omega arith in
      let starts' : start ≡ max range.1 (length offers - limit) = omega arith in
      let nexts : next ≡ max range.0 (r.pushed - limit) = omega arith in
      let to : ℕ = min range.1 next in
      let unwritten : (p : ℕ) → range.0 ≤ p → is_written es p ≡ false =
      λ p l. is_unwritten batch limit es p a.some a.legal (omega arith) in
      record {
        meets = o.is_open;
        state = done_lane batch limit es false offers lane (newest lane.limit (flying lane ++ lane.waiting)) a o.is_open
            (ap (λ k. newest k (flying lane ++ lane.waiting)) a.state.limit
            ∙ ap (λ (xs : List X). newest limit (xs ++ lane.waiting)) (ap batch_items o.flight)
            ∙ ap (λ (xs : List X). newest limit (items_between range.0 range.1 offers ++ xs)) a.state.waiting
            ∙ newest_failed limit range.0 range.1 start offers (omega arith) (omega arith) starts'
            ∙ ap (λ k. drop k offers) (let e : max range.0 (length offers - limit) ≡ next = omega arith in e));
        dropped = record {
          from = range.0;
          to = to;
          ordered = omega arith;
          within = omega arith;
          are =
              ap (λ k. older k (flying lane ++ lane.waiting)) a.state.limit
              ∙ ap (λ (xs : List X). older limit (xs ++ lane.waiting)) (ap batch_items o.flight)
              ∙ ap (λ (xs : List X). older limit (items_between range.0 range.1 offers ++ xs)) a.state.waiting
              ∙ older_failed limit range.0 range.1 start offers (omega arith) (omega arith) starts'
              ∙ ap (λ k. items_between range.0 k offers) (let e : min range.1
              (max range.0 (length offers - limit)) ≡ to = omega arith in e);
          were = λ p l m. was_buffered limit es p (unwritten p l)
              (o.was p ∙ inside_is_buffered range.0 range.1 start p l (omega arith));
          become = λ p l m. is_now limit es (Done false) p false (unwritten p l) refl (lt-leb next p (omega arith));
          others = λ p l m. stays limit es (Done false) p refl
              (fail_same range.0 range.1 start next (r.pushed - limit) p (omega arith) starts nexts m ∙ sym (o.was p));
        };
      }

  pub fail_meets : (batch limit : ℕ) (es : List LaneEvent) (offers : List X) (lane : LaneState X) →
      IsLaneOf batch limit es offers lane → IsSome lane.flight → Fails batch limit es offers lane
  fail_meets batch limit es offers lane a g =
      fails batch limit es offers lane a (has_open batch limit es offers lane a g)

  -- what is kept is what is buffered
  kept_in_flight : (limit n w p : ℕ) (o : Option (ℕ × ℕ)) (offers : List X) (lane : LaneState X) →
      length offers ≡ n →
      IsOpenIn limit n w o → IsFlight o offers lane → is_in_open p o ≡ true → IsOfBatch lane.flight p
  kept_in_flight limit n w p None offers lane e s f h = cc
  kept_in_flight limit n w p (Some range) offers lane e s f h =
      let k = length-items_between range.0 range.1 offers (omega arith) in
      let at = holds_parts range.0 range.1 p h in
      subst (λ (b : Option (ℕ × List X)). IsOfBatch b p) (sym f) (omega arith, omega arith)

  in_flight_kept : (limit n w p : ℕ) (o : Option (ℕ × ℕ)) (offers : List X) (lane : LaneState X) →
      length offers ≡ n →
      IsOpenIn limit n w o → IsFlight o offers lane → IsOfBatch lane.flight p → is_in_open p o ≡ true
  in_flight_kept limit n w p None offers lane e s f m =
      absurd (subst (λ (b : Option (ℕ × List X)). IsOfBatch b p) f m)
  in_flight_kept limit n w p (Some range) offers lane e s f m =
      let k = length-items_between range.0 range.1 offers (omega arith) in
      let at : (range.0 ≤ p) × (p < range.0 + length (items_between range.0 range.1 offers)) =
      subst (λ (b : Option (ℕ × List X)). IsOfBatch b p) f m in
      holds_inside range.0 range.1 p (omega (arith, at.0)) (omega (arith, at.1))

  pub keeps_buffered : (batch limit : ℕ) (es : List LaneEvent) (offers : List X) (lane : LaneState X) →
      IsLaneOf batch limit es offers lane → (p : ℕ) → p < length offers →
      (fate_at limit es p ≡ Buffered) ↔ IsKept lane p
  keeps_buffered batch limit es offers lane a p l =
      let r : Ranges = ranges_of es in
      let s : Steady limit r = steady_of batch limit es offers lane a in
      let n : length offers ≡ r.pushed = a.state.offered in
      let pushed : lane.pushed ≡ r.pushed = a.state.pushed in
      let start : ℕ = oldest_waiting limit r in
      let first : waiting_from lane ≡ start = waiting_from_is batch limit r offers lane s a.state in
      let buffered : buffered_by limit r p ≡ true → fate_at limit es p ≡ Buffered =
      λ b. was_buffered limit es p (is_unwritten batch limit es p a.some a.legal (buffered_above limit r p s b)) b in (
        λ h. elim (or_cases (is_in_open p r.begun) (leb start p)
            (from_buffered (is_written es p) (buffered_by limit r p) (sym (fate_is limit es p) ∙ h)).1) [
              | inl i ↦ inl (kept_in_flight limit r.pushed r.written_to p r.begun offers lane n s.open_range
                  a.state.flight
                  i)
              | inr b ↦ inr (let k = leb-true start p b in (omega arith, omega arith))
            ],
        λ k. elim k [
          | inl i ↦ buffered (or_left (is_in_open p r.begun) (leb start p)
              (in_flight_kept limit r.pushed r.written_to p r.begun offers lane n s.open_range a.state.flight i))
          | inr w ↦ buffered (behind_start r.begun start p (omega arith))
        ],
      )
