-- The law of a list of calls.
use Rattle.std.proofs.Common.{ℕ, List, [], ◌∷◌, ◌++◌, Result, Ok, Err, sym, subst, append_assoc}
use Rattle.std.proofs.lemmas.List.{append-nil}
use Rattle.out_lane.specs.declared.BeginAnswer.{BeginAnswer}
use Rattle.out_lane.specs.Lane.{LaneState, empty_lane, begin_answer}
use Rattle.out_lane.specs.LaneEvents.{LaneEvent}
use Rattle.out_lane.specs.LaneLaws.{IsLaneOf, Answers}
use Rattle.out_lane.specs.LaneCalls.{LaneCall, Pushing, Beginning, Accepting, Failing, after_answer}
use Rattle.out_lane.specs.LaneCalls.{after_call, MayCall, events_of_answer, events_of_call, pushed_by}
use Rattle.out_lane.specs.LaneCalls.{after_calls, MayCallAll, events_of_calls, pushed_by_all, CallsMeet}
use Rattle.out_lane.proofs.LaneLemmas.{new_is_lane, push_meets, begin_meets, accept_meets, fail_meets}

module _ {X : Type 0} where
  no_items : (batch limit : ℕ) (es : List LaneEvent) (offers : List X) (lane : LaneState X) →
      IsLaneOf batch limit es offers lane → IsLaneOf batch limit es (offers ++ []) lane
  no_items batch limit es offers lane a =
      subst (λ (xs : List X). IsLaneOf batch limit es xs lane) (sym (append-nil offers)) a

  no_events : (batch limit : ℕ) (es : List LaneEvent) (offers : List X) (lane : LaneState X) →
      IsLaneOf batch limit es offers lane → IsLaneOf batch limit (es ++ []) offers lane
  no_events batch limit es offers lane a =
      subst (λ (xs : List LaneEvent). IsLaneOf batch limit xs offers lane) (sym (append-nil es)) a

  answer_meets : (batch limit : ℕ) (es : List LaneEvent) (offers : List X) (lane : LaneState X)
      (answer : Result (ℕ × ℕ) BeginAnswer) → IsLaneOf batch limit es offers lane
      → Answers batch limit es offers lane answer → IsLaneOf batch limit (es ++ events_of_answer answer) offers
      (after_answer lane answer)
  answer_meets batch limit es offers lane (Ok range) a m = m.state
  answer_meets batch limit es offers lane (Err e) a m = no_events batch limit es offers lane a

  pub call_meets : (batch limit : ℕ) (es : List LaneEvent) (offers : List X) (lane : LaneState X) (call : LaneCall X)
      → IsLaneOf batch limit es offers lane → MayCall lane call
      → IsLaneOf batch limit (es ++ events_of_call lane call) (offers ++ pushed_by call) (after_call lane call)
  call_meets batch limit es offers lane (Pushing item) a m =
      (push_meets batch limit es offers lane item a).state
  call_meets batch limit es offers lane Beginning a m =
      no_items batch limit (es ++ events_of_answer (begin_answer lane)) offers (after_answer lane (begin_answer lane))
      (answer_meets batch limit es offers lane (begin_answer lane) a (begin_meets batch limit es offers lane a))
  call_meets batch limit es offers lane Accepting a m =
      no_items batch limit _ offers _ (accept_meets batch limit es offers lane a m).state
  call_meets batch limit es offers lane Failing a m =
      no_items batch limit _ offers _ (fail_meets batch limit es offers lane a m).state

  calls_meet_from : (batch limit : ℕ) (es : List LaneEvent) (offers : List X) (lane : LaneState X)
      (calls : List (LaneCall X)) → IsLaneOf batch limit es offers lane → MayCallAll lane calls
      → IsLaneOf batch limit (es ++ events_of_calls lane calls) (offers ++ pushed_by_all calls) (after_calls lane calls)
  unfolding MayCallAll events_of_calls pushed_by_all after_calls
  calls_meet_from batch limit es offers lane [] a m =
      no_events batch limit es (offers ++ []) lane (no_items batch limit es offers lane a)
  calls_meet_from batch limit es offers lane (call ∷ calls) a m =
      let next : LaneState X = after_call lane call in
      subst (λ (xs : List LaneEvent). IsLaneOf batch limit xs (offers ++ (pushed_by call ++ pushed_by_all calls))
      (after_calls next calls))
      (append_assoc es (events_of_call lane call) (events_of_calls next calls))
      (subst (λ (ys : List X). IsLaneOf batch limit (es ++ events_of_call lane call ++ events_of_calls next calls) ys
      (after_calls next calls))
      (append_assoc offers (pushed_by call) (pushed_by_all calls))
      (calls_meet_from batch limit (es ++ events_of_call lane call) (offers ++ pushed_by call) next calls
      (call_meets batch limit es offers lane call a m.0) m.1))

pub calls_meet : (X : Type 0) → CallsMeet X
calls_meet X batch limit calls b f m =
    calls_meet_from batch limit [] [] (empty_lane batch limit) calls (new_is_lane X batch limit b f) m
