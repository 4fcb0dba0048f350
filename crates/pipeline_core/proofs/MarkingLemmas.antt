-- An item's group is marked at the outputs, one after the other.
use Rattle.std.proofs.Common.{◌≡◌, ◌<◌, ◌≤◌, ℕ, zero, suc, ◌+◌, List, [], ◌∷◌, ◌++◌, length, take, drop, refl, sym}
use Rattle.std.proofs.Common.{ap, ◌∙◌, subst, inl, inr, arith, get_or, set, append_assoc, append-nil, length-append}
use Rattle.std.proofs.Math.Nat.{eq-or-lt_of_le}
use Rattle.std.proofs.lemmas.List.{get_or-set_same, get_or-set_other, ext_get_or, length-set, get_or-map}
use Rattle.std.proofs.lemmas.List.{get_or_default, length-map}
use Rattle.std.proofs.lemmas.List.{drop_all}
use Rattle.std.proofs.lemmas.List.FromFn.{get_or-enumerate_from, length-enumerate_from}
use Rattle.std.specs.List.{enumerate_from}
use Rattle.std.specs.declared.option.Option.{Option}
use Rattle.std.specs.declared.option.Option.TheVariants.{None}
use Rattle.metric.specs.declared.metric.Content.{Content}
use Rattle.account.specs.declared.entry.Verdict.TheVariants as verdicts
use Rattle.account.specs.declared.entry.Report.{Report}
use Rattle.out_lane.specs.Lane.{LaneState, empty_lane}
use Rattle.track_groups.specs.Settling.{Copy, times}
use Rattle.track_groups.specs.Tracker.{TrackerState, IsTracker}
use Rattle.pipeline_core.specs.Offers.{view_at}
use Rattle.pipeline_core.specs.CoreState.{marked_at}
use Rattle.pipeline_core.specs.Steps.{marked_with, marked_routed}
use Rattle.pipeline_core.specs.Letting.{HasCopies, LetsGo}
use Rattle.pipeline_core.specs.Tracked.{gone_for, pushed_copies}
use Rattle.pipeline_core.proofs.LettingLemmas.{has_others, times-append}
use Rattle.pipeline_core.proofs.Offering.{view-get_or}

-- the outputs before one have the mark, and the others are as they were
pub record Marking (group : Option ℕ) (outs : List (Option Content)) (olds : List (LaneState (Option ℕ))) (n : ℕ)
    (news : List (LaneState (Option ℕ))) : Type 0 where
  pub as_many : length news ≡ length olds
  pub done : (o : ℕ) → o < n → o < length olds →
      marked_at news o ≡ marked_with group (view_at o outs) (marked_at olds o)
  pub left : (o : ℕ) → n ≤ o → marked_at news o ≡ marked_at olds o

pub marked_routed-at : (group : Option ℕ) (outs : List (Option Content)) (all : List (LaneState (Option ℕ))) (o : ℕ) →
    o < length all →
    marked_at (marked_routed group verdicts.Passes outs all) o ≡ marked_with group (view_at o outs) (marked_at all o)
marked_routed-at group outs all o h =
    get_or-map (λ (x : ℕ × LaneState (Option ℕ)). marked_with group (view_at x.0 outs) x.1) (enumerate_from 0 all) o
    (0, empty_lane 0 0) (empty_lane 0 0) (omega (arith, length-enumerate_from 0 all))
    ∙ ap (λ (x : ℕ × LaneState (Option ℕ)). marked_with group (view_at x.0 outs) x.1)
    (get_or-enumerate_from 0 all o (0, empty_lane 0 0) h)
    ∙ ap (λ (n : ℕ). marked_with group (view_at n outs) (marked_at all o)) (omega arith)

pub length-marked : (group : Option ℕ) (outs : List (Option Content)) (all : List (LaneState (Option ℕ))) →
    length (marked_routed group verdicts.Passes outs all) ≡ length all
length-marked group outs all = length-map _ _ ∙ length-enumerate_from 0 all

pub marking_none : (group : Option ℕ) (outs : List (Option Content)) (all : List (LaneState (Option ℕ))) →
    Marking group outs all 0 all
marking_none group outs all = record {
  as_many = refl;
  done = λ o l b. absurd (omega (arith, l));
  left = λ o l. refl;
}

pub marking_more : (group : Option ℕ) (outs : List (Option Content)) (olds mids news : List (LaneState (Option ℕ)))
    (n : ℕ) (view : Option Content) (x y : LaneState (Option ℕ)) → n < length olds → n < length outs
    → view ≡ get_or outs n view → x ≡ get_or mids n x → y ≡ marked_with group view x → news ≡ set mids n y →
    Marking group outs olds n mids → Marking group outs olds (n + 1) news
marking_more group outs olds mids news n view x y b c v is e s h =
    let here : view_at n outs ≡ view = view-get_or outs n c ∙ get_or_default outs n None view c ∙ sym v in
    let below : (o : ℕ) → o < n + 1 → o ≤ n = λ o l. omega (arith, l) in
    let was : marked_at olds n ≡ x = sym (h.left n (omega arith)) ∙ get_or_default mids n (empty_lane 0 0) x
    (omega (arith, h.as_many)) ∙ sym is in
    record {
      as_many = ap length s ∙ length-set mids n y ∙ h.as_many;
      done = λ o l m. elim (eq-or-lt_of_le (below o l)) [
        | inl q ↦ subst (λ (k : ℕ). marked_at news k ≡ marked_with group (view_at k outs) (marked_at olds k)) (sym q)
            (ap (λ (xs : List (LaneState (Option ℕ))). marked_at xs n) s
            ∙ get_or-set_same mids n y (empty_lane 0 0) (omega (arith, h.as_many)) ∙ e
            ∙ ap (λ (v : Option Content). marked_with group v x) (sym here)
            ∙ ap (marked_with group (view_at n outs)) (sym was))
        | inr q ↦ ap (λ (xs : List (LaneState (Option ℕ))). marked_at xs o) s
            ∙ get_or-set_other mids n o y (empty_lane 0 0) (omega (arith, q)) ∙ h.done o (omega (arith, q)) m
      ];
      left = λ o l. ap (λ (xs : List (LaneState (Option ℕ))). marked_at xs o) s
          ∙ get_or-set_other mids n o y (empty_lane 0 0) (omega arith) ∙ h.left o (omega arith);
    }

pub marking_all : (group : Option ℕ) (outs : List (Option Content)) (olds news : List (LaneState (Option ℕ))) (n : ℕ) →
    length olds ≤ n → Marking group outs olds n news → news ≡ marked_routed group verdicts.Passes outs olds
marking_all group outs olds news n l h =
    ext_get_or (empty_lane 0 0) news (marked_routed group verdicts.Passes outs olds)
    (h.as_many ∙ sym (length-marked group outs olds))
    (λ o b. h.done o (omega (arith, h.as_many)) (omega (arith, h.as_many))
    ∙ sym (marked_routed-at group outs olds o (omega (arith, h.as_many))))

pub nothing_pushed : (views : List (Option Content)) → pushed_copies views [] ≡ []
unfolding pushed_copies
nothing_pushed [] = refl
nothing_pushed (view ∷ views) = refl

-- what the first outputs push out, and the others
pub pushed-split : (n : ℕ) (views : List (Option Content)) (all : List (LaneState (Option ℕ))) →
    pushed_copies views all ≡ pushed_copies (take n views) (take n all) ++ pushed_copies (drop n views) (drop n all)
unfolding pushed_copies
pushed-split zero views all = refl
pushed-split (suc n) [] all = refl
pushed-split (suc n) (view ∷ views) [] = sym (nothing_pushed (drop n views))
pushed-split (suc n) (view ∷ views) (x ∷ all) =
    ap (λ (rest : List Copy). gone_for view x ++ rest) (pushed-split n views all)
    ∙ sym (append_assoc (gone_for view x) (pushed_copies (take n views) (take n all))
    (pushed_copies (drop n views) (drop n all)))

pushed-suc : (n : ℕ) (views : List (Option Content)) (all : List (LaneState (Option ℕ))) (v : Option Content)
    (d : LaneState (Option ℕ)) → n < length views → n < length all →
    pushed_copies (take (suc n) views) (take (suc n) all) ≡ pushed_copies (take n views) (take n all)
    ++ gone_for (get_or views n v) (get_or all n d)
unfolding pushed_copies
pushed-suc zero (view ∷ views) (x ∷ all) v d b c = append-nil (gone_for view x)
pushed-suc n [] all v d b c = absurd (omega (arith, b))
pushed-suc n (view ∷ views) [] v d b c = absurd (omega (arith, c))
pushed-suc (suc n) (view ∷ views) (x ∷ all) v d b c =
    ap (λ (rest : List Copy). gone_for view x ++ rest) (pushed-suc n views all v d (omega (arith, b)) (omega
    (arith, c)))
    ∙ sym (append_assoc (gone_for view x) (pushed_copies (take n views) (take n all))
    (gone_for (get_or views n v) (get_or all n d)))

pub pushed-next : (n : ℕ) (views : List (Option Content)) (all : List (LaneState (Option ℕ))) (v : Option Content)
    (d : LaneState (Option ℕ)) → n < length views → n < length all →
    pushed_copies (take (n + 1) views) (take (n + 1) all) ≡ pushed_copies (take n views) (take n all)
    ++ gone_for (get_or views n v) (get_or all n d)
pushed-next n views all v d b c =
    let on : n + 1 ≡ suc n = omega arith in
    ap (λ (k : ℕ). pushed_copies (take k views) (take k all)) on ∙ pushed-suc n views all v d b c

module _ (group : Option ℕ) (outs : List (Option Content)) (olds mids : List (LaneState (Option ℕ))) (n : ℕ)
    (view : Option Content) (x : LaneState (Option ℕ)) (b : n < length olds) (few : length olds ≤ length outs)
    (v : view ≡ get_or outs n view) (is : x ≡ get_or mids n x) (h : Marking group outs olds n mids) where
  -- what the first outputs push out, and the next one
  pub pushed_here : pushed_copies (take (n + 1) outs) (take (n + 1) olds) ≡ pushed_copies (take n outs) (take n olds)
      ++ gone_for view x
  pushed_here =
      let was : get_or olds n (empty_lane 0 0) ≡ x = sym (h.left n (omega arith))
      ∙ get_or_default mids n (empty_lane 0 0) x (omega (arith, b, h.as_many)) ∙ sym is in
      pushed-next n outs olds view (empty_lane 0 0) (omega (arith, b, few)) b
      ∙ ap (λ (w : Option Content). pushed_copies (take n outs) (take n olds) ++ gone_for w
      (get_or olds n (empty_lane 0 0))) (sym v)
      ∙ ap (λ (y : LaneState (Option ℕ)). pushed_copies (take n outs) (take n olds) ++ gone_for view y) was

  -- all that is pushed out, and behind the next one
  all_pushed : pushed_copies outs olds ≡ (pushed_copies (take n outs) (take n olds) ++ gone_for view x)
      ++ pushed_copies (drop (n + 1) outs) (drop (n + 1) olds)
  all_pushed = pushed-split (n + 1) outs olds
      ∙ ap (λ (front : List Copy). front ++ pushed_copies (drop (n + 1) outs) (drop (n + 1) olds)) pushed_here

  pub has_pushed : (old mid : TrackerState) (told some : List Report) → IsTracker old
      → LetsGo (pushed_copies (take n outs) (take n olds)) old told mid some → HasCopies (pushed_copies outs olds) old
      → HasCopies (gone_for view x) mid
  has_pushed old mid told some t goes has =
      has_others (pushed_copies (take n outs) (take n olds)) (gone_for view x) old mid told some t goes
      (λ g. (let all = ap (times g) all_pushed in
      let parts = times-append g (pushed_copies (take n outs) (take n olds) ++ gone_for view x)
      (pushed_copies (drop (n + 1) outs) (drop (n + 1) olds)) in
      let here = has g in
      omega arith))

  pub room_pushed : length (pushed_copies (take n outs) (take n olds)) + length (gone_for view x)
      ≤ length (pushed_copies outs olds)
  room_pushed =
      let all = ap length all_pushed in
      let parts = length-append (pushed_copies (take n outs) (take n olds) ++ gone_for view x)
      (pushed_copies (drop (n + 1) outs) (drop (n + 1) olds)) in
      let first = length-append (pushed_copies (take n outs) (take n olds)) (gone_for view x) in
      omega arith

-- behind the last output nothing is pushed out
pub pushed_all : (outs : List (Option Content)) (olds : List (LaneState (Option ℕ))) (n : ℕ) → length olds ≤ n
    → pushed_copies outs olds ≡ pushed_copies (take n outs) (take n olds)
pushed_all outs olds n l =
    pushed-split n outs olds
    ∙ ap (λ (rest : List (LaneState (Option ℕ))). pushed_copies (take n outs) (take n olds)
    ++ pushed_copies (drop n outs) rest) (drop_all n olds l)
    ∙ ap (λ (rest : List Copy). pushed_copies (take n outs) (take n olds) ++ rest) (nothing_pushed (drop n outs))
    ∙ append-nil (pushed_copies (take n outs) (take n olds))
