-- The views of an item go to the outputs, the last output first.
use Rattle.std.proofs.Common.{◌≡◌, ◌<◌, ◌≤◌, ℕ, zero, suc, ◌+◌, ◌==◌, Bool, true, List, [], ◌∷◌, ◌++◌, length, map}
use Rattle.std.proofs.Common.{take}
use Rattle.std.proofs.Common.{drop, refl, sym}
use Rattle.std.proofs.Common.{ap, ◌∙◌, subst, inl, inr, arith, slice_set, get_or, if◌then◌else◌}
use Rattle.std.proofs.Common.{length-append}
use Rattle.std.proofs.Math.Nat.{eq-or-lt_of_le}
use Rattle.std.proofs.lemmas.List.{get_or_push, get_or_append_left, set-set, get_or-set_same}
use Rattle.std.proofs.lemmas.List.{get_or-set_other, ext_get_or, length-set, get_or-map, length-map}
use Rattle.std.proofs.lemmas.List.FromFn.{get_or-enumerate_from, length-enumerate_from}
use Rattle.std.proofs.lemmas.Option.{slice_get-get_or, get_or_from_slice_get, slice_get_read}
use Rattle.std.specs.List.{enumerate_from}
use Rattle.std.specs.declared.option.Option.{Option}
use Rattle.std.specs.declared.option.Option.TheVariants.{Some, None}
use Rattle.metric.specs.declared.metric.Content.{Content}
use Rattle.account.specs.Numbers.{Numbers, output_numbers, with_output, dropped_more, unreached_output}
use Rattle.account.specs.declared.numbers.OutputNumbers.{OutputNumbers}
use Rattle.out_lane.specs.Lane.{LaneState, empty_lane}
use Rattle.pipeline_core.specs.Offers.{view_at, view_among}
use Rattle.pipeline_core.specs.declared.output.Offer.{Offer}
use Rattle.pipeline_core.specs.CoreState.{lane_at}
use Rattle.pipeline_core.specs.Steps.{lane_with, numbers_with, lanes_with, outputs_with}

-- the outputs whose views are left are as they were, and the others have got theirs
pub record Offered (item : ℕ) (lanes₀ : List (LaneState Offer)) (numbers₀ : Numbers)
    (views left : List (Option Content)) (lanes : List (LaneState Offer)) (numbers : Numbers) : Type 0 where
  pub left_of : (k : ℕ) → k < length left → get_or left k None ≡ get_or views k None
  pub most : length left ≤ length views
  pub as_many : length lanes ≡ length lanes₀
  pub numbered : length numbers.outputs ≡ length numbers₀.outputs
  pub rest : numbers ≡ record numbers₀ { outputs = numbers.outputs }
  pub lane_before : (o : ℕ) → o < length left → lane_at lanes o ≡ lane_at lanes₀ o
  pub number_before : (o : ℕ) → o < length left → output_numbers numbers o ≡ output_numbers numbers₀ o
  pub lane_after : (o : ℕ) → length left ≤ o → o < length lanes₀ →
      lane_at lanes o ≡ lane_with item (view_at o views) (lane_at lanes₀ o)
  pub number_after : (o : ℕ) → length left ≤ o → o < length lanes₀ →
      output_numbers numbers o ≡ numbers_with (view_at o views) (lane_at lanes₀ o) (output_numbers numbers₀ o)

-- what stands at a place of the list is the output's lane
pub placed : (lanes : List (LaneState Offer)) (o : ℕ) (x : LaneState Offer) → o < length lanes →
    x ≡ get_or lanes o x → lane_at lanes o ≡ x
placed lanes o x b e =
    get_or_from_slice_get lanes o x (empty_lane 0 0) (slice_get_read lanes (length lanes) o x refl b e)

-- an output whose lane is full
pub full_at : (lanes : List (LaneState Offer)) (o : ℕ) (x : LaneState Offer) (dropped : Bool) →
    o < length lanes → x ≡ get_or lanes o x → dropped ≡ (length x.waiting == x.limit) → dropped ≡ true →
    (length (lane_at lanes o).waiting == (lane_at lanes o).limit) ≡ true
full_at lanes o x dropped b e d t =
    ap (λ (y : LaneState Offer). length y.waiting == y.limit) (placed lanes o x b e) ∙ sym d ∙ t

-- the view at an output
pub view-get_or : (views : List (Option Content)) (k : ℕ) → k < length views →
    view_at k views ≡ get_or views k None
view-get_or views k h = ap view_among (slice_get-get_or views k None h)

pub offered_more : (item : ℕ) (lanes₀ : List (LaneState Offer)) (numbers₀ : Numbers)
    (views left rest : List (Option Content)) (view : Option Content) (lanes lanes' : List (LaneState Offer))
    (numbers numbers' : Numbers) →
    length views ≡ length lanes₀ → length numbers₀.outputs ≡ length lanes₀ → left ≡ rest ++ view ∷ [] →
    lanes' ≡ slice_set lanes (length rest) (lane_with item view (lane_at lanes (length rest))) →
    numbers' ≡ with_output numbers (length rest) (numbers_with view (lane_at lanes (length rest))
    (output_numbers numbers (length rest))) →
    Offered item lanes₀ numbers₀ views left lanes numbers → Offered item lanes₀ numbers₀ views rest lanes' numbers'
offered_more item lanes₀ numbers₀ views left rest view lanes lanes' numbers numbers' vs os l ls ns h =
    let len : length left ≡ length rest + 1 = ap length l ∙ length-append rest (view ∷ []) in
    let y : LaneState Offer = lane_with item view (lane_at lanes (length rest)) in
    let z : OutputNumbers = numbers_with view (lane_at lanes (length rest)) (output_numbers numbers (length rest)) in
    let here : view_at (length rest) views ≡ view = view-get_or views (length rest) (omega (arith, h.most))
    ∙ sym (h.left_of (length rest) (omega arith)) ∙ ap (λ (xs : List (Option Content)). get_or xs (length rest) None) l
    ∙ get_or_push rest view None (length rest) refl in
    record {
      left_of = λ k b. sym (get_or_append_left rest (view ∷ []) None k b)
          ∙ ap (λ (xs : List (Option Content)). get_or xs k None) (sym l) ∙ h.left_of k (omega arith);
      most = omega (arith, h.most);
      as_many = ap length ls ∙ length-set lanes (length rest) y ∙ h.as_many;
      numbered = ap (λ (n : Numbers). length n.outputs) ns ∙ length-set numbers.outputs (length rest) z ∙ h.numbered;
      rest = ns ∙ ap (λ (n : Numbers). with_output n (length rest)
          (numbers_with view (lane_at lanes (length rest)) (output_numbers numbers (length rest)))) h.rest
          ∙ ap (λ (n : Numbers). record numbers₀ { outputs = n.outputs }) (sym ns);
      lane_before = λ o b. ap (λ (x : List (LaneState Offer)). lane_at x o) ls
          ∙ get_or-set_other lanes (length rest) o y (empty_lane 0 0) (omega arith) ∙ h.lane_before o (omega arith);
      number_before = λ o b. ap (λ (n : Numbers). output_numbers n o) ns
          ∙ get_or-set_other numbers.outputs (length rest) o z unreached_output (omega arith)
          ∙ h.number_before o (omega arith);
      lane_after = λ o b c. elim (eq-or-lt_of_le b) [
        | inl e ↦ subst (λ (n : ℕ). lane_at lanes' n ≡ lane_with item (view_at n views) (lane_at lanes₀ n)) e
            (ap (λ (x : List (LaneState Offer)). lane_at x (length rest)) ls
            ∙ get_or-set_same lanes (length rest) y (empty_lane 0 0) (omega (arith, h.as_many))
            ∙ ap (λ (v : Option Content). lane_with item v (lane_at lanes (length rest))) (sym here)
            ∙ ap (lane_with item (view_at (length rest) views)) (h.lane_before (length rest) (omega arith)))
        | inr m ↦ ap (λ (x : List (LaneState Offer)). lane_at x o) ls
            ∙ get_or-set_other lanes (length rest) o y (empty_lane 0 0) (omega arith) ∙ h.lane_after o (omega arith) c
      ];
      number_after = λ o b c. elim (eq-or-lt_of_le b) [
        | inl e ↦ subst (λ (n : ℕ). output_numbers numbers' n ≡ numbers_with (view_at n views) (lane_at lanes₀ n)
            (output_numbers numbers₀ n)) e
            (ap (λ (n : Numbers). output_numbers n (length rest)) ns
            ∙ get_or-set_same numbers.outputs (length rest) z unreached_output (omega (arith, h.numbered))
            ∙ ap (λ (v : Option Content). numbers_with v (lane_at lanes (length rest))
            (output_numbers numbers (length rest))) (sym here)
            ∙ ap (λ (x : LaneState Offer). numbers_with (view_at (length rest) views) x
            (output_numbers numbers (length rest))) (h.lane_before (length rest) (omega arith))
            ∙ ap (numbers_with (view_at (length rest) views) (lane_at lanes₀ (length rest)))
            (h.number_before (length rest) (omega arith)))
        | inr m ↦ ap (λ (n : Numbers). output_numbers n o) ns
            ∙ get_or-set_other numbers.outputs (length rest) o z unreached_output (omega arith)
            ∙ h.number_after o (omega arith) c
      ];
    }

-- before any view was offered
pub none_offered : (item : ℕ) (lanes : List (LaneState Offer)) (numbers : Numbers) (views : List (Option Content)) →
    length views ≡ length lanes → Offered item lanes numbers views views lanes numbers
none_offered item lanes numbers views vs = record {
  left_of = λ k b. refl;
  most = omega arith;
  as_many = refl;
  numbered = refl;
  rest = refl;
  lane_before = λ o b. refl;
  number_before = λ o b. refl;
  lane_after = λ o b c. absurd (omega arith);
  number_after = λ o b c. absurd (omega arith);
}

-- once the view of the only output was
pub only_offered : (item : ℕ) (lanes₀ : List (LaneState Offer)) (numbers₀ : Numbers) (view : Option Content)
    (lanes : List (LaneState Offer)) (numbers : Numbers) → length (view ∷ []) ≡ length lanes₀ →
    length numbers₀.outputs ≡ length lanes₀ → lanes ≡ slice_set lanes₀ 0 (lane_with item view (lane_at lanes₀ 0)) →
    numbers ≡ with_output numbers₀ 0 (numbers_with view (lane_at lanes₀ 0) (output_numbers numbers₀ 0)) →
    Offered item lanes₀ numbers₀ (view ∷ []) [] lanes numbers
only_offered item lanes₀ numbers₀ view lanes numbers vs os ls ns =
    offered_more item lanes₀ numbers₀ (view ∷ []) (view ∷ []) [] view lanes₀ lanes numbers₀ numbers vs os refl ls ns
    (none_offered item lanes₀ numbers₀ (view ∷ []) vs)

-- an output's lane, once all views were offered
pub lanes_with-at : (item : ℕ) (views : List (Option Content)) (lanes : List (LaneState Offer)) (o : ℕ) →
    o < length lanes → lane_at (lanes_with item views lanes) o ≡ lane_with item (view_at o views) (lane_at lanes o)
lanes_with-at item views lanes o h =
    get_or-map (λ (x : ℕ × LaneState Offer). lane_with item (view_at x.0 views) x.1) (enumerate_from 0 lanes) o
    (0, empty_lane 0 0) (empty_lane 0 0) (omega (arith, length-enumerate_from 0 lanes))
    ∙ ap (λ (x : ℕ × LaneState Offer). lane_with item (view_at x.0 views) x.1)
    (get_or-enumerate_from 0 lanes o (0, empty_lane 0 0) h)
    ∙ ap (λ (n : ℕ). lane_with item (view_at n views) (lane_at lanes o)) (omega arith)

-- and its numbers
pub outputs_with-at : (views : List (Option Content)) (lanes : List (LaneState Offer)) (all : List OutputNumbers)
    (o : ℕ) → o < length all → get_or (outputs_with views lanes all) o unreached_output ≡ numbers_with (view_at o views)
    (lane_at lanes o) (get_or all o unreached_output)
outputs_with-at views lanes all o h =
    get_or-map (λ (x : ℕ × OutputNumbers). numbers_with (view_at x.0 views) (lane_at lanes x.0) x.1)
    (enumerate_from 0 all) o (0, unreached_output) unreached_output (omega (arith, length-enumerate_from 0 all))
    ∙ ap (λ (x : ℕ × OutputNumbers). numbers_with (view_at x.0 views) (lane_at lanes x.0) x.1)
    (get_or-enumerate_from 0 all o (0, unreached_output) h)
    ∙ ap (λ (n : ℕ). numbers_with (view_at n views) (lane_at lanes n) (get_or all o unreached_output)) (omega arith)

pub length-lanes_with : (item : ℕ) (views : List (Option Content)) (lanes : List (LaneState Offer)) →
    length (lanes_with item views lanes) ≡ length lanes
length-lanes_with item views lanes = length-map _ _ ∙ length-enumerate_from 0 lanes

pub length-outputs_with : (views : List (Option Content)) (lanes : List (LaneState Offer)) (all : List OutputNumbers)
    → length (outputs_with views lanes all) ≡ length all
length-outputs_with views lanes all = length-map _ _ ∙ length-enumerate_from 0 all

-- once no view is left, each output has got its view
pub offered_lanes : (item : ℕ) (lanes₀ : List (LaneState Offer)) (numbers₀ : Numbers)
    (views left : List (Option Content)) (lanes : List (LaneState Offer)) (numbers : Numbers) → length left ≡ 0
    → Offered item lanes₀ numbers₀ views left lanes numbers → lanes ≡ lanes_with item views lanes₀
offered_lanes item lanes₀ numbers₀ views left lanes numbers none h =
    ext_get_or (empty_lane 0 0) lanes (lanes_with item views lanes₀)
    (h.as_many ∙ sym (length-lanes_with item views lanes₀))
    (λ o b. h.lane_after o (omega arith) (omega (arith, h.as_many))
    ∙ sym (lanes_with-at item views lanes₀ o (omega (arith, h.as_many))))

pub offered_numbers : (item : ℕ) (lanes₀ : List (LaneState Offer)) (numbers₀ : Numbers)
    (views left : List (Option Content)) (lanes : List (LaneState Offer)) (numbers : Numbers) → length left ≡ 0
    → length numbers₀.outputs ≡ length lanes₀ → Offered item lanes₀ numbers₀ views left lanes numbers →
    numbers ≡ record numbers₀ { outputs = outputs_with views lanes₀ numbers₀.outputs }
offered_numbers item lanes₀ numbers₀ views left lanes numbers none os h =
    h.rest ∙ ap (λ (xs : List OutputNumbers). record numbers₀ { outputs = xs })
    (ext_get_or unreached_output numbers.outputs (outputs_with views lanes₀ numbers₀.outputs)
    (h.numbered ∙ sym (length-outputs_with views lanes₀ numbers₀.outputs))
    (λ o b. h.number_after o (omega arith) (omega (arith, h.numbered))
    ∙ sym (outputs_with-at views lanes₀ numbers₀.outputs o (omega (arith, h.numbered)))))

-- one view is buffered, and the oldest that waited is dropped
pub buffered_dropped : (a mid new : Numbers) (o : ℕ) (view : Option Content) (metric : Content) (at : LaneState Offer)
    → o < length a.outputs → view ≡ Some metric → (length at.waiting == at.limit) ≡ true →
    mid ≡ with_output a o (record (output_numbers a o) {
      buffered =
          (output_numbers a o).buffered + 1;
    }) → new ≡ with_output mid o (dropped_more (output_numbers mid o) 1) →
    new ≡ with_output a o (numbers_with view at (output_numbers a o))
buffered_dropped a mid new o view metric at b v full m n =
    let x : OutputNumbers = record (output_numbers a o) { buffered = (output_numbers a o).buffered + 1 } in
    n ∙ ap (λ (y : Numbers). with_output y o (dropped_more (output_numbers y o) 1)) m
    ∙ ap (λ (y : OutputNumbers). with_output (with_output a o x) o (dropped_more y 1))
    (get_or-set_same a.outputs o x unreached_output b)
    ∙ ap (λ (xs : List OutputNumbers). record a { outputs = xs }) (set-set a.outputs o x (dropped_more x 1))
    ∙ ap (λ (t : Bool). with_output a o (if t then dropped_more x 1 else x)) (sym full)
    ∙ ap (λ (w : Option Content). with_output a o (numbers_with w at (output_numbers a o))) (sym v)

-- ---- a metric is counted at each output

counted_next : (f : OutputNumbers → OutputNumbers) (xs : List OutputNumbers) (k : ℕ) (d : OutputNumbers) → k < length xs
    → slice_set (map f (take k xs) ++ drop k xs) k (f (get_or (map f (take k xs) ++ drop k xs) k d))
    ≡ map f (take (suc k) xs) ++ drop (suc k) xs
counted_next f [] k d l = absurd (omega (arith, l))
counted_next f (x ∷ xs) zero d l = refl
counted_next f (x ∷ xs) (suc k) d l = ap (λ (ys : List OutputNumbers). f x ∷ ys) (counted_next f xs k d (omega
    (arith, l)))

-- one output more
pub counted_step : (f : OutputNumbers → OutputNumbers) (a mid new : Numbers) (k : ℕ) → k < length a.outputs
    → mid ≡ record a { outputs = map f (take k a.outputs) ++ drop k a.outputs }
    → new ≡ with_output mid k (f (output_numbers mid k))
    → new ≡ record a { outputs = map f (take (k + 1) a.outputs) ++ drop (k + 1) a.outputs }
counted_step f a mid new k l m n =
    let next : suc k ≡ k + 1 = omega arith in
    n ∙ ap (λ (x : Numbers). with_output x k (f (output_numbers x k))) m
    ∙ ap (λ (xs : List OutputNumbers). record a { outputs = xs })
    (counted_next f a.outputs k unreached_output l
    ∙ ap (λ (n : ℕ). map f (take n a.outputs) ++ drop n a.outputs) next)
