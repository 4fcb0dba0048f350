-- The numbers of a journal with one entry more.
use Rattle.std.proofs.Common.{◌≡◌, ◌≢◌, ◌<◌, ℕ, ◌+◌, ◌*◌, Bool, false, List, [], ◌∷◌, ◌++◌, length, set}
use Rattle.std.proofs.Common.{get_or, is_some, inl, inr, refl, sym, ap, ◌∙◌, subst, arith, length-append}
use Rattle.std.proofs.Common.{append-nil}
use Rattle.std.specs.List.{count_by, enumerate_from}
use Rattle.std.specs.declared.option.Option.{Option}
use Rattle.std.specs.declared.option.Option.TheVariants.{None}
use Rattle.std.proofs.Math.Nat.{eq-or-lt_of_le}
use Rattle.std.proofs.lemmas.Bool.{cases_lt}
use Rattle.std.proofs.lemmas.List.{get_or-set_same, get_or-set_other, ext_get_or, length-set, get_or-map}
use Rattle.std.proofs.lemmas.List.{length-map}
use Rattle.std.proofs.lemmas.List.FromFn.{get_or-enumerate_from, length-enumerate_from}
use Rattle.pipeline_core.specs.declared.output.Offer.{Offer}
use Rattle.account.specs.Setup.{Setup}
use Rattle.account.specs.Numbers.{unread_input, unreached_output}
use Rattle.account.specs.declared.numbers.InputNumbers.{InputNumbers}
use Rattle.account.specs.declared.numbers.OutputNumbers.{OutputNumbers}
use Rattle.account.specs.declared.entry.Entry.{Entry}
use Rattle.out_lane.specs.LaneEvents.{LaneEvent, LaneFate, fate_at}
use Rattle.out_lane.specs.LaneEvents as lane
use Rattle.out_lane.specs.LaneCounts.{ones, positions_counted, fates_counted}
use Rattle.out_lane.specs.LaneLaws.{KeepsFates, Becomes}
use Rattle.out_lane.proofs.CountLemmas.{positions_counted-add, keeps_counted, becomes_counted}
use Rattle.pipeline_core.specs.Offers.{offers, offered_by, lane_events, lane_events_by}
use Rattle.pipeline_core.specs.Fates.{Fate, fate_of, fates}
use Rattle.pipeline_core.specs.Totals.{totals, total_by, input_with, input_total_from, input_total}
use Rattle.pipeline_core.specs.Totals.{output_total}
use Rattle.pipeline_core.proofs.JournalPush.{offers-push, lane_events-push}
use Rattle.pipeline_core.proofs.FateCounts.{kept_out, fates-counted, total_by-push}

input_total_from-push : (input : ℕ) (x : InputNumbers) (es : List Entry) (e : Entry) →
    input_total_from input x (es ++ e ∷ []) ≡ input_with input (input_total_from input x es) e
unfolding input_total_from
input_total_from-push input x [] e = refl
input_total_from-push input x (y ∷ es) e = input_total_from-push input (input_with input x y) es e

-- an input's numbers among the totals
pub inputs-at : (setup : Setup) (journal : List Entry) (i : ℕ) → i < length setup.inputs →
    get_or (totals setup journal).inputs i (unread_input false) ≡ input_total i
    (is_some (get_or setup.inputs i None)) journal
inputs-at setup journal i b =
    get_or-map (λ (x : ℕ × Option ℕ). input_total x.0 (is_some x.1) journal) (enumerate_from 0 setup.inputs) i (0, None)
    (unread_input false) (omega (arith, length-enumerate_from 0 setup.inputs))
    ∙ ap (λ (x : ℕ × Option ℕ). input_total x.0 (is_some x.1) journal)
    (get_or-enumerate_from 0 setup.inputs i (0, None) b)
    ∙ ap (λ (n : ℕ). input_total n (is_some (get_or setup.inputs i None)) journal) (omega arith)

pub length-inputs : (setup : Setup) (journal : List Entry) →
    length (totals setup journal).inputs ≡ length setup.inputs
length-inputs setup journal = length-map _ _ ∙ length-enumerate_from 0 setup.inputs

pub inputs-push : (setup : Setup) (journal : List Entry) (e : Entry) (i : ℕ) → i < length setup.inputs →
    get_or (totals setup (journal ++ e ∷ [])).inputs i (unread_input false) ≡ input_with i
    (get_or (totals setup journal).inputs i (unread_input false)) e
inputs-push setup journal e i b =
    inputs-at setup (journal ++ e ∷ []) i b ∙ input_total_from-push i
    (unread_input (is_some (get_or setup.inputs i None))) journal e
    ∙ ap (λ (x : InputNumbers). input_with i x e) (sym (inputs-at setup journal i b))

-- an entry that says nothing of inputs
pub inputs-same : (setup : Setup) (journal : List Entry) (e : Entry) →
    ((i : ℕ) (x : InputNumbers) → input_with i x e ≡ x) →
    (totals setup (journal ++ e ∷ [])).inputs ≡ (totals setup journal).inputs
inputs-same setup journal e h =
    ext_get_or (unread_input false) (totals setup (journal ++ e ∷ [])).inputs (totals setup journal).inputs
    (length-inputs setup (journal ++ e ∷ []) ∙ sym (length-inputs setup journal))
    (λ i b. inputs-push setup journal e i (omega (arith, length-inputs setup (journal ++ e ∷ [])))
    ∙ h i (get_or (totals setup journal).inputs i (unread_input false)))

-- an entry of one input
pub inputs-set : (setup : Setup) (journal : List Entry) (e : Entry) (i : ℕ) (y : InputNumbers) →
    i < length setup.inputs → ((k : ℕ) (x : InputNumbers) → k ≢ i → input_with k x e ≡ x) →
    input_with i (get_or (totals setup journal).inputs i (unread_input false)) e ≡ y
    → (totals setup (journal ++ e ∷ [])).inputs ≡ set (totals setup journal).inputs i y
inputs-set setup journal e i y b others here =
    let n : length (totals setup (journal ++ e ∷ [])).inputs ≡ length setup.inputs =
    length-inputs setup (journal ++ e ∷ []) in
    let m : length (totals setup journal).inputs ≡ length setup.inputs = length-inputs setup journal in
    let all : List InputNumbers = (totals setup journal).inputs in
    ext_get_or (unread_input false) (totals setup (journal ++ e ∷ [])).inputs (set all i y)
    (n ∙ sym (length-set all i y ∙ m))
    (λ k c. inputs-push setup journal e k (omega arith) ∙ elim (cases_lt k i) [
      | inl l ↦ others k (get_or all k (unread_input false)) (omega arith)
          ∙ sym (get_or-set_other all i k y (unread_input false) (omega arith))
      | inr l ↦ elim (eq-or-lt_of_le l) [
        | inl q ↦ subst (λ (j : ℕ). input_with j (get_or all j (unread_input false)) e ≡ get_or (set all i y) j
            (unread_input false)) q (here ∙ sym (get_or-set_same all i y (unread_input false) (omega arith)))
        | inr q ↦ others k (get_or all k (unread_input false)) (omega arith)
            ∙ sym (get_or-set_other all i k y (unread_input false) (omega arith))
      ]
    ])

-- an output's numbers among the totals
pub outputs-at : (setup : Setup) (journal : List Entry) (o : ℕ) → o < length setup.outputs →
    get_or (totals setup journal).outputs o unreached_output ≡ output_total (get_or setup.outputs o (0, 0)).1 o journal
outputs-at setup journal o b =
    get_or-map (λ (x : ℕ × (ℕ × ℕ)). output_total x.1.1 x.0 journal) (enumerate_from 0 setup.outputs) o
    (0, (0, 0)) unreached_output (omega (arith, length-enumerate_from 0 setup.outputs))
    ∙ ap (λ (x : ℕ × (ℕ × ℕ)). output_total x.1.1 x.0 journal) (get_or-enumerate_from 0 setup.outputs o (0, (0, 0)) b)
    ∙ ap (λ (n : ℕ). output_total (get_or setup.outputs o (0, 0)).1 n journal) (omega arith)

pub length-outputs : (setup : Setup) (journal : List Entry) →
    length (totals setup journal).outputs ≡ length setup.outputs
length-outputs setup journal = length-map _ _ ∙ length-enumerate_from 0 setup.outputs

outputs-push : (setup : Setup) (journal : List Entry) (e : Entry) (o : ℕ) (y : OutputNumbers) →
    o < length setup.outputs → output_total (get_or setup.outputs o (0, 0)).1 o (journal ++ e ∷ []) ≡ y →
    get_or (totals setup (journal ++ e ∷ [])).outputs o unreached_output ≡ y
outputs-push setup journal e o y b h = outputs-at setup (journal ++ e ∷ []) o b ∙ h

-- other numbers at each output
pub outputs-as : (setup : Setup) (journal : List Entry) (e : Entry) (all : List OutputNumbers) →
    length all ≡ length setup.outputs →
    ((o : ℕ) → o < length setup.outputs → output_total (get_or setup.outputs o (0, 0)).1 o
    (journal ++ e ∷ []) ≡ get_or all o unreached_output) →
    (totals setup (journal ++ e ∷ [])).outputs ≡ all
outputs-as setup journal e all n h =
    ext_get_or unreached_output (totals setup (journal ++ e ∷ [])).outputs all (length-outputs setup (journal ++ e ∷ [])
    ∙ sym n)
    (λ o b. let c : o < length setup.outputs = omega (arith, length-outputs setup (journal ++ e ∷ [])) in
    outputs-push setup journal e o (get_or all o unreached_output) c (h o c))

-- an entry that says nothing of outputs
pub outputs-same : (setup : Setup) (journal : List Entry) (e : Entry) →
    ((o : ℕ) → o < length setup.outputs → output_total (get_or setup.outputs o (0, 0)).1 o
    (journal ++ e ∷ []) ≡ output_total (get_or setup.outputs o (0, 0)).1 o journal) →
    (totals setup (journal ++ e ∷ [])).outputs ≡ (totals setup journal).outputs
outputs-same setup journal e h =
    outputs-as setup journal e (totals setup journal).outputs (length-outputs setup journal)
    (λ o b. h o b ∙ sym (outputs-at setup journal o b))

-- an entry of one output
pub outputs-set : (setup : Setup) (journal : List Entry) (e : Entry) (o : ℕ) (y : OutputNumbers) →
    o < length setup.outputs →
    ((k : ℕ) → k < length setup.outputs → k ≢ o → output_total (get_or setup.outputs k (0, 0)).1 k
    (journal ++ e ∷ []) ≡ output_total (get_or setup.outputs k (0, 0)).1 k journal) →
    output_total (get_or setup.outputs o (0, 0)).1 o (journal ++ e ∷ []) ≡ y
    → (totals setup (journal ++ e ∷ [])).outputs ≡ set (totals setup journal).outputs o y
outputs-set setup journal e o y b others here =
    let all : List OutputNumbers = (totals setup journal).outputs in
    let m : length all ≡ length setup.outputs = length-outputs setup journal in
    outputs-as setup journal e (set all o y) (length-set all o y ∙ m)
    (λ k c. elim (cases_lt k o) [
      | inl l ↦ others k c (omega arith) ∙ sym (outputs-at setup journal k c)
          ∙ sym (get_or-set_other all o k y unreached_output (omega arith))
      | inr l ↦ elim (eq-or-lt_of_le l) [
        | inl q ↦ subst (λ (j : ℕ). output_total (get_or setup.outputs j (0, 0)).1 j (journal ++ e ∷ []) ≡ get_or
            (set all o y) j unreached_output) q (here ∙ sym (get_or-set_same all o y unreached_output (omega arith)))
        | inr q ↦ others k c (omega arith) ∙ sym (outputs-at setup journal k c)
            ∙ sym (get_or-set_other all o k y unreached_output (omega arith))
      ]
    ])

pub same_numbers : (x y : OutputNumbers) → x.filtered ≡ y.filtered → x.late ≡ y.late →
    x.consumed ≡ y.consumed → x.written ≡ y.written → x.buffered ≡ y.buffered → x.dropped ≡ y.dropped → x ≡ y
same_numbers x y a b c d e f =
    ap (λ (n : ℕ). record x { filtered = n }) a ∙ ap (λ (n : ℕ). record x { filtered = y.filtered; late = n }) b
    ∙ ap (λ (n : ℕ). record x { filtered = y.filtered; late = y.late; consumed = n }) c
    ∙ ap (λ (n : ℕ). record y { written = n; buffered = x.buffered; dropped = x.dropped }) d
    ∙ ap (λ (n : ℕ). record y { buffered = n; dropped = x.dropped }) e ∙ ap (λ (n : ℕ). record y { dropped = n }) f

-- a test of fates, at the fate of a view that came to the output
abbrev pub tested : (Fate → Bool) → LaneFate → Bool
tested t f = t (fate_of f)

-- the counts with one entry more
count-push : (t : Fate → Bool) (limit o : ℕ) (es : List Entry) (e : Entry) (events : List LaneEvent)
    (views : List Offer) → lane_events_by o e ≡ events → offered_by o e ≡ views →
    count_by t (fates limit o (es ++ e ∷ [])) ≡ total_by (kept_out t o) es + kept_out t o e + fates_counted
    (tested t) limit (lane_events o es ++ events) (length (offers o es ++ views))
count-push t limit o es e events views l v =
    let a : lane_events o (es ++ e ∷ []) ≡ lane_events o es ++ events =
    lane_events-push o es e ∙ ap (λ (x : List LaneEvent). lane_events o es ++ x) l in
    let b : offers o (es ++ e ∷ []) ≡ offers o es ++ views =
    offers-push o es e ∙ ap (λ (x : List Offer). offers o es ++ x) v in
    let c : fates_counted (tested t) limit (lane_events o (es ++ e ∷ []))
    (length (offers o (es ++ e ∷ []))) ≡ fates_counted (tested t) limit (lane_events o es ++ events)
    (length (offers o es ++ views)) =
    ap (λ (x : List LaneEvent). fates_counted (tested t) limit x (length (offers o (es ++ e ∷ [])))) a
    ∙ ap (λ (x : List Offer). fates_counted (tested t) limit (lane_events o es ++ events) (length x)) b in
    omega (arith, fates-counted t limit o (es ++ e ∷ []), total_by-push (kept_out t o) es e)

-- no view comes
no_more : (t : Fate → Bool) (limit o : ℕ) (es : List Entry) (events : List LaneEvent) →
    fates_counted (tested t) limit events (length (offers o es ++ []))
    ≡ fates_counted (tested t) limit events (length (offers o es))
no_more t limit o es events =
    ap (λ (x : List Offer). fates_counted (tested t) limit events (length x)) (append-nil (offers o es))

-- an entry that does nothing at the output's lane
pub count-plain : (t : Fate → Bool) (limit o : ℕ) (es : List Entry) (e : Entry) → lane_events_by o e ≡ [] →
    offered_by o e ≡ [] →
    count_by t (fates limit o (es ++ e ∷ [])) ≡ count_by t (fates limit o es) + kept_out t o e
count-plain t limit o es e l v =
    let a : fates_counted (tested t) limit (lane_events o es ++ []) (length (offers o es)) ≡ fates_counted
    (tested t) limit (lane_events o es) (length (offers o es)) =
    ap (λ (x : List LaneEvent). fates_counted (tested t) limit x (length (offers o es)))
    (append-nil (lane_events o es)) in
    omega (
      arith,
      no_more t limit o es (lane_events o es ++ []),
      count-push t limit o es e [] [] l v,
      fates-counted t limit o es,
    )

-- an entry that begins a batch of the output
pub count-keep : (t : Fate → Bool) (limit o : ℕ) (es : List Entry) (e : Entry) (event : LaneEvent) →
    lane_events_by o e ≡ event ∷ [] → offered_by o e ≡ [] → kept_out t o e ≡ 0 →
    KeepsFates limit (lane_events o es) (lane_events o es ++ event ∷ []) (offers o es) →
    count_by t (fates limit o (es ++ e ∷ [])) ≡ count_by t (fates limit o es)
count-keep t limit o es e event l v z k =
    omega (
      arith,
      no_more t limit o es (lane_events o es ++ event ∷ []),
      count-push t limit o es e (event ∷ []) [] l v,
      fates-counted t limit o es,
      keeps_counted (tested t) limit (lane_events o es) (lane_events o es ++ event ∷ []) (offers o es) k,
    )

-- an entry by which some views are no longer buffered
pub count-become : (t : Fate → Bool) (limit o : ℕ) (es : List Entry) (e : Entry) (event : LaneEvent) (fate : LaneFate)
    (views : List Offer) → lane_events_by o e ≡ event ∷ [] → offered_by o e ≡ [] → kept_out t o e ≡ 0 →
    Becomes limit (lane_events o es) (lane_events o es ++ event ∷ []) (offers o es) fate views →
    count_by t (fates limit o (es ++ e ∷ [])) + ones (tested t lane.Buffered) * length views ≡ count_by t
    (fates limit o es) + ones (tested t fate) * length views
count-become t limit o es e event fate views l v z k =
    omega (
      arith,
      no_more t limit o es (lane_events o es ++ event ∷ []),
      count-push t limit o es e (event ∷ []) [] l v,
      fates-counted t limit o es,
      becomes_counted (tested t) limit (lane_events o es) (lane_events o es ++ event ∷ []) (offers o es) fate views k,
    )

-- an entry by which a view comes, and others are no longer buffered
pub count-come : (t : Fate → Bool) (limit o : ℕ) (es : List Entry) (e : Entry) (view : Offer) (views : List Offer)
    → lane_events_by o e ≡ lane.Push ∷ [] → offered_by o e ≡ view ∷ [] → kept_out t o e ≡ 0 →
    fate_at limit (lane_events o es ++ lane.Push ∷ []) (length (offers o es)) ≡ lane.Buffered →
    Becomes limit (lane_events o es) (lane_events o es ++ lane.Push ∷ []) (offers o es) lane.Dropped views →
    count_by t (fates limit o (es ++ e ∷ [])) + ones (tested t lane.Buffered) * length views ≡ count_by t
    (fates limit o es) + ones (tested t lane.Dropped) * length views + ones (tested t lane.Buffered)
count-come t limit o es e view views l v z new k =
    let after : List LaneEvent = lane_events o es ++ lane.Push ∷ [] in
    let n : ℕ = length (offers o es) in
    let test : ℕ → Bool = λ p. tested t (fate_at limit after p) in
    let a : length (offers o es ++ view ∷ []) ≡ n + 1 = length-append (offers o es) (view ∷ []) in
    let b : fates_counted (tested t) limit after (length (offers o es ++ view ∷ [])) ≡ fates_counted
    (tested t) limit after (n + 1) = ap (fates_counted (tested t) limit after) a in
    let c : positions_counted test 0 (n + 1) ≡ positions_counted test 0 n + positions_counted test (0 + n) 1 =
    positions_counted-add test 0 n 1 in
    let d : positions_counted test (0 + n) 1 ≡ positions_counted test n 1 =
    ap (λ (m : ℕ). positions_counted test m 1) (omega arith) in
    let f : ones (test n) ≡ ones (tested t lane.Buffered) = ap (λ (x : LaneFate). ones (tested t x)) new in
    omega (
      arith,
      count-push t limit o es e (lane.Push ∷ []) (view ∷ []) l v,
      fates-counted t limit o es,
      becomes_counted (tested t) limit (lane_events o es) after (offers o es) lane.Dropped views k,
    )
