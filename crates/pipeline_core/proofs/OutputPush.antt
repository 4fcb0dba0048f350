-- An output's numbers with one entry more.
use Rattle.std.proofs.Common.{◌≡◌, ◌<◌, ◌≤◌, ℕ, ◌+◌, Bool, true, false, List, [], ◌∷◌, ◌++◌, length, inl, inr}
use Rattle.std.proofs.Common.{refl, sym, ap, ◌∙◌, arith, ◌*◌}
use Rattle.std.specs.Option.{option_to_list}
use Rattle.std.specs.Prelude.{slice_get, count_by}
use Rattle.std.proofs.Math.Nat.{eq-or-lt_of_le}
use Rattle.pipeline_core.specs.declared.output.Offer.{Offer}
use Rattle.account.specs.Setup.{Setup}
use Rattle.account.specs.Numbers.{Numbers, dropped_more}
use Rattle.account.specs.declared.numbers.InputNumbers.{InputNumbers}
use Rattle.account.specs.declared.numbers.OutputNumbers.{OutputNumbers}
use Rattle.account.specs.declared.entry.Entry.{Entry}
use Rattle.out_lane.specs.LaneEvents.{LaneEvent, LaneFate}
use Rattle.out_lane.specs.LaneEvents as lane
use Rattle.out_lane.specs.Lane.{LaneState, flying, pushed_out, failed_out}
use Rattle.out_lane.specs.LaneCounts.{ones}
use Rattle.out_lane.specs.LaneLaws.{KeepsFates, Becomes, Pushes}
use Rattle.pipeline_core.specs.Offers.{offers, offered_by, lane_events, lane_events_by}
use Rattle.pipeline_core.specs.Fates.{Fate, fate_of, fates, is_filtered, is_late, is_consumed, is_written}
use Rattle.pipeline_core.specs.Fates.{is_buffered, is_dropped}
use Rattle.pipeline_core.specs.Fates as fate
use Rattle.pipeline_core.specs.Totals.{totals, made_by, removed_by, routed_by, output_total}
use Rattle.pipeline_core.specs.Steps.{buffered_more, late_more, consumed_more, counted_done, count_done}
use Rattle.pipeline_core.proofs.FateCounts.{kept_out, total_by-push}
use Rattle.pipeline_core.proofs.Keeping.{full, not_full}
use Rattle.pipeline_core.proofs.TotalPush.{same_numbers, count-plain, count-keep, count-become, count-come}

-- an entry that does nothing at the output's lane
output_plain : (limit o : ℕ) (es : List Entry) (e : Entry) (x : OutputNumbers) → lane_events_by o e ≡ []
    → offered_by o e ≡ [] →
    let old : OutputNumbers = output_total limit o es in
    x.filtered ≡ old.filtered + kept_out is_filtered o e → x.late ≡ old.late + kept_out is_late o e
    → x.consumed ≡ old.consumed + kept_out is_consumed o e →
    x.written ≡ old.written + kept_out is_written o e → x.buffered ≡ old.buffered + kept_out is_buffered o e
    → x.dropped ≡ old.dropped + kept_out is_dropped o e →
    output_total limit o (es ++ e ∷ []) ≡ x
output_plain limit o es e x l v f a c w b d =
    same_numbers (output_total limit o (es ++ e ∷ [])) x
    (omega (arith, count-plain is_filtered limit o es e l v, f))
    (omega (arith, count-plain is_late limit o es e l v, a))
    (omega (arith, count-plain is_consumed limit o es e l v, c))
    (omega (arith, count-plain is_written limit o es e l v, w))
    (omega (arith, count-plain is_buffered limit o es e l v, b))
    (omega (arith, count-plain is_dropped limit o es e l v, d))

-- an entry that does nothing at the output
pub output_stays : (limit o : ℕ) (es : List Entry) (e : Entry) → lane_events_by o e ≡ [] →
    offered_by o e ≡ [] → ((t : Fate → Bool) → kept_out t o e ≡ 0) →
    output_total limit o (es ++ e ∷ []) ≡ output_total limit o es
output_stays limit o es e l v k =
    output_plain limit o es e (output_total limit o es) l v (omega (arith, k is_filtered)) (omega (arith, k is_late))
    (omega (arith, k is_consumed)) (omega (arith, k is_written)) (omega (arith, k is_buffered))
    (omega (arith, k is_dropped))

-- a metric without a view at the output
pub output_filters : (limit o : ℕ) (es : List Entry) (e : Entry) → lane_events_by o e ≡ [] →
    offered_by o e ≡ [] → ((t : Fate → Bool) → kept_out t o e ≡ ones (t fate.Filtered)) →
    output_total limit o (es ++ e ∷ []) ≡ record (output_total limit o es) {
      filtered =
          (output_total limit o es).filtered + 1;
    }
output_filters limit o es e l v k =
    output_plain limit o es e _ l v (omega (arith, k is_filtered)) (omega (arith, k is_late))
    (omega (arith, k is_consumed)) (omega (arith, k is_written)) (omega (arith, k is_buffered))
    (omega (arith, k is_dropped))

-- a metric that came too late, and one that was consumed
pub output_lates : (limit o : ℕ) (es : List Entry) (e : Entry) → lane_events_by o e ≡ [] →
    offered_by o e ≡ [] → ((t : Fate → Bool) → kept_out t o e ≡ ones (t fate.Late)) →
    output_total limit o (es ++ e ∷ []) ≡ late_more (output_total limit o es)
output_lates limit o es e l v k =
    output_plain limit o es e _ l v (omega (arith, k is_filtered)) (omega (arith, k is_late))
    (omega (arith, k is_consumed)) (omega (arith, k is_written)) (omega (arith, k is_buffered))
    (omega (arith, k is_dropped))

pub output_consumes : (limit o : ℕ) (es : List Entry) (e : Entry) → lane_events_by o e ≡ [] →
    offered_by o e ≡ [] → ((t : Fate → Bool) → kept_out t o e ≡ ones (t fate.Consumed)) →
    output_total limit o (es ++ e ∷ []) ≡ consumed_more (output_total limit o es)
output_consumes limit o es e l v k =
    output_plain limit o es e _ l v (omega (arith, k is_filtered)) (omega (arith, k is_late))
    (omega (arith, k is_consumed)) (omega (arith, k is_written)) (omega (arith, k is_buffered))
    (omega (arith, k is_dropped))

-- a batch that is begun
pub output_begins : (limit o : ℕ) (es : List Entry) (e : Entry) (event : LaneEvent) →
    lane_events_by o e ≡ event ∷ [] → offered_by o e ≡ [] → ((t : Fate → Bool) → kept_out t o e ≡ 0) →
    KeepsFates limit (lane_events o es) (lane_events o es ++ event ∷ []) (offers o es)
    → output_total limit o (es ++ e ∷ []) ≡ output_total limit o es
output_begins limit o es e event l v k h =
    same_numbers (output_total limit o (es ++ e ∷ [])) (output_total limit o es)
    (count-keep is_filtered limit o es e event l v (k is_filtered) h)
    (count-keep is_late limit o es e event l v (k is_late) h)
    (count-keep is_consumed limit o es e event l v (k is_consumed) h)
    (count-keep is_written limit o es e event l v (k is_written) h)
    (count-keep is_buffered limit o es e event l v (k is_buffered) h)
    (count-keep is_dropped limit o es e event l v (k is_dropped) h)

-- a view that comes, by which n others are dropped
output_comes : (limit o : ℕ) (es : List Entry) (e : Entry) (view : Offer) (views : List Offer) →
    lane_events_by o e ≡ lane.Push ∷ [] → offered_by o e ≡ view ∷ [] →
    ((t : Fate → Bool) → kept_out t o e ≡ 0) →
    lane.fate_at limit (lane_events o es ++ lane.Push ∷ []) (length (offers o es)) ≡ lane.Buffered
    → Becomes limit (lane_events o es) (lane_events o es ++ lane.Push ∷ []) (offers o es) lane.Dropped views →
    output_total limit o (es ++ e ∷ []) ≡ dropped_more (record (output_total limit o es) {
      buffered =
          (output_total limit o es).buffered + 1;
    }) (length views)
output_comes limit o es e view views l v k new h =
    same_numbers (output_total limit o (es ++ e ∷ [])) (dropped_more (record (output_total limit o es) {
      buffered =
          (output_total limit o es).buffered + 1;
    }) (length views))
    (omega (arith, count-come is_filtered limit o es e view views l v (k is_filtered) new h))
    (omega (arith, count-come is_late limit o es e view views l v (k is_late) new h))
    (omega (arith, count-come is_consumed limit o es e view views l v (k is_consumed) new h))
    (omega (arith, count-come is_written limit o es e view views l v (k is_written) new h))
    (omega (arith, count-come is_buffered limit o es e view views l v (k is_buffered) new h))
    (omega (arith, count-come is_dropped limit o es e view views l v (k is_dropped) new h))

slice_get_first : (xs : List Offer) → 0 < length xs → length (option_to_list (slice_get xs 0)) ≡ 1
slice_get_first [] h = absurd (omega (arith, h))
slice_get_first (x ∷ xs) h = refl

pushed_count : (at : LaneState Offer) → 1 ≤ at.limit → length at.waiting ≤ at.limit → (x : OutputNumbers)
    → dropped_more (record x { buffered = x.buffered + 1 }) (length (option_to_list (pushed_out at))) ≡ buffered_more at
    x
pushed_count at some most x = elim (eq-or-lt_of_le most) [
  | inl e ↦ rw (full (length at.waiting) at.limit e) (ap (dropped_more (record x { buffered = x.buffered + 1 }))
      (slice_get_first at.waiting (omega (arith, e))))
  | inr m ↦ rw (not_full (length at.waiting) at.limit m) (same_numbers
      (dropped_more (record x { buffered = x.buffered + 1 }) 0) (record x { buffered = x.buffered + 1 }) refl refl refl
      refl (omega arith) (omega arith))
]

-- a view is pushed
pub output_pushes : (batch limit o : ℕ) (es : List Entry) (e : Entry) (view : Offer) (at : LaneState Offer)
    → lane_events_by o e ≡ lane.Push ∷ [] → offered_by o e ≡ view ∷ [] → ((t : Fate → Bool) → kept_out t o e ≡ 0) →
    1 ≤ at.limit → length at.waiting ≤ at.limit → Pushes batch limit (lane_events o es) (offers o es) at view
    → output_total limit o (es ++ e ∷ []) ≡ buffered_more at (output_total limit o es)
output_pushes batch limit o es e view at l v k some most h =
    output_comes limit o es e view (option_to_list (pushed_out at)) l v k h.comes h.dropped
    ∙ pushed_count at some most (output_total limit o es)

-- what the views become that leave as a batch is accepted, or fails, and which they are
abbrev pub fate_done : Bool → LaneFate
fate_done true = lane.Written
fate_done false = lane.Dropped

abbrev pub views_done : Bool → LaneState Offer → List Offer
views_done true at = flying at
views_done false at = failed_out at

-- the numbers before and behind that, by how each of them changed
ended_numbers : (ok : Bool) (at : LaneState Offer) (x y : OutputNumbers) →
    let change : (Fate → Bool) → ℕ → ℕ → Type 0 = λ t old new. new + ones (t fate.Buffered) * length
    (views_done ok at) ≡ old + ones (t (fate_of (fate_done ok))) * length (views_done ok at) in
    change is_filtered x.filtered y.filtered → change is_late x.late y.late → change is_consumed x.consumed y.consumed →
    change is_written x.written y.written → change is_buffered x.buffered y.buffered
    → change is_dropped x.dropped y.dropped →
    y ≡ counted_done ok (count_done ok at) x
ended_numbers true at x y f a c w b d = same_numbers y _ (omega (arith, f)) (omega (arith, a)) (omega (arith, c))
    (omega (arith, w)) (omega (arith, b)) (omega (arith, d))
ended_numbers false at x y f a c w b d = same_numbers y _ (omega (arith, f)) (omega (arith, a)) (omega (arith, c))
    (omega (arith, w)) (omega (arith, b)) (omega (arith, d))

-- a batch is accepted, or fails
pub output_ends : (ok : Bool) (limit o : ℕ) (es : List Entry) (e : Entry) (at : LaneState Offer) →
    lane_events_by o e ≡ lane.Done ok ∷ [] → offered_by o e ≡ [] →
    ((t : Fate → Bool) → kept_out t o e ≡ 0) →
    Becomes limit (lane_events o es) (lane_events o es ++ lane.Done ok ∷ []) (offers o es) (fate_done ok)
    (views_done ok at) →
    output_total limit o (es ++ e ∷ []) ≡ counted_done ok (count_done ok at) (output_total limit o es)
output_ends ok limit o es e at l v k h =
    let more : (t : Fate → Bool) → count_by t (fates limit o (es ++ e ∷ [])) + ones (t (fate_of lane.Buffered)) * length
    (views_done ok at) ≡ count_by t (fates limit o es) + ones (t (fate_of (fate_done ok))) * length (views_done ok at) =
    λ t. count-become t limit o es e (lane.Done ok) (fate_done ok) (views_done ok at) l v (k t) h in
    ended_numbers ok at (output_total limit o es) (output_total limit o (es ++ e ∷ [])) (more is_filtered)
    (more is_late) (more is_consumed) (more is_written) (more is_buffered) (more is_dropped)

pub same_totals : (x y : Numbers) → x.inputs ≡ y.inputs → x.made ≡ y.made → x.removed ≡ y.removed →
    x.routed ≡ y.routed → x.outputs ≡ y.outputs → x ≡ y
same_totals x y a b c d e =
    let F : List InputNumbers → Numbers = λ n. record {
      inputs = n;
      made = x.made;
      removed = x.removed;
      routed =
          x.routed;
      outputs = x.outputs;
    } in
    let G : ℕ → Numbers = λ n. record {
      inputs = y.inputs;
      made = n;
      removed = x.removed;
      routed = x.routed;
      outputs =
          x.outputs;
    } in
    let H : ℕ → Numbers = λ n. record {
      inputs = y.inputs;
      made = y.made;
      removed = n;
      routed = x.routed;
      outputs =
          x.outputs;
    } in
    let I : ℕ → Numbers = λ n. record {
      inputs = y.inputs;
      made = y.made;
      removed = y.removed;
      routed = n;
      outputs =
          x.outputs;
    } in
    let J : List OutputNumbers → Numbers = λ n. record {
      inputs = y.inputs;
      made = y.made;
      removed = y.removed;
      routed =
          y.routed;
      outputs = n;
    } in
    ap F a ∙ ap G b ∙ ap H c ∙ ap I d ∙ ap J e

-- numbers that are the totals with one entry more
pub totals-push : (setup : Setup) (journal : List Entry) (e : Entry) (old new : Numbers) →
    old ≡ totals setup journal → new.inputs ≡ (totals setup (journal ++ e ∷ [])).inputs →
    new.made ≡ old.made + made_by e → new.removed ≡ old.removed + removed_by e →
    new.routed ≡ old.routed + routed_by e → new.outputs ≡ (totals setup (journal ++ e ∷ [])).outputs
    → new ≡ totals setup (journal ++ e ∷ [])
totals-push setup journal e old new h a b c d f =
    same_totals new (totals setup (journal ++ e ∷ [])) a
    (b ∙ ap (λ (n : Numbers). n.made + made_by e) h ∙ sym (total_by-push made_by journal e))
    (c ∙ ap (λ (n : Numbers). n.removed + removed_by e) h ∙ sym (total_by-push removed_by journal e))
    (d ∙ ap (λ (n : Numbers). n.routed + routed_by e) h ∙ sym (total_by-push routed_by journal e)) f
