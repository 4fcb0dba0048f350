-- Lines of few tags, whose metrics have as many as they may, and of many.
use Rattle.std.proofs.Common.{◌≡◌, ◌<◌, ◌≤◌, ◌+◌, ℕ, ℤ, true, false, cond, not, List, [], ◌∷◌, length, map, Ok}
use Rattle.std.proofs.Common.{Err}
use Rattle.std.proofs.Common.{refl, sym, ap, subst, ◌∙◌, arith, Some, None}
use Rattle.std.specs.Prelude.{◌==◌, codes, nat_lt, Bool, Option, Result}
use Rattle.std.specs.Str.{is_utf8}
use Rattle.text_parts.specs.Chain.{Fails}
use Rattle.text_parts.specs.declared.error.ReadError.{ReadError}
use Rattle.std.specs.List.{list_any, AllByRecursion}
use Rattle.std.specs.declared.cmp.Ordering.{Ordering}
use Rattle.std.specs.declared.cmp.Ordering.TheVariants.{Less, Equal, Greater}
use Rattle.std.proofs.lemmas.Bool.{le-ltb, ne_eqb}
use Rattle.metric.specs.Draft.{Tag}
use Rattle.metric.specs.Pairs.{beside, in_key_order_on, with_sorted, with_values}
use Rattle.metric.specs.declared.metric.Content.{Content}
use Rattle.metric.proofs.PairLemmas.{key_cmp}
use Rattle.metric.proofs.LawLemmas.{in_key_order_on-grows}
use Rattle.statsd_text.specs.declared.fault.StatsdFault.{StatsdFault}
use Rattle.statsd_text.specs.declared.fault.StatsdKind.TheVariants.{TooMany}
use Rattle.statsd_text.specs.declared.said.Said.{Said}
use Rattle.statsd_text.specs.declared.said.MetricType.{MetricType}
use Rattle.statsd_text.specs.declared.said.MetricType.TheVariants.{Counter, Gauge, Timing, Set}
use Rattle.statsd_text.specs.Said.{type_name}
use Rattle.statsd_text.specs.Reading.{has_too_many, limited, reading, text_reading, type_tag}
use Rattle.statsd_text.specs.declared.read.LineSaid.{LineSaid}
use Rattle.statsd_text.specs.Views.{IsUntold, SaysIf}
use Rattle.statsd_text.specs.TagMap.{kept_content, part_tags, HasValue}

one_more : (tags : List Tag) (key value : List ℕ) → length (with_sorted tags key value) ≤ length tags + 1
unfolding with_sorted
one_more [] key value = omega arith
one_more (tag ∷ tags) key value = by_order (one_more tags key value) (key_cmp tag.0 key)
  where
    by_order : length (with_sorted tags key value) ≤ length tags + 1 → (o : Ordering)
        → length (beside o tag (key, value) tags (with_sorted tags key value)) ≤ length (tag ∷ tags) + 1
    by_order rest Less = omega (arith, rest)
    by_order rest Equal = omega arith
    by_order rest Greater = omega arith

fewer : (tags : List Tag) → length (with_values tags) ≤ length tags
fewer [] = omega arith
fewer (tag ∷ tags) =
    let rest = fewer tags in
    elim (length tag.1 == 0) as (λ t. length (cond (not t) (tag ∷ with_values tags) (with_values tags))
    ≤ length (tag ∷ tags)) [ true ↦ omega (arith, rest) | false ↦ omega (arith, rest) ]

pub none_too_many : (name : List ℕ) (tags : List Tag) (moment : ℤ) (said : List Said) → length tags < 64
    → list_any has_too_many (map (kept_content name tags moment) said) ≡ false
none_too_many name tags moment [] few = refl
none_too_many name tags moment (one ∷ said) few =
    let all = with_sorted tags (type_tag one).0 (type_tag one).1 in
    let here : nat_lt 64 (length (with_values all)) ≡ false =
    le-ltb 64 (length (with_values all)) (omega (
      arith,
      few,
      fewer all,
      one_more tags (type_tag one).0
          (type_tag one).1,
    )) in
    rw here (none_too_many name tags moment said few)

pub few_limited : (name : List ℕ) (tags : List Tag) (moment : ℤ) (said : List Said) → length tags < 64
    → limited (map (kept_content name tags moment) said) ≡ Ok (map (kept_content name tags moment) said)
few_limited name tags moment said few = rw (none_too_many name tags moment said few) refl

-- ---- lines of many tags

-- tags that have a value are kept
all_kept : (tags : List Tag) → AllByRecursion HasValue tags → with_values tags ≡ tags
all_kept [] h = refl
all_kept (tag ∷ tags) h = rw (ne_eqb (length tag.1) 0 (λ e. absurd (omega (arith, e, h.0))), all_kept tags h.1) refl

-- and one that has a value may be among them
valued_more : (tags : List Tag) (key value : List ℕ) → 0 < length value → AllByRecursion HasValue tags
    → AllByRecursion HasValue (with_sorted tags key value)
unfolding with_sorted
valued_more [] key value some h = (some, tt)
valued_more (tag ∷ tags) key value some h = by_order (valued_more tags key value some h.1) (key_cmp tag.0 key)
  where
    by_order : AllByRecursion HasValue (with_sorted tags key value) → (o : Ordering)
        → AllByRecursion HasValue (beside o tag (key, value) tags (with_sorted tags key value))
    by_order rest Less = (h.0, rest)
    by_order rest Equal = (some, h.1)
    by_order rest Greater = (some, h)

-- the tag of a type takes no other away
no_fewer : (tags : List Tag) (metric_type : MetricType) → AllByRecursion HasValue tags
    → length tags ≤ length (part_tags tags metric_type)
unfolding in_key_order_on
no_fewer tags metric_type h =
    let key = codes "metric_type" in
    let value = type_name metric_type in
    let kept = all_kept (with_sorted tags key value) (valued_more tags key value (named metric_type) h) in
    omega (arith, in_key_order_on-grows tags ((key, value) ∷ []), ap length kept)
  where
    named : (t : MetricType) → 0 < length (type_name t)
    named Counter = omega arith
    named Gauge = omega arith
    named Timing = omega arith
    named Set = omega arith

-- so a line of 64 tags or more has metrics of as many, or too many
pub many_untold : (name : List ℕ) (tags : List Tag) (moment : ℤ) (said : List Said) → 64 ≤ length tags
    → AllByRecursion HasValue tags → IsUntold (limited (map (kept_content name tags moment) said))
many_untold name tags moment said many h = by_limit (list_any has_too_many (map (kept_content name tags moment) said))
  where
    each : (said : List Said)
        → AllByRecursion (λ (metric : Content). 64 ≤ length metric.tags) (map (kept_content name tags moment) said)
    each [] = tt
    each (one ∷ said) = (omega (arith, many, no_fewer tags one.metric_type h), each said)

    by_limit : (t : Bool)
        → IsUntold (cond t (Err (record { kind = TooMany; offset = 0 }))
        (Ok (map (kept_content name tags moment) said)))
    by_limit true = refl
    by_limit false = each said

-- ---- what is said of a text, and of a piece that is this text

pub says_utf8 : (r : Result (Option LineSaid) (ReadError StatsdFault)) (piece text : List ℕ)
    → (text ≡ piece) × (is_utf8 piece ≡ true) → SaysIf r (text_reading text) → SaysIf r (reading piece)
unfolding reading
says_utf8 (Ok None) piece text is h =
    λ moment. rw (is.1) (subst (λ (t : List ℕ). IsUntold (text_reading t moment)) is.0 (h moment))
says_utf8 (Ok (Some line)) piece text is h =
    λ moment. rw (is.1) (ap (λ (t : List ℕ). text_reading t moment) (sym is.0) ∙ h moment)
says_utf8 (Err e) piece text is h =
    λ moment. rw (is.1) (subst (λ (t : List ℕ). Fails e (text_reading t moment)) is.0 (h moment))
