-- Series whose names are filled, with tags in the order of their keys; and what is taken of parts.
use Rattle.std.proofs.Common.{◌≡◌, ◌∙◌, ◌<◌, ℕ, ℤ, List, [], ◌∷◌, arith, ap, false, length, refl, sym}
use Rattle.std.specs.Prelude.{◌==◌, codes, Some}
use Rattle.std.specs.List.{AllByRecursion}
use Rattle.std.proofs.lemmas.Bool.{ne_eqb}
use Rattle.metric.specs.Draft.{Tag}
use Rattle.metric.specs.Metric.{IsMetric, IsTag}
use Rattle.metric.specs.Pairs.{has_empty_key, value_at, with_sorted}
use Rattle.metric.specs.declared.metric.Content.{Content}
use Rattle.metric.proofs.LawLemmas.{with_sorted-value}
use Rattle.agg_keep.specs.Spot.{series_of}
use Rattle.statsd_text.specs.declared.said.MetricType.{MetricType}
use Rattle.statsd_text.specs.declared.said.MetricType.TheVariants as types
use Rattle.statsd_text.specs.declared.said.Said.{Said}
use Rattle.statsd_text.specs.Said.{field_name, type_name}
use Rattle.statsd_text.specs.TagMap.{kept_content, part_tags, HasValue, IsKeyed}
use Rattle.statsd_text.proofs.KeptTags.{keyed_more, keyed_values, more_stay, values_have}
use Rattle.statsd_server.specs.declared.kind.Kind.{Kind}
use Rattle.statsd_server.specs.Marked.{IsSound}
use Rattle.statsd_server.specs.Parts.{change_of, field_change, kind_named, kind_of, kind_said, kind_said_by}
use Rattle.statsd_server.specs.Parts.{said_change}

-- ---- those of metrics

filled_keys : (tags : List Tag) → AllByRecursion IsTag tags → has_empty_key tags ≡ false
filled_keys [] h = refl
filled_keys (tag ∷ tags) h =
    let here : (length tag.0 == 0) ≡ false =
    ne_eqb _ _ (λ e. absurd (let some = h.0.0.filled in omega arith)) in
    rw here (filled_keys tags h.1)

filled_values : (tags : List Tag) → AllByRecursion IsTag tags → AllByRecursion HasValue tags
filled_values [] h = tt
filled_values (tag ∷ tags) h = (h.0.1.filled, filled_values tags h.1)

pub sound_metric : (m : Content) → IsMetric m → IsSound (series_of m)
sound_metric m h = record {
  named = h.name.filled;
  keyed = record { sorted = h.sorted; filled = filled_keys m.tags h.tags };
  valued = filled_values m.tags h.tags;
}

-- ---- those of lines

pub sound_said : (name : List ℕ) (tags : List Tag) (metric_type : MetricType) → 0 < length name → IsKeyed tags
    → IsSound (name, part_tags tags metric_type)
sound_said name tags metric_type named keyed = record {
  named = named;
  keyed = keyed_values (with_sorted tags (codes "metric_type") (type_name metric_type))
      (keyed_more tags (codes "metric_type") (type_name metric_type) (omega arith) keyed);
  valued = values_have (with_sorted tags (codes "metric_type") (type_name metric_type));
}

name_filled : (metric_type : MetricType) → 0 < length (type_name metric_type)
name_filled types.Counter = omega arith
name_filled types.Gauge = omega arith
name_filled types.Timing = omega arith
name_filled types.Set = omega arith

named_kind : (metric_type : MetricType) → kind_named (type_name metric_type) ≡ kind_said_by metric_type
named_kind types.Counter = refl
named_kind types.Gauge = refl
named_kind types.Timing = refl
named_kind types.Set = refl

-- the tag of the type stands among the tags of a part
type_at : (tags : List Tag) (metric_type : MetricType) → AllByRecursion HasValue tags
    → value_at (part_tags tags metric_type) (codes "metric_type") ≡ Some (type_name metric_type)
type_at tags metric_type valued =
    ap (λ (all : List Tag). value_at all (codes "metric_type"))
    (sym (more_stay tags (codes "metric_type") (type_name metric_type) valued (name_filled metric_type)))
    ∙ with_sorted-value tags (codes "metric_type") (type_name metric_type) (codes "metric_type")

kind_is : (tags : List Tag) (metric_type : MetricType) → AllByRecursion HasValue tags
    → kind_of (part_tags tags metric_type) ≡ kind_said_by metric_type
unfolding kind_of
kind_is tags metric_type valued = ap kind_said (type_at tags metric_type valued) ∙ named_kind metric_type

-- what a part says, by its line
pub said_is : (name : List ℕ) (tags : List Tag) (moment : ℤ) (said : Said) → AllByRecursion HasValue tags
    → change_of (kept_content name tags moment said) ≡ said_change said
unfolding change_of
said_is name tags moment said valued =
    ap (λ (kind : Kind). field_change kind (field_name said.field, said.value)) (kind_is tags said.metric_type valued)
