-- The tags that were read.
use Rattle.std.specs.Prelude.{◌≡◌, ◌<◌, ℕ, ℤ, false, List, [], ◌∷◌, codes, length}
use Rattle.metric.specs.Draft.{Tag}
use Rattle.metric.specs.Pairs.{has_empty_key, with_sorted, with_values, IsInKeyOrder}
use Rattle.metric.specs.declared.metric.Content.{Content}
use Rattle.statsd_text.specs.declared.said.Said.{Said}
use Rattle.statsd_text.specs.declared.said.MetricType.{MetricType}
use Rattle.statsd_text.specs.Said.{field_name, type_name}

-- the keys rise, and none of them is empty
pub record IsKeyed (tags : List Tag) : Type 0 where
  pub sorted : IsInKeyOrder tags
  pub filled : has_empty_key tags ≡ false

-- its value isn't empty
abbrev pub HasValue : Tag → Type 0
HasValue tag = 0 < length tag.1

-- the tags of a part of a type, by those of its line, which are in the order of their keys
abbrev pub part_tags : List Tag → MetricType → List Tag
part_tags tags metric_type = with_values (with_sorted tags (codes "metric_type") (type_name metric_type))

-- the metric of a part, with tags that are in the order of their keys
abbrev pub kept_content : List ℕ → List Tag → ℤ → Said → Content
kept_content name tags moment said = record {
  name = name;
  tags = part_tags tags said.metric_type;
  fields = (field_name said.field, said.value) ∷ [];
  time = moment;
}
