-- Reading a line: its head, its tags, its parts from left to right; the first fault counts.
use Rattle.std.specs.Prelude.{ℕ, ℤ, Bool, List, [], ◌∷◌, ◌++◌, length, map, nat_lt, codes, Result, Ok}
use Rattle.std.specs.Prelude.{if◌then◌else◌}
use Rattle.std.specs.List.{list_any, list_all}
use Rattle.std.specs.Str.{is_utf8}
use Rattle.std.specs.Str.Lossy.{utf8_valid_len}
use Rattle.text_parts.specs.Bytes.{space, colon}
use Rattle.text_parts.specs.Chain.{◌>>=◌}
use Rattle.text_parts.specs.Split.{is_byte, parts_of, each}
use Rattle.metric.specs.declared.metric.Content.{Content}
use Rattle.metric.specs.Draft.{Tag}
use Rattle.metric.specs.Pairs.{in_key_order, with_values}
use Rattle.statsd_text.specs.declared.fault.StatsdFault.{StatsdFault}
use Rattle.statsd_text.specs.declared.fault.StatsdKind.TheVariants.{NotUtf8, TooMany}
use Rattle.statsd_text.specs.declared.said.Said.{Said}
use Rattle.statsd_text.specs.Sections.{fault, sections}
use Rattle.statsd_text.specs.Tags.{head_of, later_tags}
use Rattle.statsd_text.specs.Said.{type_name, field_name, part_of}

-- the tag of a metric's type, over all others
abbrev pub type_tag : Said → Tag
type_tag said = (codes "metric_type", type_name said.metric_type)

-- the metric of a part: the last tag of a key counts, and no tag's value is empty
abbrev pub content_of : List ℕ → List Tag → ℤ → Said → Content
content_of name tags moment said = record {
  name = name;
  tags = with_values (in_key_order (tags ++ type_tag said ∷ []));
  fields = (field_name said.field, said.value) ∷ [];
  time = moment;
}

-- a metric has at most 64 tags
abbrev pub has_too_many : Content → Bool
has_too_many metric = nat_lt 64 (length metric.tags)

abbrev pub limited : List Content → Result (List Content) StatsdFault
limited metrics = if list_any has_too_many metrics then fault TooMany 0 else Ok metrics

-- the metrics of a line, one for each part
unfoldable pub line_reading : List ℕ → ℤ → Result (List Content) StatsdFault
line_reading piece moment = do
  line ← sections piece
  head ← head_of line.head
  later ← later_tags line.tags
  said ← each part_of (parts_of colon line.parts)
  limited (map (content_of head.0 (head.1 ++ later) moment) said)

-- nothing but spaces
abbrev pub is_blank : List ℕ → Bool
is_blank piece = list_all (is_byte space) piece

-- the metrics of a text; one that is blank has none
unfoldable pub text_reading : List ℕ → ℤ → Result (List Content) StatsdFault
text_reading piece moment = if is_blank piece then Ok [] else line_reading piece moment

-- the metrics of a piece; it has to be UTF-8, else the fault is at the end of its longest front that is
unfoldable pub reading : List ℕ → ℤ → Result (List Content) StatsdFault
reading piece moment =
    if is_utf8 piece then text_reading piece moment else fault NotUtf8 (utf8_valid_len piece)
