-- How a batch of metrics is written as an exposition.
use Rattle.std.specs.Prelude.{◌==◌, ◌&&◌, ◌||◌, ◌++◌, ℕ, ℤ, Bool, true, false, not, List, [], ◌∷◌, map, filter}
use Rattle.std.specs.Prelude.{flat_map, codes, slice_index, if◌then◌else◌}
use Rattle.std.specs.Char.{is_ascii_digit}
use Rattle.std.specs.Ordering.{int_cmp}
use Rattle.std.specs.Str.{bytes_eq}
use Rattle.std.specs.declared.cmp.Ordering.{Ordering}
use Rattle.std.specs.declared.cmp.Ordering.TheVariants.{Less, Equal, Greater}
use Rattle.text_parts.specs.Bytes.{newline, space, double_quote, comma, equals_sign, backslash, underscore}
use Rattle.text_parts.specs.Bytes.{small_n}
use Rattle.text_parts.specs.Escaped.{Escapes, escaped}
use Rattle.fixed_num.specs.Canonical.{canonical_text}
use Rattle.metric.specs.declared.value.Value.{Value}
use Rattle.metric.specs.declared.metric.Content.{Content}
use Rattle.metric.specs.Draft.{Tag, Field}
use Rattle.metric.specs.Numbers.{is_text, number_text}
use Rattle.metric.specs.Pairs.{in_first_order, in_key_order, first_of_each}
use Rattle.openmetrics_text.specs.Bytes.{left_brace, right_brace}
use Rattle.openmetrics_text.specs.Names.{ends_label, ends_name}

-- ---- names

-- a byte; `_` in place of one outside of an alphabet
abbrev pub clean_byte : (ℕ → Bool) → ℕ → ℕ
clean_byte ends b = if ends b then underscore else b

-- the `_` in front of a text that begins with a digit
abbrev pub digit_mark : List ℕ → List ℕ
digit_mark text = if is_ascii_digit (slice_index text 0) then underscore ∷ [] else []

-- a text as a name
abbrev pub cleaned : (ℕ → Bool) → List ℕ → List ℕ
cleaned ends text = digit_mark text ++ map (clean_byte ends) text

-- the measurement, with the key of a field behind it unless that is `value`
abbrev pub family_words : List ℕ → List ℕ → List ℕ
family_words name key = if bytes_eq key (codes "value") then name else name ++ underscore ∷ key

-- the family of a field
unfoldable pub family_of : List ℕ → List ℕ → List ℕ
family_of name key = cleaned ends_name (family_words name key)

abbrev pub label_of : Tag → Tag
label_of tag = (cleaned ends_label tag.0, tag.1)

-- the labels of tags: of two of one label the last value stays, at the first's place
unfoldable pub labels_of : List Tag → List Tag
labels_of tags = in_first_order (map label_of tags)

-- ---- samples

-- a sample that is written
pub record Point : Type 0 where
  pub family : List ℕ
  pub labels : List Tag
  pub value : Value
  pub time : ℤ

abbrev pub point_of : Content → Field → Point
point_of m field = record {
  family = family_of m.name field.0;
  labels = labels_of m.tags;
  value = field.1;
  time = m.time;
}

-- the sample of a field; a text has none
abbrev pub points_of_field : Content → Field → List Point
points_of_field m field = if is_text field.1 then [] else point_of m field ∷ []

unfoldable pub points_of_metric : Content → List Point
points_of_metric m = flat_map (points_of_field m) m.fields

-- the samples of a batch, in order
unfoldable pub points_of : List Content → List Point
points_of batch = flat_map points_of_metric batch

-- ---- series

-- labels in one order are the same
unfoldable pub same_tags : List Tag → List Tag → Bool
same_tags [] [] = true
same_tags [] (tag ∷ tags) = false
same_tags (tag ∷ tags) [] = false
same_tags (one ∷ tags) (other ∷ others) =
    bytes_eq one.0 other.0 && bytes_eq one.1 other.1 && same_tags tags others

-- two samples of a family are of one series: they have the same set of labels, in whatever order
abbrev pub is_one_series : Point → Point → Bool
is_one_series one other = same_tags (in_key_order one.labels) (in_key_order other.labels)

-- each series where its first sample stands
unfoldable pub first_of_series : List Point → List Point
first_of_series [] = []
first_of_series (point ∷ points) =
    point ∷ filter (λ other. not (is_one_series point other)) (first_of_series points)

abbrev pub at_time : Ordering → Point → Point → List Point → List Point → List Point
at_time Less new first points others = new ∷ first ∷ points
at_time Equal new first points others = new ∷ points
at_time Greater new first points others = first ∷ others

-- one more sample among samples by time, in place of one of its time
unfoldable pub with_time : List Point → Point → List Point
with_time [] new = new ∷ []
with_time (point ∷ points) new = at_time (int_cmp new.time point.time) new point points (with_time points new)

-- samples by time, of two with one time the last
unfoldable pub in_time_order_on : List Point → List Point → List Point
in_time_order_on kept [] = kept
in_time_order_on kept (point ∷ points) = in_time_order_on (with_time kept point) points

abbrev pub in_family : List ℕ → List Point → List Point
in_family family points = filter (λ (point : Point). bytes_eq family point.family) points

-- the samples of a family, series by series, each by time
unfoldable pub series_of : List Point → List Point
series_of points =
    flat_map (λ first. in_time_order_on [] (filter (is_one_series first) points)) (first_of_series points)

-- ---- the text

-- a backslash, a double quote and a newline are escaped
abbrev pub label_escapes : Escapes
label_escapes = record {
  is_mark = λ b. b == backslash || b == double_quote || b == newline;
  written = λ b. if b == newline then small_n else b;
}

-- a text between double quotes, behind the first of these
abbrev pub quoted : List ℕ → List ℕ
quoted text = escaped label_escapes text ++ double_quote ∷ []

abbrev pub written_label : Tag → List ℕ
written_label label = label.0 ++ equals_sign ∷ double_quote ∷ quoted label.1

-- labels, each behind a comma
unfoldable pub more_written : List Tag → List ℕ
more_written [] = []
more_written (label ∷ labels) = comma ∷ (written_label label ++ more_written labels)

-- labels between braces; no braces without a label
abbrev pub written_labels : List Tag → List ℕ
written_labels [] = []
written_labels (label ∷ labels) = left_brace ∷ (written_label label ++ (more_written labels ++ right_brace ∷ []))

-- the time is written as seconds
unfoldable pub point_text : Point → List ℕ
point_text point =
    point.family ++ (written_labels point.labels
    ++ space ∷ (number_text point.value ++ space ∷ (canonical_text point.time ++ newline ∷ [])))

abbrev pub type_text : List ℕ → List ℕ
type_text family = codes "# TYPE " ++ (family ++ codes " unknown\n")

unfoldable pub family_text : List ℕ → List Point → List ℕ
family_text family points = type_text family ++ flat_map point_text (series_of points)

-- the families, each where its first sample stands
abbrev pub families_of : List Point → List (List ℕ)
families_of points = first_of_each (map (λ (point : Point). point.family) points)

-- the exposition of samples
unfoldable pub points_text : List Point → List ℕ
points_text points =
    flat_map (λ family. family_text family (in_family family points)) (families_of points) ++ codes "# EOF\n"

-- the exposition of a batch
abbrev pub batch_text : List Content → List ℕ
batch_text batch = points_text (points_of batch)
