-- What is written of a batch is read back as its samples.
use Rattle.std.proofs.Common.{◌≡◌, ℕ, ℤ, ◌+◌, ◌-◌, ◌<◌, ◌^◌, true, false, List, [], ◌∷◌, ◌++◌, length, map, Ok, refl}
use Rattle.std.proofs.Common.{sym, ap, ◌∙◌, append-nil, arith}
use Rattle.std.specs.Prelude.{codes, min}
use Rattle.std.specs.List.{AllByRecursion, flat_map}
use Rattle.std.proofs.lemmas.Bool.{ne_eqb}
use Rattle.std.proofs.lemmas.List.{map-append}
use Rattle.std.proofs.lemmas.List.Concat.{flat_map-cons}
use Rattle.std.proofs.lemmas.List.Folds.{flat_map-map}
use Rattle.metric.specs.declared.metric.Content.{Content}
use Rattle.metric.specs.declared.value.Value.TheVariants.{Fixed}
use Rattle.metric.specs.Draft.{Tag}
use Rattle.metric.specs.Pairs.{with_values, with_sorted, in_key_order, in_key_order_on}
use Rattle.metric.proofs.MetricLemmas.{each_sorted}
use Rattle.openmetrics_text.specs.Grammar.{WrittenLine, TypeLine, SampleLine, with_newline, exposition_text, AreLines}
use Rattle.openmetrics_text.specs.Grammar.{IsName}
use Rattle.openmetrics_text.specs.Lines.{LineSays, Typed}
use Rattle.openmetrics_text.specs.Names.{ends_name}
use Rattle.openmetrics_text.specs.declared.number.Number.{Number}
use Rattle.openmetrics_text.specs.declared.number.Number.TheVariants.{Decimal}
use Rattle.openmetrics_text.specs.Reading.{reading, contents_of, metrics_from, counted_in, passed_by, out_by}
use Rattle.openmetrics_text.specs.Reading.{exposition_of}
use Rattle.metric.specs.Numbers.{billionths_of}
use Rattle.openmetrics_text.specs.RoundTrip.{content_behind, in_written_order, WrittenIsReadBack}
use Rattle.openmetrics_text.specs.Types.{type_of}
use Rattle.openmetrics_text.specs.Writing.{Point, points_of, families_of, in_family, series_of, point_text, type_text}
use Rattle.openmetrics_text.specs.Writing.{family_text, points_text}
use Rattle.openmetrics_text.proofs.GatherLemmas.{flat_flat, flat_same}
use Rattle.openmetrics_text.proofs.PointLemmas.{IsLabelTag, IsPoint, points_are, all_series, all_in_family}
use Rattle.openmetrics_text.proofs.PointLemmas.{families_named}
use Rattle.openmetrics_text.proofs.Spells.{written_is_read}
use Rattle.openmetrics_text.proofs.WrittenLines.{sample_of, said_of, sample_lines, sample_says, sample_same, type_same}
use Rattle.openmetrics_text.proofs.WrittenLines.{samples_are, type_is, lines_append}
use Rattle.openmetrics_text.proofs.WrittenUtf8.{AreUtf8, type_lines_utf8, lines_utf8}

-- the samples of a family, as they are written
abbrev of_family : List Point → List ℕ → List Point
of_family points family = series_of (in_family family points)

abbrev family_lines : List Point → List ℕ → List WrittenLine
family_lines points family = TypeLine family (codes "unknown") ∷ sample_lines (of_family points family)

abbrev family_says : List Point → List ℕ → List LineSays
family_says points family = Typed family (codes "unknown") ∷ sample_says (of_family points family)

-- ---- the text

family_same : (points : List Point) (family : List ℕ) → flat_map with_newline (family_lines points family) ≡ family_text
    family (in_family family points)
unfolding family_text
family_same points family =
    flat_map-cons with_newline (TypeLine family (codes "unknown")) (sample_lines (of_family points family))
    ∙ ap (λ (text : List ℕ). text ++ flat_map with_newline (sample_lines (of_family points family))) (type_same family)
    ∙ ap (λ (text : List ℕ). type_text family ++ text)
    (flat_map-map with_newline (λ point. SampleLine (sample_of point)) (of_family points family)
    ∙ flat_same (λ point. with_newline (SampleLine (sample_of point))) point_text (of_family points family) sample_same)

text_same : (points : List Point) → exposition_text (flat_map (family_lines points) (families_of points)) true
    ≡ points_text points
unfolding points_text
text_same points =
    ap (λ (text : List ℕ). text ++ codes "# EOF\n")
    (flat_flat with_newline (family_lines points) (families_of points)
    ∙ flat_same (λ family. flat_map with_newline (family_lines points family))
    (λ family. family_text family (in_family family points)) (families_of points) (family_same points))

-- ---- the lines

are_points : (points : List Point) (family : List ℕ) → AllByRecursion IsPoint points
    → AllByRecursion IsPoint (of_family points family)
are_points points family h = all_series IsPoint (in_family family points) (all_in_family IsPoint family points h)

lines_are : (points : List Point) (families : List (List ℕ)) → AllByRecursion IsPoint points
    → AllByRecursion (IsName ends_name) families
    → AreLines false (flat_map (family_lines points) families) (flat_map (family_says points) families)
lines_are points [] h k = tt
lines_are points (family ∷ families) h k =
    let first = type_is family k.0 in
    lines_append (family_lines points family) (flat_map (family_lines points) families) (family_says points family)
    (flat_map (family_says points) families)
    (first.0, first.1, samples_are (of_family points family) (are_points points family h))
    (lines_are points families h k.1)

utf8_append : (one other : List WrittenLine) → AreUtf8 one → AreUtf8 other → AreUtf8 (one ++ other)
utf8_append [] other h k = k
utf8_append (line ∷ one) other h k = (h.0, utf8_append one other h.1 k)

utf8_are : (points : List Point) (families : List (List ℕ)) → AllByRecursion IsPoint points
    → AllByRecursion (IsName ends_name) families
    → AreUtf8 (flat_map (family_lines points) families)
utf8_are points [] h k = tt
utf8_are points (family ∷ families) h k =
    utf8_append (family_lines points family) (flat_map (family_lines points) families)
    (type_lines_utf8 family (of_family points family) (k.0).clean (are_points points family h))
    (utf8_are points families h k.1)

-- ---- the metrics

abbrev HasValue : Tag → Type 0
HasValue tag = 0 < length tag.1

valued_on : (kept tags : List Tag) → AllByRecursion HasValue kept → AllByRecursion IsLabelTag tags
    → AllByRecursion HasValue (in_key_order_on kept tags)
unfolding in_key_order_on
valued_on kept [] h k = h
valued_on kept (tag ∷ tags) h k = valued_on (with_sorted kept tag.0 tag.1) tags
    (each_sorted HasValue kept tag.0 tag.1 (k.0).filled h) k.1

all_stay : (tags : List Tag) → AllByRecursion HasValue tags → with_values tags ≡ tags
all_stay [] h = refl
all_stay (tag ∷ tags) h = rw (ne_eqb (length tag.1) 0 (λ e. absurd (omega (arith, h.0))))
    (ap (λ (ts : List Tag). tag ∷ ts) (all_stay tags h.1))

-- what a sample is read as, with these tags
abbrev with_tags : Point → List Tag → Content
with_tags point tags = record {
  name = point.family;
  tags = tags;
  fields = (codes "value", Fixed (billionths_of point.value)) ∷ [];
  time = point.time;
}

content_is : (moment : ℤ) (kind : List ℕ) (point : Point) → IsPoint point
    → contents_of moment false kind (said_of point) ≡ content_behind point ∷ []
content_is moment kind point is =
    let tags : with_values (in_key_order (point.labels ++ [])) ≡ in_key_order point.labels =
    ap (λ (ts : List Tag). with_values (in_key_order ts)) (append-nil point.labels)
    ∙ all_stay (in_key_order point.labels) (valued_on [] point.labels tt is.labels) in
    ap (λ (ts : List Tag). with_tags point ts ∷ []) tags

metrics_of_points : (moment : ℤ) (types : List Tag) (points : List Point) (more : List LineSays)
    → AllByRecursion IsPoint points
    → metrics_from moment false types (sample_says points ++ more) ≡ map content_behind points
    ++ metrics_from moment false types more
unfolding metrics_from
metrics_of_points moment types [] more h = refl
metrics_of_points moment types (point ∷ points) more h =
    ap (λ (ms : List Content). ms ++ metrics_from moment false types (sample_says points ++ more))
    (content_is moment (type_of point.family types) point h.0)
    ∙ ap (λ (ms : List Content). content_behind point ∷ ms) (metrics_of_points moment types points more h.1)

metrics_are : (moment : ℤ) (types : List Tag) (points : List Point) (families : List (List ℕ))
    → AllByRecursion IsPoint points
    → metrics_from moment false types (flat_map (family_says points) families) ≡ map content_behind
    (flat_map (of_family points) families)
unfolding metrics_from
metrics_are moment types points [] h = refl
metrics_are moment types points (family ∷ families) h =
    metrics_of_points moment (types ++ (family, codes "unknown") ∷ []) (of_family points family)
    (flat_map (family_says points) families) (are_points points family h)
    ∙ ap (λ (ms : List Content). map content_behind (of_family points family) ++ ms)
    (metrics_are moment (types ++ (family, codes "unknown") ∷ []) points families h)
    ∙ sym (map-append content_behind (of_family points family) (flat_map (of_family points) families))

from_none : (n : ℕ) → 0 + n ≡ n
from_none n = omega arith

-- where decimals don't count, none of the points does
module _ (count : Number → ℕ) (no_decimal : (number : ℤ) → count (Decimal number) ≡ 0) where
  none_of_points : (points : List Point) (more : List LineSays)
      → counted_in count (sample_says points ++ more) ≡ counted_in count more
  unfolding counted_in
  none_of_points [] more = refl
  none_of_points (point ∷ points) more =
      ap (λ (n : ℕ). n + counted_in count (sample_says points ++ more)) (no_decimal _)
      ∙ from_none (counted_in count (sample_says points ++ more)) ∙ none_of_points points more

  none_counted : (points : List Point) (families : List (List ℕ))
      → counted_in count (flat_map (family_says points) families) ≡ 0
  unfolding counted_in
  none_counted points [] = refl
  none_counted points (family ∷ families) = none_of_points (of_family points family)
      (flat_map (family_says points) families) ∙ none_counted points families

exposition_is : (moment : ℤ) (points : List Point) → AllByRecursion IsPoint points
    → exposition_of moment false (flat_map (family_says points) (families_of points)) ≡ record
    { metrics = map content_behind (in_written_order points); passed = 0; out_of_range = 0 }
exposition_is moment points h =
    let passed = none_counted passed_by (λ number. refl) points (families_of points) in
    let metrics = metrics_are moment [] points (families_of points) h in
    let out = none_counted out_by (λ number. refl) points (families_of points) in
    λ j. record {
      metrics = metrics j;
      passed = ap (λ (n : ℕ). min n (2 ^ 32 - 1)) passed j;
      out_of_range = ap (λ (n : ℕ). min n (2 ^ 32 - 1)) out j;
    }

pub written_is_read_back : WrittenIsReadBack
written_is_read_back batch moment are few =
    let points : List Point = points_of batch in
    let h = points_are batch are few in
    let named = families_named (points_of batch) h in
    let lines = lines_are (points_of batch) (families_of (points_of batch)) h named in
    let utf8 = lines_utf8 (flat_map (family_lines (points_of batch)) (families_of (points_of batch)))
    (utf8_are (points_of batch) (families_of (points_of batch)) h named) in
    ap (λ (text : List ℕ). reading text moment false false) (sym (text_same (points_of batch)))
    ∙ written_is_read (flat_map (family_lines (points_of batch)) (families_of (points_of batch)))
    (flat_map (family_says (points_of batch)) (families_of (points_of batch))) true moment false false lines utf8
    ∙ ap (λ e. Ok e) (exposition_is moment (points_of batch) h)
