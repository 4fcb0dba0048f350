-- What is true of each sample that is written.
use Rattle.std.proofs.Common.{◌≡◌, ℕ, ◌+◌, ◌<◌, ◌≤◌, Bool, true, false, cond, not, List, [], ◌∷◌, ◌++◌, length, map}
use Rattle.std.proofs.Common.{filter, refl, arith}
use Rattle.std.specs.Prelude.{FitsSigned, codes, nat_eq}
use Rattle.std.specs.Char.{is_ascii_digit}
use Rattle.std.specs.Cmp.Lexicographic.{pointwise}
use Rattle.std.specs.Int.{w64}
use Rattle.std.specs.List.{AllByRecursion, IsDistinct, list_any, flat_map}
use Rattle.std.specs.Ordering.{int_cmp}
use Rattle.std.specs.Str.{IsUtf8, bytes_eq}
use Rattle.std.specs.declared.cmp.Ordering.TheVariants.{Less, Equal, Greater}
use Rattle.std.proofs.lemmas.List.{length-append, length-map}
use Rattle.text_parts.specs.Grammar.{HasNone}
use Rattle.metric.specs.declared.metric.Content.{Content}
use Rattle.fixed_num.proofs.NumberBytes.{all_append}
use Rattle.metric.specs.Draft.{Tag, Field}
use Rattle.metric.specs.Metric.{IsMetric, IsTag, IsField, IsValue}
use Rattle.metric.specs.Pairs.{with_pair, in_first_order, in_first_order_on, first_of_each}
use Rattle.metric.proofs.LawLemmas.{in_first_order-distinct}
use Rattle.metric.proofs.MetricLemmas.{each_pair}
use Rattle.openmetrics_text.specs.Grammar.{IsName}
use Rattle.openmetrics_text.specs.Labels.{has_twice, names_of}
use Rattle.openmetrics_text.specs.Names.{ends_label, ends_name}
use Rattle.metric.specs.Numbers.{is_text}
use Rattle.openmetrics_text.specs.RoundTrip.{HasFewTags}
use Rattle.openmetrics_text.specs.Writing.{clean_byte, cleaned, family_words, family_of, label_of, labels_of, Point}
use Rattle.openmetrics_text.specs.Writing.{point_of, points_of_field, points_of_metric, points_of}
use Rattle.openmetrics_text.specs.Writing.{is_one_series, first_of_series, at_time, with_time, in_time_order_on}
use Rattle.openmetrics_text.specs.Writing.{in_family, series_of, families_of}

-- ---- names

keeps_digits : (ends : ℕ → Bool) → (b : ℕ) → is_ascii_digit b ≡ false → is_ascii_digit (clean_byte ends b) ≡ false
keeps_digits ends b e = elim (ends b) as (λ t. is_ascii_digit (cond t 95 b) ≡ false) [ true ↦ refl | false ↦ e ]

one_clean : (ends : ℕ → Bool) → ends 95 ≡ false → (b : ℕ) → ends (clean_byte ends b) ≡ false
one_clean ends e b = elim (ends b) as (λ t. ends b ≡ t → ends (cond t 95 b) ≡ false)
    [ true ↦ λ is. e | false ↦ λ is. is ] refl

all_clean : (ends : ℕ → Bool) → ends 95 ≡ false → (text : List ℕ) → HasNone ends (map (clean_byte ends) text)
all_clean ends e [] = tt
all_clean ends e (b ∷ text) = (one_clean ends e b, all_clean ends e text)

pub cleaned_name : (ends : ℕ → Bool) → ends 95 ≡ false → (text : List ℕ) → 0 < length text
    → IsName ends (cleaned ends text)
cleaned_name ends e [] some = absurd (omega arith)
cleaned_name ends e (b ∷ text) some = elim (is_ascii_digit b) as
    (λ t. is_ascii_digit b ≡ t → IsName ends (cond t (95 ∷ []) [] ++ clean_byte ends b ∷ map (clean_byte ends) text)) [
      | true ↦ λ is. record { filled = omega arith; no_digit = refl; clean = (e, all_clean ends e (b ∷ text)) }
      | false ↦ λ is. record {
        filled = omega arith;
        no_digit = keeps_digits ends b is;
        clean = all_clean ends e (b ∷ text);
      }
    ] refl

words_some : (name key : List ℕ) → 0 < length name → 0 < length (family_words name key)
words_some name key some = elim (bytes_eq key (codes "value")) as (λ t. 0 < length (cond t name (name ++ 95 ∷ key))) [
  | true ↦ some
  | false ↦ omega (arith, length-append name (95 ∷ key))
]

family_name : (name key : List ℕ) → 0 < length name → IsName ends_name (family_of name key)
unfolding family_of
family_name name key some = cleaned_name ends_name refl (family_words name key) (words_some name key some)

-- ---- labels

-- a label whose value isn't empty
pub record IsLabelTag (tag : Tag) : Type 0 where
  pub name : IsName ends_label tag.0
  pub filled : 0 < length tag.1
  pub utf8 : IsUtf8 tag.1

label_tag : (tag : Tag) → IsTag tag → IsLabelTag (label_of tag)
label_tag tag is = record {
  name = cleaned_name ends_label refl tag.0 (is.0).filled;
  filled = (is.1).filled;
  utf8 = (is.1).utf8;
}

labels_on : (kept tags : List Tag) → AllByRecursion IsLabelTag kept → AllByRecursion IsTag tags
    → AllByRecursion IsLabelTag (in_first_order_on kept (map label_of tags))
unfolding in_first_order_on
labels_on kept [] h k = h
labels_on kept (tag ∷ tags) h k = labels_on (with_pair kept (label_of tag).0 (label_of tag).1) tags
    (each_pair IsLabelTag kept (label_of tag).0 (label_of tag).1 (label_tag tag k.0) h) k.1

one_longer : (pairs : List Tag) (key value : List ℕ) → length (with_pair pairs key value) ≤ length pairs + 1
unfolding with_pair
one_longer [] key value = omega arith
one_longer (pair ∷ pairs) key value = elim (bytes_eq pair.0 key) as
    (λ t. length (cond t ((key, value) ∷ pairs) (pair ∷ with_pair pairs key value)) ≤ length (pair ∷ pairs) + 1) [
      | true ↦ omega arith
      | false ↦ omega (arith, one_longer pairs key value)
    ]

no_longer : (kept given : List Tag) → length (in_first_order_on kept given) ≤ length kept + length given
unfolding in_first_order_on
no_longer kept [] = omega arith
no_longer kept (pair ∷ given) = omega (
  arith,
  one_longer kept pair.0 pair.1,
  no_longer (with_pair kept pair.0 pair.1) given,
)

-- texts that differ from those before them and from each other
abbrev AllApart : List (List ℕ) → List (List ℕ) → Type 0
AllApart before texts = AllByRecursion (λ one. AllByRecursion (λ other. bytes_eq one other ≡ false) texts) before

none_is : (before : List (List ℕ)) (text : List ℕ) (texts : List (List ℕ)) → AllApart before (text ∷ texts)
    → list_any (λ other. bytes_eq other text) before ≡ false
none_is [] text texts h = refl
none_is (one ∷ before) text texts h = rw ((h.0).0) (none_is before text texts h.1)

all_behind : (before : List (List ℕ)) (text : List ℕ) (texts : List (List ℕ)) → AllApart before (text ∷ texts)
    → AllByRecursion (λ other. bytes_eq text other ≡ false) texts → AllApart (before ++ text ∷ []) texts
all_behind [] text texts h k = (k, tt)
all_behind (one ∷ before) text texts h k = ((h.0).1, all_behind before text texts h.1 k)

not_twice : (before texts : List (List ℕ)) → AllApart before texts → IsDistinct (pointwise nat_eq) texts
    → has_twice before texts ≡ false
unfolding has_twice IsDistinct
not_twice before [] h d = refl
not_twice before (text ∷ texts) h d = rw (none_is before text texts h)
    (not_twice (before ++ text ∷ []) texts (all_behind before text texts h d.0) d.1)

-- ---- samples

pub record IsPoint (point : Point) : Type 0 where
  pub family : IsName ends_name point.family
  pub labels : AllByRecursion IsLabelTag point.labels
  pub distinct : has_twice [] (names_of point.labels) ≡ false
  pub few : length point.labels ≤ 64
  pub value : IsValue point.value
  pub no_text : is_text point.value ≡ false
  pub time : FitsSigned w64 point.time

point_is : (m : Content) (field : Field) → IsMetric m → HasFewTags m → IsField field → is_text field.1 ≡ false
    → IsPoint (point_of m field)
unfolding labels_of
point_is m field is few h no_text = record {
  family = family_name m.name field.0 (is.name).filled;
  labels = labels_on [] m.tags tt is.tags;
  distinct = not_twice [] (names_of (in_first_order (map label_of m.tags))) tt
      (in_first_order-distinct (map label_of m.tags));
  few = omega (arith, no_longer [] (map label_of m.tags), length-map m.tags label_of, few);
  value = h.1;
  no_text = no_text;
  time = is.time;
}

points_of_one : (m : Content) (field : Field) → IsMetric m → HasFewTags m → IsField field
    → AllByRecursion IsPoint (points_of_field m field)
points_of_one m field is few h = elim (is_text field.1) as (λ t. is_text field.1 ≡ t
    → AllByRecursion IsPoint (cond t [] (point_of m field ∷ []))) [
      | true ↦ λ e. tt
      | false ↦ λ e. (point_is m field is few h e, tt)
    ] refl

points_of_fields : (m : Content) (fields : List Field) → IsMetric m → HasFewTags m → AllByRecursion IsField fields
    → AllByRecursion IsPoint (flat_map (points_of_field m) fields)
points_of_fields m [] is few h = tt
points_of_fields m (field ∷ fields) is few h = all_append IsPoint (points_of_field m field)
    (flat_map (points_of_field m) fields) (points_of_one m field is few h.0) (points_of_fields m fields is few h.1)

pub points_are : (batch : List Content) → AllByRecursion IsMetric batch → AllByRecursion HasFewTags batch
    → AllByRecursion IsPoint (points_of batch)
unfolding points_of points_of_metric
points_are [] h few = tt
points_are (m ∷ batch) h few = all_append IsPoint (points_of_metric m) (flat_map points_of_metric batch)
    (points_of_fields m m.fields h.0 few.0 (h.0).fields) (points_are batch h.1 few.1)

-- ---- in the order in which they are written

module _ (P : Point → Type 0) where
  all_filter : (test : Point → Bool) (points : List Point) → AllByRecursion P points
      → AllByRecursion P (filter test points)
  all_filter test [] h = tt
  all_filter test (point ∷ points) h = elim (test point) as (λ t. AllByRecursion P
      (cond t (point ∷ filter test points) (filter test points))) [
        | true ↦ (h.0, all_filter test points h.1)
        | false ↦ all_filter test points h.1
      ]

  all_timed : (points : List Point) (new : Point) → P new → AllByRecursion P points
      → AllByRecursion P (with_time points new)
  unfolding with_time
  all_timed [] new p h = (p, tt)
  all_timed (point ∷ points) new p h = elim (int_cmp new.time point.time) as
      (λ o. AllByRecursion P (at_time o new point points (with_time points new))) [
        | Less ↦ (p, h)
        | Equal ↦ (p, h.1)
        | Greater ↦ (h.0, all_timed points new p h.1)
      ]

  all_in_order : (kept points : List Point) → AllByRecursion P kept → AllByRecursion P points
      → AllByRecursion P (in_time_order_on kept points)
  unfolding in_time_order_on
  all_in_order kept [] h k = h
  all_in_order kept (point ∷ points) h k = all_in_order (with_time kept point) points (all_timed kept point k.0 h) k.1

  all_of_series : (firsts points : List Point) → AllByRecursion P points
      → AllByRecursion P (flat_map (λ first. in_time_order_on [] (filter (is_one_series first) points)) firsts)
  all_of_series [] points h = tt
  all_of_series (first ∷ firsts) points h =
      all_append P (in_time_order_on [] (filter (is_one_series first) points))
      (flat_map (λ first. in_time_order_on [] (filter (is_one_series first) points)) firsts)
      (all_in_order [] (filter (is_one_series first) points) tt (all_filter (is_one_series first) points h))
      (all_of_series firsts points h)

  pub all_series : (points : List Point) → AllByRecursion P points → AllByRecursion P (series_of points)
  unfolding series_of
  all_series points h = all_of_series (first_of_series points) points h

  pub all_in_family : (family : List ℕ) (points : List Point) → AllByRecursion P points
      → AllByRecursion P (in_family family points)
  all_in_family family points h = all_filter (λ (point : Point). bytes_eq family point.family) points h

-- the families are names
texts_kept : (P : List ℕ → Type 0) (test : List ℕ → Bool) (texts : List (List ℕ)) → AllByRecursion P texts
    → AllByRecursion P (filter test texts)
texts_kept P test [] h = tt
texts_kept P test (text ∷ texts) h = elim (test text) as (λ t. AllByRecursion P
    (cond t (text ∷ filter test texts) (filter test texts))) [
      | true ↦ (h.0, texts_kept P test texts h.1)
      | false ↦ texts_kept P test texts h.1
    ]

firsts_kept : (P : List ℕ → Type 0) (texts : List (List ℕ)) → AllByRecursion P texts
    → AllByRecursion P (first_of_each texts)
unfolding first_of_each
firsts_kept P [] h = tt
firsts_kept P (text ∷ texts) h = (
  h.0,
  texts_kept P (λ other. not (bytes_eq text other)) (first_of_each texts)
      (firsts_kept P texts h.1),
)

names_are : (points : List Point) → AllByRecursion IsPoint points
    → AllByRecursion (IsName ends_name) (map (λ (point : Point). point.family) points)
names_are [] h = tt
names_are (point ∷ points) h = ((h.0).family, names_are points h.1)

pub families_named : (points : List Point) → AllByRecursion IsPoint points
    → AllByRecursion (IsName ends_name) (families_of points)
families_named points h = firsts_kept (IsName ends_name) (map (λ (point : Point). point.family) points)
    (names_are points h)
