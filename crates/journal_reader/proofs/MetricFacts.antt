-- What was read as a metric is one.
use Rattle.std.proofs.Common.{◌≡◌, ℕ, ℤ, ◌<◌, ◌^◌, Bool, true, false, cond, not, List, [], ◌∷◌, length, Option, Some}
use Rattle.std.proofs.Common.{None}
use Rattle.std.proofs.Common.{Result, Ok, Err, refl, subst, arith}
use Rattle.std.specs.Prelude.{◌==◌, ◌&&◌, map, option_map, codes, FitsSigned}
use Rattle.std.specs.Int.{w64}
use Rattle.std.specs.List.{AllByRecursion, slice_split}
use Rattle.std.specs.List.Sorted.{IsStrictlySortedBy}
use Rattle.std.specs.Ordering.{is_lt, nat_cmp}
use Rattle.std.specs.declared.cmp.Ordering.{Ordering}
use Rattle.std.specs.declared.cmp.Ordering.TheVariants.{Less, Equal, Greater}
use Rattle.std.specs.Cmp.Lexicographic.{slice_cmp}
use Rattle.std.specs.Str.{IsUtf8, is_utf8, bytes_eq}
use Rattle.std.proofs.lemmas.Bool.{and_parts}
use Rattle.std.proofs.lemmas.Cmp.{nat_list_cmp_total}
use Rattle.std.proofs.lemmas.Str.{IsUtf8-from_is_utf8}
use Rattle.fixed_num.specs.declared.fixed.NumFault.{NumFault}
use Rattle.fixed_num.specs.Fixed.{read_as}
use Rattle.fixed_num.specs.Range.{InRange}
use Rattle.fixed_num.specs.Whole.{int_read_as, uint_read_as}
use Rattle.text_parts.specs.Bytes.{equals_sign, bar}
use Rattle.text_parts.specs.Split.{is_byte}
use Rattle.metric.specs.declared.metric.Content.{Content}
use Rattle.metric.specs.declared.value.Value.{Value}
use Rattle.metric.specs.declared.value.Value.TheVariants as value
use Rattle.metric.specs.Metric.{IsMetric, IsFilled, IsValue, IsTag, IsField}
use Rattle.journal_reader.specs.Words.{◌>>=◌, Parts, each, cut}
use Rattle.journal_reader.specs.MetricReading.{unescaped, text_of, said, plain_value_of, value_of, pair_of, tag_of}
use Rattle.journal_reader.specs.MetricReading.{field_of, series_of, content_of, is_filled, are_tags, are_fields}
use Rattle.journal_reader.specs.MetricReading.{is_metric, semicolon}
use Rattle.journal_reader.proofs.KeyLemmas.{all_filled, fields_differ}
use Rattle.journal_reader.proofs.WordLemmas.{bind_some, held, same_some, int_fits, uint_fits, fixed_fits}

abbrev Tag : Type 0
Tag = List ℕ × List ℕ

abbrev Field : Type 0
Field = List ℕ × Value

-- ---- texts are UTF-8, and numbers in their ranges

text_utf8 : (written text : List ℕ) → text_of written ≡ Some text → IsUtf8 text
unfolding text_of
text_utf8 written text e =
    let parts = held (is_utf8 (unescaped written)) (Some (unescaped written)) text e in
    subst IsUtf8 (same_some (unescaped written) text parts.1) (IsUtf8-from_is_utf8 (unescaped written) parts.0)

pub each_all : {A : Type 0} (P : A → Type 0) (says : List ℕ → Option A)
    → ((part : List ℕ) (x : A) → says part ≡ Some x → P x) → (parts : Parts) (xs : List A)
    → each says parts ≡ Some xs → AllByRecursion P xs
unfolding each
each_all P says one [] xs e = subst (AllByRecursion P) (same_some [] xs e) tt
each_all {A} P says one (part ∷ parts) xs e =
    let first = bind_some (says part) (λ x. each says parts >>= λ others. Some (x ∷ others)) xs e in
    let rest = bind_some (each says parts) (λ (others : List A). Some (first.0 ∷ others)) xs first.2 in
    subst (AllByRecursion P) (same_some (first.0 ∷ rest.0) xs rest.2)
    (one part first.0 first.1, each_all P says one parts rest.0 rest.1)

-- a value that a number is
said_value : {N : Type 0} (P : N → Type 0) (make : N → Value) (r : Result N NumFault) (v : Value)
    → ((n : N) → r ≡ Ok n → P n) → ((n : N) → P n → IsValue (make n)) → option_map make (said r) ≡ Some v → IsValue v
said_value P make (Ok n) v fits is e = subst IsValue (same_some (make n) v e) (is n (fits n refl))
said_value P make (Err fault) v fits is e = absurd cc

plain_value_fits : (written : List ℕ) (v : Value) → plain_value_of written ≡ Some v → IsValue v
unfolding plain_value_of
plain_value_fits [] v e = absurd cc
plain_value_fits (b ∷ rest) v e =
    at (b == 105) (b == 117) (b == 102) (bytes_eq (b ∷ rest) (codes "bt")) (bytes_eq (b ∷ rest) (codes "bf")) e
  where
    at : (i u f t n : Bool)
        → cond i (option_map value.Int (said (int_read_as rest)))
        (cond u (option_map value.Uint (said (uint_read_as rest)))
        (cond f (option_map value.Fixed (said (read_as rest)))
        (cond t (Some (value.«Bool» true)) (cond n (Some (value.«Bool» false)) None)))) ≡ Some v → IsValue v
    at true u f t n e = said_value (FitsSigned w64) value.Int (int_read_as rest) v (int_fits rest) (λ z h. h) e
    at false true f t n e =
        said_value (λ (k : ℕ). k < 2 ^ 64) value.Uint (uint_read_as rest) v (uint_fits rest) (λ k h. h) e
    at false false true t n e = said_value InRange value.Fixed (read_as rest) v (fixed_fits rest) (λ z h. h) e
    at false false false true n e = subst IsValue (same_some (value.«Bool» true) v e) tt
    at false false false false true e = subst IsValue (same_some (value.«Bool» false) v e) tt
    at false false false false false e = absurd cc

value_fits : (written : List ℕ) (v : Value) → value_of written ≡ Some v → IsValue v
unfolding value_of
value_fits [] v e = absurd cc
value_fits (b ∷ rest) v e = at (b == 115) (text_of rest) refl e
  where
    at : (s : Bool) (text : Option (List ℕ)) → text_of rest ≡ text
        → cond s (option_map value.Text text) (plain_value_of (b ∷ rest)) ≡ Some v → IsValue v
    at true (Some text) is e = subst IsValue (same_some (value.Text text) v e) (text_utf8 rest text is)
    at true None is e = absurd cc
    at false text is e = plain_value_fits (b ∷ rest) v e

pair_fits : {A : Type 0} (says : List ℕ → Option A) (P : A → Type 0) (written : List ℕ) (pair : List ℕ × A)
    → ((word : List ℕ) (x : A) → says word ≡ Some x → P x) → pair_of says written ≡ Some pair
    → IsUtf8 pair.0 × P pair.1
unfolding pair_of
pair_fits {A} says P written pair fits e =
    let parts = bind_some (cut equals_sign written)
    (λ parts. text_of parts.0 >>= λ key. says parts.1 >>= λ said. Some (key, said)) pair e in
    let key = bind_some (text_of parts.0.0) (λ key. says parts.0.1 >>= λ said. Some (key, said)) pair parts.2 in
    let said = bind_some (says parts.0.1) (λ (x : A). Some (key.0, x)) pair key.2 in
    subst (λ (p : List ℕ × A). IsUtf8 p.0 × P p.1) (same_some (key.0, said.0) pair said.2)
    (text_utf8 parts.0.0 key.0 key.1, fits parts.0.1 said.0 said.1)

abbrev AreUtf8 : Tag → Type 0
AreUtf8 tag = IsUtf8 tag.0 × IsUtf8 tag.1

tag_fits : (written : List ℕ) (tag : Tag) → tag_of written ≡ Some tag → AreUtf8 tag
unfolding tag_of
tag_fits written tag e = pair_fits text_of IsUtf8 written tag text_utf8 e

abbrev FitsField : Field → Type 0
FitsField field = IsUtf8 field.0 × IsValue field.1

field_fits : (written : List ℕ) (field : Field) → field_of written ≡ Some field → FitsField field
unfolding field_of
field_fits written field e = pair_fits value_of IsValue written field value_fits e

-- what is so of each content that was read
pub record FitsContent (m : Content) : Type 0 where
  pub name : IsUtf8 m.name
  pub tags : AllByRecursion AreUtf8 m.tags
  pub fields : AllByRecursion FitsField m.fields
  pub time : FitsSigned w64 m.time

abbrev FitsSeries : List ℕ × List Tag → Type 0
FitsSeries series = IsUtf8 series.0 × AllByRecursion AreUtf8 series.1

series_fits : (parts : Parts) (series : List ℕ × List Tag) → series_of parts ≡ Some series → FitsSeries series
unfolding series_of
series_fits [] series e = absurd cc
series_fits (name ∷ tags) series e =
    let named = bind_some (text_of name) (λ n. each tag_of tags >>= λ ts. Some (n, ts)) series e in
    let tagged = bind_some (each tag_of tags) (λ (ts : List Tag). Some (named.0, ts)) series named.2 in
    subst FitsSeries (same_some (named.0, tagged.0) series tagged.2)
    (text_utf8 name named.0 named.1, each_all AreUtf8 tag_of tag_fits tags tagged.0 tagged.1)

said_fits : (text : List ℕ) (z : ℤ) → said (int_read_as text) ≡ Some z → FitsSigned w64 z
said_fits text z = at (int_read_as text) refl
  where
    at : (r : Result ℤ NumFault) → int_read_as text ≡ r → said r ≡ Some z → FitsSigned w64 z
    at (Ok n) is e = subst (FitsSigned w64) (same_some n z e) (int_fits text n is)
    at (Err fault) is e = absurd cc

abbrev content : List ℕ × List Tag → List Field → ℤ → Content
content series fields time = record { name = series.0; tags = series.1; fields = fields; time = time }

pub content_fits : (word : List ℕ) (m : Content) → content_of word ≡ Some m → FitsContent m
unfolding content_of
content_fits word m e =
    let series = bind_some (cut bar word)
    (λ series. cut bar series.1 >>= λ parts. series_of (slice_split (is_byte semicolon) series.0) >>= λ named.
    each field_of (slice_split (is_byte semicolon) parts.0) >>= λ fields. said (int_read_as parts.1) >>= λ time.
    Some (content named fields time)) m e in
    let parts = bind_some (cut bar series.0.1)
    (λ parts. series_of (slice_split (is_byte semicolon) series.0.0) >>= λ named.
    each field_of (slice_split (is_byte semicolon) parts.0) >>= λ fields. said (int_read_as parts.1) >>= λ time.
    Some (content named fields time)) m series.2 in
    let named = bind_some (series_of (slice_split (is_byte semicolon) series.0.0))
    (λ named. each field_of (slice_split (is_byte semicolon) parts.0.0) >>= λ fields.
    said (int_read_as parts.0.1) >>= λ time. Some (content named fields time)) m parts.2 in
    let fields = bind_some (each field_of (slice_split (is_byte semicolon) parts.0.0))
    (λ fields. said (int_read_as parts.0.1) >>= λ time. Some (content named.0 fields time)) m named.2 in
    let time =
    bind_some (said (int_read_as parts.0.1)) (λ (time : ℤ). Some (content named.0 fields.0 time)) m fields.2 in
    let fit = series_fits (slice_split (is_byte semicolon) series.0.0) named.0 named.1 in
    subst FitsContent (same_some (content named.0 fields.0 time.0) m time.2) (record {
      name = fit.0;
      tags = fit.1;
      fields = each_all FitsField field_of field_fits (slice_split (is_byte semicolon) parts.0.0) fields.0 fields.1;
      time = said_fits parts.0.1 time.0 time.1;
    })

-- ---- keys rise, and are distinct

not_empty : (text : List ℕ) → is_filled text ≡ true → IsFilled text
not_empty [] e = absurd cc
not_empty (b ∷ bs) e = omega arith

less : (o : Ordering) → is_lt o ≡ true → o ≡ Less
less Less e = refl
less Equal e = absurd cc
less Greater e = absurd cc

abbrev key_cmp : List ℕ → List ℕ → Ordering
key_cmp = slice_cmp nat_cmp

abbrev keys : List Tag → List (List ℕ)
keys tags = map (λ (tag : Tag). tag.0) tags

all_less : (a b : List ℕ) (tags : List Tag) → key_cmp a b ≡ Less
    → AllByRecursion (λ k. key_cmp b k ≡ Less) (keys tags) → AllByRecursion (λ k. key_cmp a k ≡ Less) (keys tags)
all_less a b [] first h = tt
all_less a b (tag ∷ tags) first h = (nat_list_cmp_total.trans a b tag.0 first h.0, all_less a b tags first h.1)

-- a key above another isn't empty
above : (a b : List ℕ) → key_cmp a b ≡ Less → IsFilled b
above [] [] e = absurd cc
above (x ∷ a) [] e = absurd cc
above a (y ∷ b) e = omega arith

record Rise (before : List ℕ) (tags : List Tag) : Type 0 where
  above : AllByRecursion (λ k. key_cmp before k ≡ Less) (keys tags)
  sorted : IsStrictlySortedBy key_cmp (keys tags)
  tags_are : AllByRecursion IsTag tags

tags_rise : (before : List ℕ) (tags : List Tag) → are_tags before tags ≡ true → AllByRecursion AreUtf8 tags
    → Rise before tags
unfolding are_tags IsStrictlySortedBy
tags_rise before [] e utf8 = record { above = tt; sorted = tt; tags_are = tt }
tags_rise before (tag ∷ tags) e utf8 =
    let all = and_parts (is_filled tag.1 && is_lt (key_cmp before tag.0)) (are_tags tag.0 tags) e in
    let first = and_parts (is_filled tag.1) (is_lt (key_cmp before tag.0)) all.0 in
    let lower : key_cmp before tag.0 ≡ Less = less (key_cmp before tag.0) first.1 in
    let rest = tags_rise tag.0 tags all.1 utf8.1 in
    record {
      above = (lower, all_less before tag.0 tags lower rest.above);
      sorted = (rest.above, rest.sorted);
      tags_are = (
        (
          record { filled = above before tag.0 lower; utf8 = utf8.0.0 },
          record { filled = not_empty tag.1 first.0; utf8 = utf8.0.1 },
        ),
        rest.tags_are,
      );
    }

fields_are : (fields : List Field) → all_filled fields ≡ true → AllByRecursion FitsField fields
    → AllByRecursion IsField fields
fields_are [] e fit = tt
fields_are (field ∷ fields) e fit =
    let parts = and_parts (is_filled field.0) (all_filled fields) e in
    ((record { filled = not_empty field.0 parts.0; utf8 = fit.0.0 }, fit.0.1), fields_are fields parts.1 fit.1)

some_fields : (fields : List Field) → not (length fields == 0) ≡ true → 0 < length fields
some_fields [] e = absurd cc
some_fields (field ∷ fields) e = omega arith

-- what was read, and passes the tests, is a metric
pub metric_fits : (word : List ℕ) (m : Content) → content_of word ≡ Some m → is_metric m ≡ true → IsMetric m
unfolding is_metric
metric_fits word m read e =
    let fit = content_fits word m read in
    let last =
    and_parts (is_filled m.name && are_tags [] m.tags && not (length m.fields == 0)) (are_fields [] m.fields) e in
    let third = and_parts (is_filled m.name && are_tags [] m.tags) (not (length m.fields == 0)) last.0 in
    let second = and_parts (is_filled m.name) (are_tags [] m.tags) third.0 in
    let rise = tags_rise [] m.tags second.1 fit.tags in
    let differ = fields_differ [] m.fields last.1 in
    record {
      name = record { filled = not_empty m.name second.0; utf8 = fit.name };
      tags = rise.tags_are;
      sorted = rise.sorted;
      some = some_fields m.fields third.1;
      fields = fields_are m.fields differ.filled fit.fields;
      distinct = differ.distinct;
      time = fit.time;
    }
