-- The text of a metric is read as the metric.
use Rattle.std.proofs.Common.{◌≡◌, ℕ, ℤ, ◌^◌, ◌<◌, ◌≤◌, Bool, true, false, not, List, [], ◌∷◌, ◌++◌}
use Rattle.std.proofs.Common.{length, Option, Some}
use Rattle.std.proofs.Common.{refl, sym, ap, subst, ◌∙◌, arith, append_assoc}
use Rattle.std.specs.Prelude.{◌==◌, map, codes, FitsSigned}
use Rattle.std.specs.Int.{w64}
use Rattle.std.specs.Fmt.{decimal, signed_decimal}
use Rattle.std.specs.List.{AllByRecursion, flat_map, slice_split}
use Rattle.std.specs.List.Sorted.{IsStrictlySortedBy}
use Rattle.std.specs.Ordering.{nat_cmp}
use Rattle.std.specs.declared.cmp.Ordering.TheVariants.{Less}
use Rattle.std.specs.Cmp.Lexicographic.{slice_cmp}
use Rattle.std.specs.Str.{IsUtf8}
use Rattle.std.proofs.lemmas.Bool.{ne_eqb, eq-eqb}
use Rattle.std.proofs.lemmas.List.{append-nil}
use Rattle.fixed_num.specs.Canonical.{canonical_text}
use Rattle.fixed_num.proofs.Again.{reads_canonical}
use Rattle.fixed_num.proofs.NumberTexts.{int_read, uint_read, signed_number, magnitude_below, decimal_number}
use Rattle.fixed_num.proofs.NumberTexts.{canonical_number}
use Rattle.fixed_num.proofs.NumberBytes.{IsNumberByte}
use Rattle.text_parts.specs.Bytes.{equals_sign, bar}
use Rattle.text_parts.specs.Grammar.{HasNone}
use Rattle.text_parts.specs.Split.{is_byte}
use Rattle.text_parts.proofs.Lacking.{none_append, none_split, number_none}
use Rattle.text_parts.proofs.Splits.{first_is_cut, split_none, split_found}
use Rattle.metric.specs.declared.metric.Content.{Content}
use Rattle.metric.specs.declared.value.Value.{Value}
use Rattle.metric.specs.declared.value.Value.TheVariants as value
use Rattle.metric.specs.Metric.{IsMetric, IsValue, IsTag, IsField}
use Rattle.metric.specs.Plain.{is_plain}
use Rattle.journal_text.specs.MetricText.{escaped, value_text, tag_text, field_text, fields_text, metric_text}
use Rattle.journal_reader.specs.Words.{each, cut, none_behind}
use Rattle.journal_reader.specs.MetricReading.{semicolon, plain_value_of, value_of, tag_of}
use Rattle.journal_reader.specs.MetricReading.{pair_of, field_of, series_of, content_of, is_filled, are_tags}
use Rattle.journal_reader.specs.MetricReading.{is_metric, metric_of}
use Rattle.journal_reader.proofs.KeyLemmas.{all_filled, fields_pass}
use Rattle.journal_reader.proofs.WordLemmas.{same_bytes}
use Rattle.journal_reader.proofs.EscapeLemmas.{is_safe, escaped_none, utf8_bytes, text_again}

abbrev Tag : Type 0
Tag = List ℕ × List ℕ

abbrev Field : Type 0
Field = List ℕ × Value

-- ---- what separates the parts of a metric and of a line doesn't stand in them

-- no text and no number has such a byte
pub record Separates (byte : ℕ) : Type 0 where
  unsafe : is_safe byte ≡ false
  low : 45 ≤ byte → byte ≤ 57 → ⊥

pub spaces_separate : Separates 32
unfolding is_safe is_plain
spaces_separate = record { unsafe = refl; low = λ more less. omega (arith, more) }

pub newlines_separate : Separates 10
unfolding is_safe is_plain
newlines_separate = record { unsafe = refl; low = λ more less. omega (arith, more) }

semicolons_separate : Separates semicolon
unfolding is_safe is_plain
semicolons_separate = record { unsafe = refl; low = λ more less. omega (arith, less) }

equals_separate : Separates equals_sign
unfolding is_safe is_plain
equals_separate = record { unsafe = refl; low = λ more less. omega (arith, less) }

bars_separate : Separates bar
unfolding is_safe is_plain
bars_separate = record { unsafe = refl; low = λ more less. omega (arith, less) }

safe_apart : (byte b : ℕ) → Separates byte → is_safe b ≡ true → (b == byte) ≡ false
safe_apart byte b s safe =
    ne_eqb b byte (λ same. let clash : true ≡ false = sym safe ∙ ap is_safe same ∙ s.unsafe in absurd cc)

pub number_apart : (byte b : ℕ) → Separates byte → IsNumberByte b → (b == byte) ≡ false
number_apart byte b s is = ne_eqb b byte (λ same. s.low (omega (arith, is.0, same)) (omega (arith, is.1, same)))

pub word_none : (byte : ℕ) → Separates byte → (word : List ℕ) → IsUtf8 word → HasNone (is_byte byte) (escaped word)
word_none byte s word utf8 =
    escaped_none (is_byte byte) (λ b safe. safe_apart byte b s safe) word (utf8_bytes word utf8)

pub decimal_none : (byte n : ℕ) → Separates byte → n < 2 ^ 64 → HasNone (is_byte byte) (decimal n)
decimal_none byte n s h =
    number_none (is_byte byte) (λ b is. number_apart byte b s is) (decimal n) (decimal_number n h).bytes

pub signed_none : (byte : ℕ) (z : ℤ) → Separates byte → FitsSigned w64 z → HasNone (is_byte byte) (signed_decimal z)
signed_none byte z s h =
    number_none (is_byte byte) (λ b is. number_apart byte b s is) (signed_decimal z)
    (signed_number z (magnitude_below z h)).bytes

value_none : (byte : ℕ) (v : Value) → Separates byte → IsValue v → HasNone (is_byte byte) (value_text v)
unfolding value_text is_safe is_plain
value_none byte (value.Int n) s h = (safe_apart byte 105 s refl, signed_none byte n s h)
value_none byte (value.Uint n) s h = (safe_apart byte 117 s refl, decimal_none byte n s h)
value_none byte (value.Fixed z) s h = (
  safe_apart byte 102 s refl,
  number_none (is_byte byte) (λ b is. number_apart byte b s is) (canonical_text z) (canonical_number z h).bytes,
)
value_none byte (value.«Bool» true) s h = (safe_apart byte 98 s refl, (safe_apart byte 116 s refl, tt))
value_none byte (value.«Bool» false) s h = (safe_apart byte 98 s refl, (safe_apart byte 102 s refl, tt))
value_none byte (value.Text text) s h = (safe_apart byte 115 s refl, word_none byte s text h)

-- ---- parts

pub cut_at : (byte : ℕ) (text rest : List ℕ) → HasNone (is_byte byte) text → cut byte (text ++ byte ∷ rest)
    ≡ Some (text, rest)
unfolding cut
cut_at byte text rest h =
    ap (λ (parts : List ℕ × Option (List ℕ)). none_behind parts.0 parts.1) (first_is_cut byte text rest h).1

same_byte : (b : ℕ) → (b == b) ≡ true
same_byte b = eq-eqb b b refl

-- a front and parts, each behind the separator, are split into these
split_many : {X : Type 0} (byte : ℕ) (body : X → List ℕ) (front : List ℕ) (xs : List X)
    → HasNone (is_byte byte) front → AllByRecursion (λ x. HasNone (is_byte byte) (body x)) xs
    → slice_split (is_byte byte) (front ++ flat_map (λ x. byte ∷ body x) xs) ≡ front ∷ map body xs
split_many byte body front [] none h =
    ap (slice_split (is_byte byte)) (append-nil front) ∙ split_none (is_byte byte) front none
split_many byte body front (x ∷ xs) none h =
    split_found (is_byte byte) front byte (body x ++ flat_map (λ x. byte ∷ body x) xs) none (same_byte byte)
    ∙ ap (λ (parts : List (List ℕ)). front ∷ parts) (split_many byte body (body x) xs h.0 h.1)

-- what is read of each part
each_again : {X : Type 0} (says : List ℕ → Option X) (body : X → List ℕ) (xs : List X)
    → AllByRecursion (λ x. says (body x) ≡ Some x) xs → each says (map body xs) ≡ Some xs
unfolding each
each_again says body [] h = refl
each_again says body (x ∷ xs) h = rw (h.0, each_again says body xs h.1) refl

all_of : {X : Type 0} (P Q : X → Type 0) → ((x : X) → P x → Q x) → (xs : List X) → AllByRecursion P xs
    → AllByRecursion Q xs
all_of P Q f [] h = tt
all_of P Q f (x ∷ xs) h = (f x h.0, all_of P Q f xs h.1)

-- ---- tags and fields

tag_body : Tag → List ℕ
tag_body tag = escaped tag.0 ++ equals_sign ∷ escaped tag.1

field_body : Field → List ℕ
field_body field = escaped field.0 ++ equals_sign ∷ value_text field.1

tag_none : (tag : Tag) → IsTag tag → HasNone (is_byte semicolon) (tag_body tag)
unfolding tag_body
tag_none tag h =
    none_append (is_byte semicolon) (escaped tag.0) (equals_sign ∷ escaped tag.1)
    (word_none semicolon semicolons_separate tag.0 h.0.utf8)
    (refl, word_none semicolon semicolons_separate tag.1 h.1.utf8)

field_none : (field : Field) → IsField field → HasNone (is_byte semicolon) (field_body field)
unfolding field_body
field_none field h =
    none_append (is_byte semicolon) (escaped field.0) (equals_sign ∷ value_text field.1)
    (word_none semicolon semicolons_separate field.0 h.0.utf8)
    (refl, value_none semicolon field.1 semicolons_separate h.1)

tag_again : (tag : Tag) → IsTag tag → tag_of (tag_body tag) ≡ Some tag
unfolding tag_of pair_of tag_body
tag_again tag h =
    rw (
      cut_at equals_sign (escaped tag.0) (escaped tag.1) (word_none equals_sign equals_separate tag.0 h.0.utf8),
      text_again tag.0 h.0.utf8 (utf8_bytes tag.0 h.0.utf8),
      text_again tag.1 h.1.utf8 (utf8_bytes tag.1 h.1.utf8),
    ) refl

value_again : (v : Value) → IsValue v → value_of (value_text v) ≡ Some v
unfolding value_of plain_value_of value_text
value_again (value.Int n) h = rw (int_read n h) refl
value_again (value.Uint n) h = rw (uint_read n h) refl
value_again (value.Fixed z) h = rw (reads_canonical z h) refl
value_again (value.«Bool» true) h = refl
value_again (value.«Bool» false) h = refl
value_again (value.Text text) h = rw (text_again text h (utf8_bytes text h)) refl

field_again : (field : Field) → IsField field → field_of (field_body field) ≡ Some field
unfolding field_of pair_of field_body
field_again field h =
    rw (
      cut_at equals_sign (escaped field.0) (value_text field.1)
          (word_none equals_sign equals_separate field.0 h.0.utf8),
      text_again field.0 h.0.utf8 (utf8_bytes field.0 h.0.utf8),
      value_again field.1 h.1,
    ) refl

-- ---- the texts of a metric, as they are cut

series_text : Content → List ℕ
series_text m = escaped m.name ++ flat_map (λ (tag : Tag). semicolon ∷ tag_body tag) m.tags

-- fields with semicolons between them
joined_fields : Field → List Field → List ℕ
joined_fields field fields = field_body field ++ flat_map (λ (other : Field). semicolon ∷ field_body other) fields

tags_are : (tags : List Tag) → flat_map tag_text tags ≡ flat_map (λ (tag : Tag). semicolon ∷ tag_body tag) tags
unfolding tag_text tag_body
tags_are [] = refl
tags_are (tag ∷ tags) =
    let one : tag_text tag ≡ semicolon ∷ (escaped tag.0 ++ equals_sign ∷ escaped tag.1) = simp append_assoc in
    ap (λ (t : List ℕ). t ++ flat_map tag_text tags) one
    ∙ ap (λ (t : List ℕ). (semicolon ∷ tag_body tag) ++ t) (tags_are tags)

others_are : (fields : List Field) → flat_map (λ (other : Field). codes ";" ++ field_text other) fields
    ≡ flat_map (λ (other : Field). semicolon ∷ field_body other) fields
unfolding field_text field_body
others_are [] = refl
others_are (field ∷ fields) =
    let one : field_text field ≡ escaped field.0 ++ equals_sign ∷ value_text field.1 = simp append_assoc in
    rw (one, others_are fields) refl

fields_are : (field : Field) (fields : List Field) → fields_text (field ∷ fields) ≡ joined_fields field fields
unfolding fields_text joined_fields field_text field_body
fields_are field fields =
    let one : field_text field ≡ escaped field.0 ++ equals_sign ∷ value_text field.1 = simp append_assoc in
    rw (one, others_are fields) refl

text_is : (m : Content) (field : Field) (fields : List Field) → m.fields ≡ field ∷ fields
    → metric_text m ≡ series_text m ++ bar ∷ (joined_fields field fields ++ bar ∷ signed_decimal m.time)
unfolding metric_text series_text
text_is m field fields is =
    rw (is, tags_are m.tags, fields_are field fields) (simp append_assoc)

many_none : {X : Type 0} (p : ℕ → Bool) (c : ℕ) (body : X → List ℕ) (xs : List X) → p c ≡ false
    → AllByRecursion (λ x. HasNone p (body x)) xs → HasNone p (flat_map (λ x. c ∷ body x) xs)
many_none p c body [] e h = tt
many_none p c body (x ∷ xs) e h =
    (e, none_append p (body x) (flat_map (λ x. c ∷ body x) xs) h.0 (many_none p c body xs e h.1))

-- a byte that separates, and isn't one of those in a metric
pub record Outside (byte : ℕ) : Type 0 where
  separates : Separates byte
  semicolon_apart : (semicolon == byte) ≡ false
  equals_apart : (equals_sign == byte) ≡ false

tag_outside : (byte : ℕ) → Outside byte → (tag : Tag) → IsTag tag → HasNone (is_byte byte) (tag_body tag)
unfolding tag_body
tag_outside byte o tag h =
    none_append (is_byte byte) (escaped tag.0) (equals_sign ∷ escaped tag.1)
    (word_none byte o.separates tag.0 h.0.utf8) (o.equals_apart, word_none byte o.separates tag.1 h.1.utf8)

field_outside : (byte : ℕ) → Outside byte → (field : Field) → IsField field → HasNone (is_byte byte) (field_body field)
unfolding field_body
field_outside byte o field h =
    none_append (is_byte byte) (escaped field.0) (equals_sign ∷ value_text field.1)
    (word_none byte o.separates field.0 h.0.utf8) (o.equals_apart, value_none byte field.1 o.separates h.1)

series_none : (byte : ℕ) → Outside byte → (m : Content) → IsMetric m → HasNone (is_byte byte) (series_text m)
unfolding series_text
series_none byte o m h =
    none_append (is_byte byte) (escaped m.name) (flat_map (λ (tag : Tag). semicolon ∷ tag_body tag) m.tags)
    (word_none byte o.separates m.name h.name.utf8)
    (many_none (is_byte byte) semicolon tag_body m.tags o.semicolon_apart
    (all_of IsTag (λ tag. HasNone (is_byte byte) (tag_body tag)) (tag_outside byte o) m.tags h.tags))

fields_none : (byte : ℕ) → Outside byte → (field : Field) (fields : List Field)
    → AllByRecursion IsField (field ∷ fields)
    → HasNone (is_byte byte) (joined_fields field fields)
unfolding joined_fields
fields_none byte o field fields h =
    none_append (is_byte byte) (field_body field) (flat_map (λ (other : Field). semicolon ∷ field_body other) fields)
    (field_outside byte o field h.0)
    (many_none (is_byte byte) semicolon field_body fields o.semicolon_apart
    (all_of IsField (λ other. HasNone (is_byte byte) (field_body other)) (field_outside byte o) fields h.1))

bars_outside : Outside bar
bars_outside = record { separates = bars_separate; semicolon_apart = refl; equals_apart = refl }

series_again : (m : Content) → IsMetric m
    → series_of (slice_split (is_byte semicolon) (series_text m)) ≡ Some (m.name, m.tags)
unfolding series_of series_text
series_again m h =
    let parts = split_many semicolon tag_body (escaped m.name) m.tags
    (word_none semicolon semicolons_separate m.name h.name.utf8)
    (all_of IsTag (λ tag. HasNone (is_byte semicolon) (tag_body tag)) tag_none m.tags h.tags) in
    let read = each_again tag_of tag_body m.tags
    (all_of IsTag (λ tag. tag_of (tag_body tag) ≡ Some tag) tag_again m.tags h.tags) in
    rw (parts, text_again m.name h.name.utf8 (utf8_bytes m.name h.name.utf8), read) refl

fields_again : (field : Field) (fields : List Field) → AllByRecursion IsField (field ∷ fields)
    → each field_of (slice_split (is_byte semicolon) (joined_fields field fields)) ≡ Some (field ∷ fields)
unfolding joined_fields
fields_again field fields h =
    let parts = split_many semicolon field_body (field_body field) fields (field_none field h.0)
    (all_of IsField (λ other. HasNone (is_byte semicolon) (field_body other)) field_none fields h.1) in
    ap (each field_of) parts
    ∙ each_again field_of field_body (field ∷ fields)
    (all_of IsField (λ other. field_of (field_body other) ≡ Some other) field_again (field ∷ fields) h)

content_again : (m : Content) (field : Field) (fields : List Field) → m.fields ≡ field ∷ fields → IsMetric m
    → content_of (metric_text m) ≡ Some m
unfolding content_of
content_again m field fields is h =
    let fit : AllByRecursion IsField (field ∷ fields) = subst (AllByRecursion IsField) is h.fields in
    let behind = joined_fields field fields ++ bar ∷ signed_decimal m.time in
    let whole : Content = record { name = m.name; tags = m.tags; fields = field ∷ fields; time = m.time } in
    let same : whole ≡ m = ap (λ (fs : List Field). record m { fields = fs }) (sym is) in
    ap content_of (text_is m field fields is)
    ∙ rw (
      cut_at bar (series_text m) behind (series_none bar bars_outside m h),
      cut_at bar (joined_fields field fields) (signed_decimal m.time) (fields_none bar bars_outside field fields fit),
      series_again m h,
      fields_again field fields fit,
      int_read m.time h.time,
    ) (ap (λ (c : Content). Some c) same)

-- ---- a metric passes the tests

filled : (text : List ℕ) → 0 < length text → is_filled text ≡ true
filled [] lt = absurd (omega arith)
filled (b ∷ bs) lt = ap not (ne_eqb (length (b ∷ bs)) 0 (λ e. absurd (omega (arith, e))))

abbrev Above : List ℕ → List Tag → Type 0
Above before tags =
    AllByRecursion (λ k. slice_cmp nat_cmp before k ≡ Less) (map (λ (tag : Tag). tag.0) tags)

tags_pass : (before : List ℕ) (tags : List Tag) → Above before tags
    → IsStrictlySortedBy (slice_cmp nat_cmp) (map (λ (tag : Tag). tag.0) tags) → AllByRecursion IsTag tags
    → are_tags before tags ≡ true
unfolding are_tags IsStrictlySortedBy
tags_pass before [] above sorted h = refl
tags_pass before (tag ∷ tags) above sorted h =
    let value : is_filled tag.1 ≡ true = filled tag.1 h.0.1.filled in
    rw (value, above.0, tags_pass tag.0 tags sorted.0 sorted.1 h.1) refl

above_nothing : (tags : List Tag) → AllByRecursion IsTag tags → Above [] tags
above_nothing [] h = tt
above_nothing (tag ∷ tags) h = (first tag.0 h.0.0.filled, above_nothing tags h.1)
  where
    first : (key : List ℕ) → 0 < length key → slice_cmp nat_cmp [] key ≡ Less
    first [] lt = absurd (omega arith)
    first (b ∷ bs) lt = refl

fields_filled : (fields : List Field) → AllByRecursion IsField fields → all_filled fields ≡ true
fields_filled [] h = refl
fields_filled (field ∷ fields) h =
    let first = filled field.0 h.0.0.filled in
    rw (first, fields_filled fields h.1) refl

metric_passes : (m : Content) (field : Field) (fields : List Field) → m.fields ≡ field ∷ fields → IsMetric m
    → is_metric m ≡ true
unfolding is_metric
metric_passes m field fields is h =
    let name : is_filled m.name ≡ true = filled m.name h.name.filled in
    let tags = tags_pass [] m.tags (above_nothing m.tags h.tags) h.sorted h.tags in
    let some : (length m.fields == 0) ≡ false =
    ap (λ (fs : List Field). length fs == 0) is ∙ ne_eqb (length (field ∷ fields)) 0 (λ e. absurd (omega (arith, e))) in
    let pass = fields_pass m.fields (fields_filled m.fields h.fields) h.distinct in
    rw (name, tags, some, pass) refl

some_field : (fields : List Field) → 0 < length fields → (field : Field) × (others : List Field)
    × (fields ≡ field ∷ others)
some_field [] lt = absurd (omega arith)
some_field (field ∷ others) lt = (field, others, refl)

-- the text of a metric is read as it
pub metric_again : (m : Content) → IsMetric m → metric_of (metric_text m) ≡ Some m
unfolding metric_of
metric_again m h =
    let shape = some_field m.fields h.some in
    rw (
      content_again m shape.0 shape.1 shape.2 h,
      metric_passes m shape.0 shape.1 shape.2 h,
      same_bytes (metric_text m),
    ) refl

-- and has no byte that is outside of all metrics, but for the bars in it
pub metric_none : (byte : ℕ) → Outside byte → (bar == byte) ≡ false → (m : Content) → IsMetric m
    → HasNone (is_byte byte) (metric_text m)
metric_none byte o bars m h =
    let shape = some_field m.fields h.some in
    let fit : AllByRecursion IsField (shape.0 ∷ shape.1) = subst (AllByRecursion IsField) shape.2 h.fields in
    subst (HasNone (is_byte byte)) (sym (text_is m shape.0 shape.1 shape.2))
    (none_append (is_byte byte) (series_text m) (bar ∷ (joined_fields shape.0 shape.1 ++ bar ∷ signed_decimal m.time))
    (series_none byte o m h) (
      bars,
      none_append (is_byte byte) (joined_fields shape.0 shape.1) (bar ∷ signed_decimal m.time)
          (fields_none byte o shape.0 shape.1 fit) (bars, signed_none byte m.time o.separates h.time),
    ))

pub spaces_outside : Outside 32
spaces_outside = record { separates = spaces_separate; semicolon_apart = refl; equals_apart = refl }

pub newlines_outside : Outside 10
newlines_outside = record { separates = newlines_separate; semicolon_apart = refl; equals_apart = refl }

-- a bar stands in it
pub metric_has_bar : (m : Content) → IsMetric m → HasNone (is_byte bar) (metric_text m) → ⊥
metric_has_bar m h none =
    let shape = some_field m.fields h.some in
    let parts = none_split (is_byte bar) (series_text m)
    (bar ∷ (joined_fields shape.0 shape.1 ++ bar ∷ signed_decimal m.time))
    (subst (HasNone (is_byte bar)) (text_is m shape.0 shape.1 shape.2) none) in
    let clash : true ≡ false = sym (same_byte bar) ∙ parts.1.0 in
    absurd cc
