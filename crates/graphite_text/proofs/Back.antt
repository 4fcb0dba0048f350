-- Lines that are read back.
use Rattle.std.proofs.Common.{◌≡◌, ℕ, ℤ, zero, suc, ◌+◌, ◌<◌, ◌≤◌, ◌*◌, ◌/◌, ◌^◌, Bool, true, false, cond, List, []}
use Rattle.std.proofs.Common.{◌∷◌, ◌++◌, length, take, map, Ok, Some, refl, sym, ap, subst, ◌∙◌, append_assoc}
use Rattle.std.proofs.Common.{length-append, arith, inl, inr}
use Rattle.std.specs.Prelude.{◌==◌, pos, negsuc, neg_ℤ, unsigned_abs, codes, filter, flat_map, FitsSigned}
use Rattle.std.specs.Int.{w64}
use Rattle.std.specs.Fmt.{signed_decimal}
use Rattle.std.specs.List.{AllByRecursion, slice_split, onto_first, join_with_byte}
use Rattle.std.specs.Str.{IsAscii, IsUtf8, bytes_eq}
use Rattle.std.proofs.lemmas.Bool.{lt-ltb}
use Rattle.std.proofs.lemmas.List.{append-nil}
use Rattle.std.proofs.lemmas.List.Splits.{join_with_byte-slice_split}
use Rattle.std.proofs.lemmas.Nat.{div_below}
use Rattle.std.proofs.lemmas.Slice.Eq.{bytes_eq-Decides}
use Rattle.std.proofs.lemmas.Str.{IsUtf8-from_ascii}
use Rattle.text_parts.specs.Grammar.{HasNone}
use Rattle.text_parts.specs.Split.{is_byte}
use Rattle.text_parts.specs.Words.{IsWord}
use Rattle.fixed_num.specs.Fixed.{read_as}
use Rattle.text_parts.proofs.Splits.{split_none, parts_none}
use Rattle.metric.specs.declared.metric.Content.{Content}
use Rattle.metric.specs.Draft.{Tag, Field}
use Rattle.metric.specs.Metric.{IsMetric, IsTag, IsField}
use Rattle.metric.specs.Pairs.{in_key_order_on}
use Rattle.format_words.specs.declared.template.TemplatePart.TheVariants as parts
use Rattle.format_words.specs.Segments.{AreFilled}
use Rattle.graphite_text.specs.Applied.{collected, joined, name_of, key_of, tags_at}
use Rattle.graphite_text.specs.Reading.{is_minus_one, is_moment, content_of, reading}
use Rattle.graphite_text.specs.Grammar.{Written, line_spelling, IsMoment, IsLine, said_in, has_too_many}
use Rattle.graphite_text.specs.Writing.{value_byte, name_byte, value_part, name_part, is_host, is_no_host, values_of}
use Rattle.graphite_text.specs.Writing.{key_parts, path_text, seconds_of, line_text}
use Rattle.graphite_text.specs.RoundTrip.{IsDotted, IsDottedKey, IsSecond, time_behind, metric_behind}
use Rattle.graphite_text.specs.RoundTrip.{WrittenIsReadBack}
use Rattle.fixed_num.specs.Scaled.{scaled}
use Rattle.fixed_num.proofs.NumberBytes.{all_append}
use Rattle.fixed_num.proofs.NumberTexts.{IsNumberText, signed_number, signed_read}
use Rattle.metric.specs.Numbers.{is_text, number_text, billionths_of}
use Rattle.metric.proofs.NumberLemmas.{value_number, value_read}
use Rattle.graphite_text.proofs.Bytes.{IsClean, AreClean, clean_spaces, clean_semicolons, value_clean, value_no_dot}
use Rattle.graphite_text.proofs.Bytes.{name_clean, name_dot, mapped_clean, clean_point, clean_number}
use Rattle.format_words.proofs.Spelling.{split_some}
use Rattle.graphite_text.proofs.Writtens.{written_is_read}

-- ---- segments of a path

onto_append : (b : ℕ) (ps qs : List (List ℕ)) → 0 < length ps → onto_first b (ps ++ qs) ≡ onto_first b ps ++ qs
onto_append b [] qs lt = absurd (omega arith)
onto_append b (p ∷ ps) qs lt = refl

split_append : (xs ys : List ℕ) → slice_split (is_byte 46) (xs ++ 46 ∷ ys) ≡ slice_split (is_byte 46) xs
    ++ slice_split (is_byte 46) ys
split_append [] ys = refl
split_append (x ∷ xs) ys = elim (x == 46) as (λ t. cond t ([] ∷ slice_split (is_byte 46) (xs ++ 46 ∷ ys))
    (onto_first x (slice_split (is_byte 46) (xs ++ 46 ∷ ys)))
    ≡ cond t ([] ∷ slice_split (is_byte 46) xs) (onto_first x (slice_split (is_byte 46) xs))
    ++ slice_split (is_byte 46) ys) [
      | true ↦ ap (λ (ps : List (List ℕ)). [] ∷ ps) (split_append xs ys)
      | false ↦ ap (onto_first x) (split_append xs ys) ∙ onto_append x (slice_split (is_byte 46) xs)
          (slice_split (is_byte 46) ys) (split_some 46 xs)
    ]

onto_map : (b : ℕ) (ps : List (List ℕ)) → onto_first (name_byte b) (map (map name_byte) ps) ≡ map (map name_byte)
    (onto_first b ps)
onto_map b [] = refl
onto_map b (p ∷ ps) = refl

split_map : (bs : List ℕ) → slice_split (is_byte 46) (map name_byte bs) ≡ map (map name_byte)
    (slice_split (is_byte 46) bs)
split_map [] = refl
split_map (b ∷ bs) =
    rw (name_dot b)
    (elim (b == 46) as (λ t. cond t ([] ∷ slice_split (is_byte 46) (map name_byte bs))
    (onto_first (name_byte b) (slice_split (is_byte 46) (map name_byte bs)))
    ≡ map (map name_byte) (cond t ([] ∷ slice_split (is_byte 46) bs) (onto_first b (slice_split (is_byte 46) bs)))) [
      | true ↦ ap (λ (ps : List (List ℕ)). [] ∷ ps) (split_map bs)
      | false ↦ ap (onto_first (name_byte b)) (split_map bs) ∙ onto_map b (slice_split (is_byte 46) bs)
    ])

map_some : (f : ℕ → ℕ) (bs : List ℕ) → 0 < length bs → 0 < length (map f bs)
map_some f [] lt = lt
map_some f (b ∷ bs) lt = omega arith

filled_map : (texts : List (List ℕ)) → AreFilled texts → AreFilled (map (map name_byte) texts)
filled_map [] h = tt
filled_map (text ∷ texts) h = (map_some name_byte text h.0, filled_map texts h.1)

-- a part of a path: none of its segments is empty, and its bytes are clean
record IsPart (text : List ℕ) : Type 0 where
  dotted : IsDotted text
  clean : AreClean text

no_dots : (bs : List ℕ) → HasNone (is_byte 46) (map value_byte bs)
no_dots [] = tt
no_dots (b ∷ bs) = (value_no_dot b, no_dots bs)

value_is : (value : List ℕ) → 0 < length value → IsPart (value_part value)
value_is value some = record {
  dotted = subst AreFilled (sym (split_none (is_byte 46) (value_part value) (no_dots value)))
      (map_some value_byte value some, tt);
  clean = mapped_clean value_byte value_clean value;
}

name_is : (name : List ℕ) → IsDotted name → IsPart (name_part name)
name_is name dotted = record {
  dotted = subst AreFilled (sym (split_map name)) (filled_map (slice_split (is_byte 46) name) dotted);
  clean = mapped_clean name_byte name_clean name;
}

values_are : (passes : Tag → Bool) (tags : List Tag) → AllByRecursion IsTag tags
    → AllByRecursion IsPart (values_of passes tags)
values_are passes [] h = tt
values_are passes (tag ∷ tags) h = elim (passes tag) as (λ t. AllByRecursion IsPart
    (map (λ (x : Tag). value_part x.1) (cond t (tag ∷ filter passes tags) (filter passes tags)))) [
      | true ↦ (value_is tag.1 ((h.0).1).filled, values_are passes tags h.1)
      | false ↦ values_are passes tags h.1
    ]

true_false : true ≡ false → ⊥
true_false e = cc

key_is : (key : List ℕ) → IsDottedKey key → AllByRecursion IsPart (key_parts key)
key_is key (inl is) = let same : bytes_eq key (codes "value") ≡ true = (bytes_eq-Decides key (codes "value")).1 is in
    rw same tt
key_is key (inr dotted) = elim (bytes_eq key (codes "value")) as
    (λ t. AllByRecursion IsPart (cond t [] (name_part key ∷ []))) [
      | true ↦ tt
      | false ↦ (name_is key dotted, tt)
    ]

joined_is : (part : List ℕ) (others : List (List ℕ)) → AllByRecursion IsPart (part ∷ others)
    → IsPart (join_with_byte 46 (part ∷ others))
joined_is part [] h = h.0
joined_is part (next ∷ others) h =
    let rest = joined_is next others h.1 in record {
      dotted = subst AreFilled (sym (split_append part (join_with_byte 46 (next ∷ others))))
          (all_append (λ (t : List ℕ). 0 < length t) (slice_split (is_byte 46) part)
          (slice_split (is_byte 46) (join_with_byte 46 (next ∷ others))) (h.0).dotted rest.dotted);
      clean = all_append IsClean part (46 ∷ join_with_byte 46 (next ∷ others)) (h.0).clean (clean_point, rest.clean);
    }

all_joined : (texts : List (List ℕ)) → 0 < length texts → AllByRecursion IsPart texts → IsPart (join_with_byte 46 texts)
all_joined [] lt h = absurd (omega arith)
all_joined (text ∷ texts) lt h = joined_is text texts h

path_is : (m : Content) (key : List ℕ) → AllByRecursion IsTag m.tags → IsDotted m.name → IsDottedKey key
    → IsPart (path_text m key)
unfolding path_text
path_is m key tags name dotted =
    let hosts : List (List ℕ) = values_of is_host m.tags in
    let others : List (List ℕ) = values_of is_no_host m.tags in
    let end : List (List ℕ) = name_part m.name ∷ key_parts key in
    all_joined (hosts ++ (others ++ end)) (omega (arith, length-append hosts (others ++ end), length-append others end))
    (all_append IsPart hosts (others ++ end) (values_are is_host m.tags tags)
    (all_append IsPart others end (values_are is_no_host m.tags tags) (name_is m.name name, key_is key dotted)))

dotted_some : (text : List ℕ) → IsDotted text → 0 < length text
dotted_some [] h = absurd (omega (arith, h.0))
dotted_some (b ∷ text) h = omega arith

-- ---- what is made of the segments

joined_same : (text : List ℕ) (texts : List (List ℕ)) → text
    ++ flat_map (λ other. codes "." ++ other) texts ≡ join_with_byte 46 (text ∷ texts)
joined_same text [] = append-nil text
joined_same text (next ∷ texts) = ap (λ (t : List ℕ). text ++ (46 ∷ t)) (joined_same next texts)

name_from : (segments : List (List ℕ)) → 0 < length segments
    → name_of (codes ".") (parts.AllMeasurement ∷ []) segments ≡ join_with_byte 46 segments
unfolding name_of collected joined
name_from [] lt = absurd (omega arith)
name_from (text ∷ texts) lt = joined_same text texts

key_from_none : (segments : List (List ℕ)) → key_of (codes ".") (parts.AllMeasurement ∷ []) segments ≡ codes "value"
unfolding key_of collected
key_from_none [] = refl
key_from_none (text ∷ texts) = refl

take_none : {A : Type 0} (n : ℕ) → take {A = A} n [] ≡ []
take_none zero = refl
take_none (suc n) = refl

tags_none : (n : ℕ) (segments : List (List ℕ)) → flat_map (tags_at (codes ".") (parts.AllMeasurement ∷ []) segments)
    (take n (parts.AllMeasurement ∷ [])) ≡ []
tags_none zero segments = refl
tags_none (suc n) segments = ap (flat_map (tags_at (codes ".") (parts.AllMeasurement ∷ []) segments)) (take_none n)

-- ---- times

seconds_below : (time : ℤ) → FitsSigned w64 time → unsigned_abs (seconds_of time) < 2 ^ 64
seconds_below (pos n) h = div_below n 1000000000 (2 ^ 64) (omega arith) (omega (arith, h.sfits))
seconds_below (negsuc n) h = let low : n / 1000000000 < 2 ^ 63 =
    div_below n 1000000000 (2 ^ 63) (omega arith) (omega (arith, h.sfits)) in omega arith

negative_moment : (m : ℕ) → 0 < m → m ≤ 2 ^ 63 → is_moment (neg_ℤ (pos m)) ≡ true
negative_moment zero lt le = absurd (omega arith)
negative_moment (suc k) lt le = lt-ltb k (2 ^ 63) (omega arith)

scaled_moment : (time : ℤ) → FitsSigned w64 time → IsSecond (seconds_of time)
    → is_moment (scaled (seconds_of time)) ≡ true
scaled_moment (pos n) h is = lt-ltb (n / 1000000000 * 1000000000) (2 ^ 63) (omega (arith, h.sfits))
scaled_moment (negsuc n) h is = negative_moment ((1 + n / 1000000000) * 1000000000) (omega arith) (omega (arith, is))

time_is : (moment seconds : ℤ) → is_moment (scaled seconds) ≡ true
    → IsMoment moment (scaled seconds) (time_behind moment seconds)
time_is moment seconds fits = elim (is_minus_one (scaled seconds)) as
    (λ t. is_minus_one (scaled seconds) ≡ t → IsMoment moment (scaled seconds) (cond t moment (scaled seconds))) [
      | true ↦ λ e. inl (e, refl)
      | false ↦ λ e. inr (e, fits, refl)
    ] refl

-- ---- bytes below 128

Low : List ℕ → Type 0
Low = AllByRecursion (λ b. b < 128)

clean_low : (bs : List ℕ) → AreClean bs → AllByRecursion (λ b. b < 128) bs
clean_low [] h = tt
clean_low (b ∷ bs) h = ((h.0).ascii, clean_low bs h.1)

low_ascii : (bs : List ℕ) → AllByRecursion (λ b. b < 128) bs → IsAscii bs
low_ascii [] h i = omega arith
low_ascii (b ∷ bs) h zero = h.0
low_ascii (b ∷ bs) h (suc i) = low_ascii bs h.1 i

-- ---- a line

same_line : (p a n b s q : List ℕ) → q ≡ p → ((((p ++ a) ++ n) ++ b) ++ s) ≡ (q ++ []) ++ (a ++ (n ++ (b ++ (s ++ []))))
same_line p a n b s q is =
    append_assoc ((p ++ a) ++ n) b s ∙ append_assoc (p ++ a) n (b ++ s) ∙ append_assoc p a (n ++ (b ++ s))
    ∙ rw (is, append-nil p, append-nil s) refl

line_low : (p n s : List ℕ) → AreClean p → AreClean n → AreClean s
    → AllByRecursion (λ b. b < 128) ((((p ++ codes " ") ++ n) ++ codes " ") ++ s)
line_low p n s h k l =
    let space : AllByRecursion (λ b. b < 128) (codes " ") = (omega arith, tt) in
    all_append (λ b. b < 128) (((p ++ codes " ") ++ n) ++ codes " ") s
    (all_append (λ b. b < 128) ((p ++ codes " ") ++ n) (codes " ")
    (all_append (λ b. b < 128) (p ++ codes " ") n (all_append (λ b. b < 128) p (codes " ") (clean_low p h) space)
    (clean_low n k)) space) (clean_low s l)

written_of : List ℕ → List ℕ → List ℕ → Written
written_of path number seconds = record {
  before = 0;
  path = record { segments = slice_split (is_byte 46) path; tags = [] };
  path_spaces = 1;
  value = number;
  value_spaces = 1;
  time = Some (seconds, 0);
}

word : (text : List ℕ) → 0 < length text → AreClean text → IsWord text
word text some clean = record { filled = some; none = clean_spaces text clean }

line_is : (path number seconds : List ℕ) (moment value time n : ℤ) → IsPart path → IsNumberText number
    → IsNumberText seconds → read_as number ≡ Ok value → read_as seconds ≡ Ok n → IsMoment moment n time
    → IsLine (written_of path number seconds) moment value time
unfolding written_of
line_is path number seconds moment value time n p v t read_value read_time is =
    let whole : join_with_byte 46 (slice_split (is_byte 46) path) ≡ path = join_with_byte-slice_split 46 path in
    record {
      words = (
        subst IsWord (sym (append-nil (join_with_byte 46 (slice_split (is_byte 46) path)) ∙ whole))
            (word path (dotted_some path p.dotted) p.clean),
        omega arith,
        (
          word number v.some (clean_number number v.bytes),
          omega arith,
          (word seconds t.some (clean_number seconds t.bytes), tt, tt),
        ),
      );
      path = record {
        segments = record { some = split_some 46 path; filled = p.dotted; dots = parts_none (is_byte 46) path };
        bucket = subst (HasNone (is_byte 59)) (sym whole) (clean_semicolons path p.clean);
        pairs = tt;
        semicolons = tt;
      };
      is_value = read_value;
      is_time = (n, read_time, is);
    }

made : (path : List ℕ) (m : Content) (field : Field) (moment : ℤ) → path ≡ path_text m field.0
    → content_of (said_in [] (codes ".") (written_of path (number_text field.1) (signed_decimal (seconds_of m.time)))
    (billionths_of field.1) (time_behind moment (seconds_of m.time))) ≡ metric_behind m field moment
unfolding written_of in_key_order_on
made path m field moment is =
    rw (
      name_from (slice_split (is_byte 46) path) (split_some 46 path),
      key_from_none (slice_split (is_byte 46) path),
      tags_none (length (slice_split (is_byte 46) path)) (slice_split (is_byte 46) path),
      join_with_byte-slice_split 46 path,
      is,
    ) refl

few : (path number seconds : List ℕ) (value time : ℤ) → has_too_many
    (said_in [] (codes ".") (written_of path number seconds) value time) ≡ false
unfolding written_of in_key_order_on
few path number seconds value time = rw (tags_none (length (slice_split (is_byte 46) path))
    (slice_split (is_byte 46) path)) refl

spelled : (path number seconds : List ℕ) → ((((path ++ codes " ") ++ number) ++ codes " ") ++ seconds) ≡ line_spelling
    (written_of path number seconds)
unfolding written_of
spelled path number seconds = same_line path (codes " ") number (codes " ") seconds
    (join_with_byte 46 (slice_split (is_byte 46) path)) (join_with_byte-slice_split 46 path)

field_back : (m : Content) (moment : ℤ) → IsMetric m → IsDotted m.name → IsSecond (seconds_of m.time) → (field : Field)
    → IsField field → is_text field.1 ≡ false → IsDottedKey field.0
    → reading [] (codes ".") (line_text m field) moment ≡ Ok (Some (metric_behind m field moment))
unfolding line_text
field_back m moment is name second field h no_text key =
    let p = path_is m field.0 is.tags name key in
    let below = seconds_below m.time is.time in
    let v = value_number field.1 h.1 no_text in
    let s = signed_number (seconds_of m.time) below in
    let w : Written = written_of (path_text m field.0) (number_text field.1) (signed_decimal (seconds_of m.time)) in
    let line = line_is (path_text m field.0) (number_text field.1) (signed_decimal (seconds_of m.time)) moment
    (billionths_of field.1) (time_behind moment (seconds_of m.time)) (scaled (seconds_of m.time)) p v s
    (value_read field.1 h.1 no_text) (signed_read (seconds_of m.time) below)
    (time_is moment (seconds_of m.time) (scaled_moment m.time is.time second)) in
    let text = spelled (path_text m field.0) (number_text field.1) (signed_decimal (seconds_of m.time)) in
    let utf8 = IsUtf8-from_ascii _ (low_ascii _ (line_low (path_text m field.0) (number_text field.1)
    (signed_decimal (seconds_of m.time)) p.clean (clean_number (number_text field.1) v.bytes)
    (clean_number (signed_decimal (seconds_of m.time)) s.bytes))) in
    ap (λ (t : List ℕ). reading [] (codes ".") t moment) text
    ∙ written_is_read [] (codes ".") w moment (billionths_of field.1) (time_behind moment (seconds_of m.time)) line
    (subst IsUtf8 text utf8)
    (few (path_text m field.0) (number_text field.1) (signed_decimal (seconds_of m.time)) (billionths_of field.1)
    (time_behind moment (seconds_of m.time)))
    ∙ ap (λ (c : Content). Ok (Some c)) (made (path_text m field.0) m field moment refl)

fields_back : (m : Content) (moment : ℤ) → IsMetric m → IsDotted m.name → IsSecond (seconds_of m.time)
    → (fields : List Field) → AllByRecursion IsField fields
    → AllByRecursion (λ (field : Field). is_text field.1 ≡ false → IsDottedKey field.0
    → reading [] (codes ".") (line_text m field) moment ≡ Ok (Some (metric_behind m field moment))) fields
fields_back m moment is name second [] h = tt
fields_back m moment is name second (field ∷ fields) h = (
  field_back m moment is name second field h.0,
  fields_back m moment is name second fields h.1,
)

pub written_is_read_back : WrittenIsReadBack
written_is_read_back m moment is name second = fields_back m moment is name second m.fields is.fields
