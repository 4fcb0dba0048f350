-- The line of a plain metric is read as the metric.
use Rattle.std.proofs.Common.{◌≡◌, ◌<◌, ◌-◌, ℕ, ℤ, true, false, Bool, cond, List, [], ◌∷◌, ◌++◌, length, map, reverse}
use Rattle.std.proofs.Common.{None, Some}
use Rattle.std.specs.declared.option.Option.{Option}
use Rattle.std.proofs.Common.{Ok, refl, sym, ap, subst, ◌∙◌, arith, append_assoc, inl, inr, get_or, ◌+◌}
use Rattle.std.specs.Prelude.{codes, ◌==◌, ◌||◌, ◌⊎◌}
use Rattle.std.specs.Fmt.{signed_decimal}
use Rattle.std.specs.Int.{w64}
use Rattle.std.specs.Prelude.{FitsSigned}
use Rattle.std.specs.List.{AllByRecursion, flat_map, prefix_len, suffix_len}
use Rattle.std.specs.Str.{IsUtf8}
use Rattle.std.proofs.lemmas.Bool.{or_parts}
use Rattle.std.proofs.lemmas.List.{append-nil, reverse-append, length-append, take_all}
use Rattle.std.proofs.lemmas.Str.{IsUtf8-append}
use Rattle.text_parts.specs.Grammar.{Ends, HasNone, IsWritten}
use Rattle.text_parts.specs.Part.{Kind}
use Rattle.metric.specs.declared.metric.Content.{Content}
use Rattle.metric.specs.declared.value.Value.{Value}
use Rattle.metric.specs.declared.value.Value.TheVariants.{Int, Uint, Fixed, «Bool» as Truth, Text}
use Rattle.metric.specs.Metric as metrics
use Rattle.metric.specs.Metric.{IsMetric, IsWord, IsValue}
use Rattle.metric.specs.Pairs.{in_key_order, in_first_order, with_values}
use Rattle.text_parts.specs.Pairs.{pair_text, pairs_text, AllAre}
use Rattle.metric.specs.Draft.{Tag, Field}
use Rattle.line_proto.specs.Kinds.{name_part, key_part, tag_value_part, text_part}
use Rattle.line_proto.specs.Grammar.{NoHash, NoQuote, Written, line_spelling, IsTag, IsField}
use Rattle.line_proto.specs.Grammar.{time_text, IsQuoted, IsTime, IsUnquoted, IsLine}
use Rattle.line_proto.specs.LineText.{on_one_line, trimmed, name_text, key_text, value_text, tag_text, field_text}
use Rattle.line_proto.specs.LineText.{name_escapes, key_escapes, text_escapes}
use Rattle.text_parts.specs.Escaped.{escaped}
use Rattle.line_proto.specs.LineText.{head_text, line_text, untimed_text}
use Rattle.line_proto.specs.Reading.{Line, content_of, reading}
use Rattle.line_proto.specs.OneLine.{ends_line}
use Rattle.text_parts.specs.Escaped.{Escapes, Suits, NoBackslashEnd}
use Rattle.line_proto.specs.RoundTrip.{IsPlainWord, IsPlainValue, IsPlain, UntimedIsReadBack}
use Rattle.text_parts.proofs.Utf8.{one_ascii}
use Rattle.line_proto.proofs.EscapedParts.{ends_before, escaped-IsUtf8, suits_name, suits_key, suits_tag_value}
use Rattle.line_proto.proofs.EscapedParts.{suits_text, name_low, key_low, text_low}
use Rattle.text_parts.proofs.Escaping.{escaped_is_part}
use Rattle.metric.proofs.KeptPairs.{sorted_stay, distinct_stay, filled_stay, few}
use Rattle.line_proto.proofs.NumberTexts.{plain_value, plain_time}
use Rattle.line_proto.proofs.PlainBytes.{Clean, IsNoText}
use Rattle.line_proto.proofs.SingleLines.{none_head, single}
use Rattle.line_proto.proofs.Takes.{written_is_read}
use Rattle.line_proto.proofs.WriteLemmas.{kept_key, kept_name}

-- ---- texts that are written but for escapes

one_line_is : (text : List ℕ) → HasNone ends_line text → on_one_line text ≡ text
one_line_is [] h = refl
one_line_is (b ∷ bs) h = rw (h.0) (ap (λ (t : List ℕ). b ∷ t) (one_line_is bs h.1))

front_stands : (p : ℕ → Bool) (xs ys : List ℕ) → 0 < length xs → prefix_len p xs ≡ 0 → prefix_len p (xs ++ ys) ≡ 0
front_stands p [] ys some e = absurd (omega arith)
front_stands p (x ∷ xs) ys some e = elim (p x) as (λ t. cond t (1 + prefix_len p xs) 0 ≡ 0
    → cond t (1 + prefix_len p (xs ++ ys)) 0 ≡ 0) [
      | true ↦ λ e. absurd (omega (arith, e))
      | false ↦ λ e. refl
    ] e

no_suffix : (text : List ℕ) → NoBackslashEnd text → suffix_len (λ b. b == 92) text ≡ 0
no_suffix [] h = refl
no_suffix (b ∷ []) h = rw h refl
no_suffix (b ∷ c ∷ bs) h =
    let split : reverse (b ∷ c ∷ bs) ≡ reverse (c ∷ bs) ++ b ∷ [] = reverse-append (b ∷ []) (c ∷ bs) in
    let one : reverse (c ∷ bs) ≡ reverse bs ++ c ∷ [] = reverse-append (c ∷ []) bs in
    let some : 0 < length (reverse (c ∷ bs)) = omega (arith, ap length one, length-append (reverse bs) (c ∷ [])) in
    ap (prefix_len (λ b. b == 92)) split ∙ front_stands (λ b. b == 92) (reverse (c ∷ bs)) (b ∷ []) some
    (no_suffix (c ∷ bs) h)

trimmed_is : (text : List ℕ) → NoBackslashEnd text → trimmed text ≡ text
trimmed_is text h = rw (no_suffix text h) (take_all (length text - 0) text (omega arith))

key_is : (key : List ℕ) → 0 < length key → IsPlainWord key → key_text key ≡ escaped key_escapes key
key_is key some h = sym (kept_key key key (sym (trimmed_is key h.end)) some)
    ∙ ap (escaped key_escapes) (one_line_is key h.none)

no_hash_first : (name : List ℕ) → 0 < length name → NoHash name → (get_or name 0 0 == 35) ≡ false
no_hash_first [] some h = absurd (omega arith)
no_hash_first (b ∷ bs) some h = h

name_is : (name : List ℕ) → 0 < length name → NoHash name → IsPlainWord name
    → name_text name ≡ escaped name_escapes name
name_is name some no_comment h =
    sym (kept_name name name 0 (sym (trimmed_is name h.end)) some (no_hash_first name some no_comment))
    ∙ ap (escaped name_escapes) (one_line_is name h.none)

escaped_some : (e : Escapes) (text : List ℕ) → 0 < length text → 0 < length (escaped e text)
unfolding escaped
escaped_some e [] some = absurd (omega arith)
escaped_some e (b ∷ bs) some =
    elim (e.is_mark b) as (λ t. 0 < length (cond t (92 ∷ e.written b ∷ []) (b ∷ []) ++ escaped e bs))
    [ true ↦ omega arith | false ↦ omega arith ]

word_written : (k : Kind) (e : Escapes) (text written rest : List ℕ) → Suits k e text → 0 < length text
    → written ≡ escaped e text → Ends k rest → IsWritten k written rest text
word_written k e text written rest suits some is ends =
    let part = escaped_is_part k e text rest suits ends in
    record {
      some = subst (λ (t : List ℕ). 0 < length t) (sym is) (escaped_some e text some);
      marks = part.0;
      is = is ∙ part.1;
      part = part.2;
      says = part.3;
    }

key_written : (key rest : List ℕ) → IsWord key → IsPlainWord key → IsWritten key_part (key_text key) (61 ∷ rest) key
key_written key rest is plain =
    word_written key_part key_escapes key (key_text key) (61 ∷ rest) (suits_key key plain.end) is.filled
    (key_is key is.filled plain)
    (ends_before key_part 61 rest refl refl)

tag_value_written : (value rest : List ℕ) → IsWord value → IsPlainWord value → Ends tag_value_part rest
    → IsWritten tag_value_part (key_text value) rest value
tag_value_written value rest is plain ends =
    word_written tag_value_part key_escapes value (key_text value) rest (suits_tag_value value plain.end) is.filled
    (key_is value is.filled plain) ends

name_written : (name rest : List ℕ) → IsWord name → IsPlainWord name → NoHash name → Ends name_part rest
    → IsWritten name_part (name_text name) rest name
name_written name rest is plain no_comment ends =
    word_written name_part name_escapes name (name_text name) rest (suits_name name plain.end) is.filled
    (name_is name is.filled no_comment plain) ends

-- ---- values

no_quote_of : (text : List ℕ) → Clean text → NoQuote text
no_quote_of [] h = tt
no_quote_of (b ∷ bs) h = (or_parts (b == 92) (b == 34) (or_parts (ends_line b) (b == 92 || b == 34) (h.none).0).1).1

unquoted_of : (value : Value) → IsValue value → IsNoText value → IsUnquoted (value_text value) value
unquoted_of value is h =
    let v = plain_value value is h in
    record { none = v.none; no_quote = no_quote_of (value_text value) v.clean; says = v.is }

value_written : (value : Value) (rest : List ℕ) → IsValue value → IsPlainValue value
    → IsQuoted (value_text value) rest value ⊎ IsUnquoted (value_text value) value
unfolding value_text
value_written (Int n) rest is plain = inr (unquoted_of (Int n) is tt)
value_written (Uint n) rest is plain = inr (unquoted_of (Uint n) is tt)
value_written (Fixed n) rest is plain = inr (unquoted_of (Fixed n) is tt)
value_written (Truth b) rest is plain = inr (unquoted_of (Truth b) is tt)
value_written (Text text) rest is plain =
    let part = escaped_is_part text_part text_escapes text (34 ∷ rest) (suits_text text)
    (ends_before text_part 34 rest refl refl) in
    inl (record {
      marks = part.0;
      is = ap (λ (t : List ℕ). 34 ∷ (t ++ 34 ∷ [])) (ap (escaped text_escapes) (one_line_is text plain) ∙ part.1);
      part = part.2;
      says = ap Text part.3;
    })

-- ---- UTF-8

utf8_none : IsUtf8 []
utf8_none = ([], (refl, refl))

key_utf8 : (key : List ℕ) → IsWord key → IsPlainWord key → IsUtf8 (key_text key)
key_utf8 key is plain = subst IsUtf8 (sym (key_is key is.filled plain))
    (escaped-IsUtf8 (codes ",= ") key_low key is.utf8)

value_utf8 : (value : Value) → IsValue value → IsPlainValue value → IsUtf8 (value_text value)
unfolding value_text
value_utf8 (Int n) is plain = (plain_value (Int n) is tt).clean.utf8
value_utf8 (Uint n) is plain = (plain_value (Uint n) is tt).clean.utf8
value_utf8 (Fixed n) is plain = (plain_value (Fixed n) is tt).clean.utf8
value_utf8 (Truth b) is plain = (plain_value (Truth b) is tt).clean.utf8
value_utf8 (Text text) is plain =
    IsUtf8-append (34 ∷ escaped text_escapes (on_one_line text)) (34 ∷ [])
    (IsUtf8-append (34 ∷ []) (escaped text_escapes (on_one_line text)) (one_ascii 34 (omega arith))
    (subst (λ (t : List ℕ). IsUtf8 (escaped text_escapes t)) (sym (one_line_is text plain))
    (escaped-IsUtf8 (codes "\"\\") text_low text is)))
    (one_ascii 34 (omega arith))

pair_utf8 : (pair : List ℕ × List ℕ) → IsUtf8 pair.0 → IsUtf8 pair.1 → IsUtf8 (pair_text pair)
pair_utf8 pair a b = IsUtf8-append pair.0 (61 ∷ pair.1) a (IsUtf8-append (61 ∷ []) pair.1
    (one_ascii 61 (omega arith)) b)

-- ---- tags and fields

abbrev ArePlainTags : List Tag → Type 0
ArePlainTags = AllByRecursion (λ (tag : Tag). IsPlainWord tag.0 × IsPlainWord tag.1)

abbrev ArePlainFields : List Field → Type 0
ArePlainFields = AllByRecursion (λ (field : Field). IsPlainWord field.0 × IsPlainValue field.1)

abbrev written_tag : Tag → List ℕ × List ℕ
written_tag tag = (key_text tag.0, key_text tag.1)

abbrev written_field : Field → List ℕ × List ℕ
written_field field = (key_text field.0, value_text field.1)

tags_text : (tags : List Tag) → flat_map tag_text tags ≡ pairs_text (map written_tag tags)
unfolding tag_text
tags_text [] = refl
tags_text (tag ∷ tags) = ap (λ (t : List ℕ). 44 ∷ (t ++ flat_map tag_text tags))
    (append_assoc (key_text tag.0) (61 ∷ []) (key_text tag.1))
    ∙ ap (λ (t : List ℕ). 44 ∷ (pair_text (written_tag tag) ++ t)) (tags_text tags)

one_field : (field : Field) → field_text field ≡ pair_text (written_field field)
unfolding field_text
one_field field = append_assoc (key_text field.0) (61 ∷ []) (value_text field.1)

fields_text : (fields : List Field) → flat_map (λ (field : Field). codes "," ++ field_text field) fields ≡ pairs_text
    (map written_field fields)
fields_text [] = refl
fields_text (field ∷ fields) = rw (one_field field) (ap (λ (t : List ℕ). 44 ∷ (pair_text (written_field field) ++ t))
    (fields_text fields))

-- a comma or a space stands there
tags_end : (k : Kind) → k.ends 44 ≡ true → k.ends 32 ≡ true → (tags : List Tag) (rest : List ℕ)
    → Ends k (pairs_text (map written_tag tags) ++ 32 ∷ rest)
tags_end k comma space [] rest = ends_before k 32 rest space refl
tags_end k comma space (tag ∷ tags) rest = ends_before k 44 ((pair_text (written_tag tag)
    ++ pairs_text (map written_tag tags)) ++ 32 ∷ rest) comma refl

tags_are : (tags : List Tag) (rest : List ℕ) → AllByRecursion metrics.IsTag tags → ArePlainTags tags
    → AllAre IsTag (map written_tag tags) (32 ∷ rest) tags
tags_are [] rest is plain = tt
tags_are (tag ∷ tags) rest is plain = (
  record {
    key = key_written tag.0 (key_text tag.1 ++ (pairs_text (map written_tag tags) ++ 32 ∷ rest)) (is.0).0 (plain.0).0;
    value = tag_value_written tag.1 (pairs_text (map written_tag tags) ++ 32 ∷ rest) (is.0).1 (plain.0).1
        (tags_end tag_value_part refl refl tags rest);
  },
  tags_are tags rest is.1 plain.1,
)

fields_are : (fields : List Field) (rest : List ℕ) → AllByRecursion metrics.IsField fields → ArePlainFields fields
    → AllAre IsField (map written_field fields) rest fields
fields_are [] rest is plain = tt
fields_are (field ∷ fields) rest is plain = (
  record {
    key = key_written field.0 (value_text field.1 ++ (pairs_text (map written_field fields) ++ rest)) (is.0).0
        (plain.0).0;
    value = value_written field.1 (pairs_text (map written_field fields) ++ rest) (is.0).1 (plain.0).1;
  },
  fields_are fields rest is.1 plain.1,
)

tags_utf8 : (tags : List Tag) → AllByRecursion metrics.IsTag tags → ArePlainTags tags
    → IsUtf8 (pairs_text (map written_tag tags))
tags_utf8 [] is plain = utf8_none
tags_utf8 (tag ∷ tags) is plain =
    IsUtf8-append (44 ∷ []) (pair_text (written_tag tag) ++ pairs_text (map written_tag tags))
    (one_ascii 44 (omega arith))
    (IsUtf8-append (pair_text (written_tag tag)) (pairs_text (map written_tag tags))
    (pair_utf8 (written_tag tag) (key_utf8 tag.0 (is.0).0 (plain.0).0) (key_utf8 tag.1 (is.0).1 (plain.0).1))
    (tags_utf8 tags is.1 plain.1))

field_utf8 : (field : Field) → metrics.IsField field → IsPlainWord field.0 × IsPlainValue field.1
    → IsUtf8 (pair_text (written_field field))
field_utf8 field is plain = pair_utf8 (written_field field) (key_utf8 field.0 is.0 plain.0)
    (value_utf8 field.1 is.1 plain.1)

fields_utf8 : (fields : List Field) → AllByRecursion metrics.IsField fields → ArePlainFields fields
    → IsUtf8 (pairs_text (map written_field fields))
fields_utf8 [] is plain = utf8_none
fields_utf8 (field ∷ fields) is plain =
    IsUtf8-append (44 ∷ []) (pair_text (written_field field) ++ pairs_text (map written_field fields))
    (one_ascii 44 (omega arith))
    (IsUtf8-append (pair_text (written_field field)) (pairs_text (map written_field fields))
    (field_utf8 field is.0 plain.0) (fields_utf8 fields is.1 plain.1))

-- ---- the line

-- the metric of these parts
abbrev made : List ℕ → List Tag → List Field → ℤ → Content
made name tags fields time = record { name = name; tags = tags; fields = fields; time = time }

-- its line as it is written, with a time behind its spaces or without one
abbrev written : List ℕ → List Tag → Field → List Field → Option (ℕ × List ℕ) → Written
written name tags field fields time = record {
  before = 0;
  name = name_text name;
  tags = map written_tag tags;
  gap = 1;
  first = written_field field;
  others = map written_field fields;
  time = time;
  after = 0;
}

-- its time behind one space
abbrev spaced_time : ℤ → Option (ℕ × List ℕ)
spaced_time time = Some (1, signed_decimal time)

regroup : (name tags fields others time : List ℕ)
    → ((((name ++ tags) ++ 32 ∷ []) ++ (fields ++ others)) ++ 32 ∷ []) ++ time ≡ name
    ++ (tags ++ (32 ∷ (fields ++ (others ++ ((32 ∷ time) ++ [])))))
regroup name tags fields others time = simp (append_assoc, append-nil)

line_is_spelled : (name : List ℕ) (tags : List Tag) (field : Field) (fields : List Field) (time : ℤ)
    → (head_text (made name tags (field ∷ fields) time) ++ codes " ")
    ++ signed_decimal time ≡ line_spelling (written name tags field fields (spaced_time time))
unfolding head_text
line_is_spelled name tags field fields time =
    rw (tags_text tags, one_field field, fields_text fields)
    (regroup (name_text name) (pairs_text (map written_tag tags)) (pair_text (written_field field))
    (pairs_text (map written_field fields)) (signed_decimal time))

regroup_untimed : (name tags fields others : List ℕ)
    → ((name ++ tags) ++ 32 ∷ []) ++ (fields ++ others) ≡ name ++ (tags ++ (32 ∷ (fields ++ (others ++ []))))
regroup_untimed name tags fields others = simp (append_assoc, append-nil)

head_is_spelled : (name : List ℕ) (tags : List Tag) (field : Field) (fields : List Field) (time : ℤ)
    → head_text (made name tags (field ∷ fields) time) ≡ line_spelling (written name tags field fields None)
unfolding head_text
head_is_spelled name tags field fields time =
    rw (tags_text tags, one_field field, fields_text fields)
    (regroup_untimed (name_text name) (pairs_text (map written_tag tags)) (pair_text (written_field field))
    (pairs_text (map written_field fields)))

name_no_hash : (e : Escapes) (text : List ℕ) → NoHash text → NoHash (escaped e text)
unfolding escaped
name_no_hash e [] h = tt
name_no_hash e (b ∷ bs) h =
    elim (e.is_mark b) as (λ t. NoHash (cond t (92 ∷ e.written b ∷ []) (b ∷ []) ++ escaped e bs))
    [ true ↦ refl | false ↦ h ]

line_is_line : (name : List ℕ) (tags : List Tag) (field : Field) (fields : List Field) (time : ℤ)
    (text : Option (ℕ × List ℕ)) (read moment : ℤ) → IsMetric (made name tags (field ∷ fields) time)
    → IsPlain (made name tags (field ∷ fields) time) → IsTime text read moment
    → IsLine (written name tags field fields text) (record {
      name = name;
      tags = tags;
      fields = field ∷ fields;
      time = read;
    }) moment
line_is_line name tags field fields time text read moment is plain says =
    let spelled = name_is name is.name.filled plain.no_comment plain.name in
    record {
      name = name_written name _ is.name plain.name plain.no_comment (tags_end name_part refl refl tags _);
      no_comment = subst NoHash (sym spelled) (name_no_hash name_escapes name plain.no_comment);
      tags = tags_are tags _ is.tags plain.tags;
      gap = omega arith;
      fields = fields_are (field ∷ fields) _ is.fields plain.fields;
      time = says;
    }

line_utf8 : (name : List ℕ) (tags : List Tag) (field : Field) (fields : List Field) (time : ℤ)
    (text : Option (ℕ × List ℕ)) → IsMetric (made name tags (field ∷ fields) time)
    → IsPlain (made name tags (field ∷ fields) time) → IsUtf8 (time_text text ++ [])
    → IsUtf8 (line_spelling (written name tags field fields text))
line_utf8 name tags field fields time text is plain timed =
    let others = IsUtf8-append (pairs_text (map written_field fields)) (time_text text ++ [])
    (fields_utf8 fields (is.fields).1 (plain.fields).1) timed in
    let first = IsUtf8-append (pair_text (written_field field)) _ (field_utf8 field (is.fields).0 (plain.fields).0)
    others in
    let behind_tags = IsUtf8-append (32 ∷ []) _ (one_ascii 32 (omega arith)) first in
    let behind_name = IsUtf8-append (pairs_text (map written_tag tags)) _
    (tags_utf8 tags is.tags plain.tags) behind_tags in
    let front : IsUtf8 (name_text name) = subst IsUtf8 (sym (name_is name is.name.filled plain.no_comment plain.name))
    (escaped-IsUtf8 (codes ", ") name_low name is.name.utf8) in
    IsUtf8-append (name_text name) _ front behind_name

spaced_utf8 : (time : ℤ) → FitsSigned w64 time → IsUtf8 (time_text (spaced_time time) ++ [])
spaced_utf8 time fits =
    IsUtf8-append (32 ∷ signed_decimal time) [] (IsUtf8-append (32 ∷ []) (signed_decimal time)
    (one_ascii 32 (omega arith)) (plain_time time fits).clean.utf8) utf8_none

-- the line of a metric is the metric's, but for the time
content_is : (m : Content) (time : ℤ) → IsMetric m → content_of (record
    { name = m.name; tags = m.tags; fields = m.fields; time = time }) ≡ record m { time = time }
content_is m time is =
    let tags : with_values (in_key_order m.tags) ≡ m.tags = ap with_values (sorted_stay m.tags is.sorted)
    ∙ filled_stay m.tags is.tags in
    let fields : in_first_order m.fields ≡ m.fields = distinct_stay m.fields is.distinct in
    ap (λ (ts : List Tag). record { name = m.name; tags = ts; fields = in_first_order m.fields; time = time }) tags
    ∙ ap (λ (fs : List Field). record { name = m.name; tags = m.tags; fields = fs; time = time }) fields

-- a line is read as the metric of these parts, at the time that its text says
read_so : (name : List ℕ) (tags : List Tag) (field : Field) (fields : List Field) (time : ℤ)
    (text : Option (ℕ × List ℕ)) (read moment : ℤ) → IsMetric (made name tags (field ∷ fields) time)
    → IsPlain (made name tags (field ∷ fields) time) → IsTime text read moment → IsUtf8 (time_text text ++ [])
    → reading (line_spelling (written name tags field fields text)) moment
    ≡ Ok (Some (made name tags (field ∷ fields) read))
read_so name tags field fields time text read moment is plain says timed =
    let line : Line = record { name = name; tags = tags; fields = field ∷ fields; time = read } in
    let count = few tags (field ∷ fields) (sorted_stay tags is.sorted) (distinct_stay (field ∷ fields) is.distinct)
    plain.few_tags plain.few_fields in
    written_is_read (written name tags field fields text) line moment
    (line_is_line name tags field fields time text read moment is plain says)
    (line_utf8 name tags field fields time text is plain timed) count
    ∙ ap (λ (content : Content). Ok (Some content)) (content_is (made name tags (field ∷ fields) time) read is)

-- what is told of a metric's line, and of its line without a time
abbrev Told : Content → ℤ → Type 0
Told m moment = (line : List ℕ) × (line_text m ≡ line ++ codes "\n") × HasNone ends_line line
    × (reading line moment ≡ Ok (Some m))

abbrev ToldUntimed : Content → ℤ → Type 0
ToldUntimed m moment = (line : List ℕ) × (untimed_text m ≡ line ++ codes "\n") × HasNone ends_line line
    × (reading line moment ≡ Ok (Some (record m { time = moment })))

told : (name : List ℕ) (tags : List Tag) (fields : List Field) (time moment : ℤ) → IsMetric (made name tags fields time)
    → IsPlain (made name tags fields time)
    → Told (made name tags fields time) moment
unfolding line_text
told name tags [] time moment is plain = absurd (omega (arith, is.some))
told name tags (field ∷ fields) time moment is plain =
    let m = made name tags (field ∷ fields) time in
    let t = plain_time time is.time in (
      (head_text m ++ codes " ") ++ signed_decimal time,
      refl,
      single m is,
      ap (λ (l : List ℕ). reading l moment) (line_is_spelled name tags field fields time)
          ∙ read_so name tags field fields time (spaced_time time) time moment is plain (omega arith, t.none, t.is)
          (spaced_utf8 time is.time),
    )

told_untimed : (name : List ℕ) (tags : List Tag) (fields : List Field) (time moment : ℤ)
    → IsMetric (made name tags fields time) → IsPlain (made name tags fields time)
    → ToldUntimed (made name tags fields time) moment
unfolding untimed_text
told_untimed name tags [] time moment is plain = absurd (omega (arith, is.some))
told_untimed name tags (field ∷ fields) time moment is plain =
    let m = made name tags (field ∷ fields) time in (
      head_text m,
      refl,
      none_head m is,
      ap (λ (l : List ℕ). reading l moment) (head_is_spelled name tags field fields time)
          ∙ read_so name tags field fields time None moment moment is plain refl utf8_none,
    )

pub is_read_back : (m : Content) (moment : ℤ) → IsMetric m → IsPlain m
    → (line : List ℕ) × (line_text m ≡ line ++ codes "\n") × HasNone ends_line line
    × (reading line moment ≡ Ok (Some m))
is_read_back m moment is plain = told m.name m.tags m.fields m.time moment is plain

pub untimed_is_read_back : UntimedIsReadBack
untimed_is_read_back m moment is plain = told_untimed m.name m.tags m.fields m.time moment is plain
