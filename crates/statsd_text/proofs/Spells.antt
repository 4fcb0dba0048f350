-- What is written as a line is read as its metrics.
use Rattle.std.proofs.Common.{◌≡◌, ℕ, ℤ, suc, ◌+◌, ◌<◌, Bool, true, false, List, [], ◌∷◌, ◌++◌, length, map, drop, Ok}
use Rattle.std.proofs.Common.{Option, Some, None, refl, sym, ap, subst, ◌∙◌, arith, append_assoc}
use Rattle.std.specs.Prelude.{◌||◌, ◌&&◌, ◌==◌, codes, filter}
use Rattle.std.specs.List.{AllByRecursion, join_with_byte, list_any, slice_split}
use Rattle.std.specs.Str.{is_utf8}
use Rattle.std.proofs.lemmas.Bool.{ne_eqb, or_parts}
use Rattle.std.proofs.lemmas.List.{append-nil, take_at, drop_all, length-append}
use Rattle.std.proofs.lemmas.Str.{is_utf8-from_IsUtf8}
use Rattle.text_parts.specs.Grammar.{HasNone}
use Rattle.text_parts.specs.Pairs.{pair_text, pairs_text}
use Rattle.text_parts.specs.Split.{is_byte, placed, parts_of, each, AllLack}
use Rattle.text_parts.proofs.Splits.{split_none, split_found, first_is_cut, joined_are_split}
use Rattle.fixed_num.specs.Fixed.{read_as}
use Rattle.metric.specs.declared.value.Value.{Value}
use Rattle.metric.specs.Draft.{Tag}
use Rattle.statsd_text.specs.declared.said.Said.{Said}
use Rattle.statsd_text.specs.Sections.{sections, marker_len}
use Rattle.statsd_text.specs.Tags.{head_tag, head_of, later_tag, later_tags, is_filled}
use Rattle.statsd_text.specs.Said.{texts_of, type_of, value_of, field_of, rate_of, is_positive, counted, part_of}
use Rattle.statsd_text.specs.Reading.{limited, line_reading, is_blank, text_reading, reading}
use Rattle.statsd_text.specs.Grammar.{ends_name, ends_key, ends_value, ends_later_key, ends_later_value, WrittenPart}
use Rattle.statsd_text.specs.Grammar.{rate_spelling, part_spelling, LaterTag, Nothing, Flag, Pair, later_spelling}
use Rattle.statsd_text.specs.Grammar.{Written, head_spelling, parts_spelling, end_spelling, line_spelling}
use Rattle.statsd_text.specs.Grammar.{IsHeadTag, IsRate, IsPart, AreParts, IsLaterTag, given_later, AreLater, given_end}
use Rattle.statsd_text.specs.Grammar.{IsLine, metrics_of, WrittenIsRead}
use Rattle.text_parts.proofs.Lacking.{fewer, none_append, none_any}
use Rattle.statsd_text.proofs.Lacking.{decimal_none, type_text, Unmarked, marked_at, unmarked_more, unmarked_bar}
use Rattle.statsd_text.proofs.Lacking.{unmarked_append, ends_rate}

not_empty : (text : List ℕ) → 0 < length text → (length text == 0) ≡ false
not_empty text some = ne_eqb (length text) 0 (λ e. absurd (omega arith))

-- ---- the head

no_colon : (b : ℕ) → ends_name b ≡ false → is_byte 58 b ≡ false
no_colon b e = (or_parts (b == 58) (b == 44) e).0

no_comma : (b : ℕ) → ends_name b ≡ false → is_byte 44 b ≡ false
no_comma b e = (or_parts (b == 58) (b == 44) e).1

key_parts : (b : ℕ) → ends_key b ≡ false → (is_byte 58 b ≡ false) × (is_byte 44 b ≡ false) × (is_byte 61 b ≡ false)
key_parts b e =
    let last = or_parts (b == 58 || b == 44) (b == 61) e in
    let first = or_parts (b == 58) (b == 44) last.0 in
    (first.0, first.1, last.1)

pair_none : (p : ℕ → Bool) → p 61 ≡ false → ((b : ℕ) → ends_key b ≡ false → p b ≡ false)
    → ((b : ℕ) → ends_name b ≡ false → p b ≡ false)
    → (tag : Tag) → IsHeadTag tag → HasNone p (pair_text tag)
pair_none p e h k tag is = none_append p tag.0 (61 ∷ tag.1) (fewer ends_key p h tag.0 is.key)
    (e, fewer ends_name p k tag.1 is.value)

pairs_no_colon : (tags : List Tag) → AllByRecursion IsHeadTag tags → HasNone (is_byte 58) (pairs_text tags)
pairs_no_colon [] h = tt
pairs_no_colon (tag ∷ tags) h = (
  refl,
  none_append (is_byte 58) (pair_text tag) (pairs_text tags)
      (pair_none (is_byte 58) refl (λ b e. (key_parts b e).0) no_colon tag h.0) (pairs_no_colon tags h.1),
)

head_split : (text : List ℕ) (tags : List Tag) → HasNone (is_byte 44) text → AllByRecursion IsHeadTag tags
    → slice_split (is_byte 44) (text ++ pairs_text tags) ≡ text ∷ map pair_text tags
head_split text [] none h = rw (append-nil text) (split_none (is_byte 44) text none)
head_split text (tag ∷ tags) none h =
    split_found (is_byte 44) text 44 (pair_text tag ++ pairs_text tags) none refl
    ∙ ap (λ (texts : List (List ℕ)). text ∷ texts)
    (head_split (pair_text tag) tags (pair_none (is_byte 44) refl (λ b e. (key_parts b e).1) no_comma tag h.0) h.1)

pub head_tag_read : (offset : ℕ) (tag : Tag) → IsHeadTag tag → head_tag (offset, pair_text tag) ≡ Ok tag
unfolding head_tag
head_tag_read offset tag is =
    let cut = (first_is_cut 61 tag.0 tag.1 (fewer ends_key (is_byte 61) (λ b e. (key_parts b e).2) tag.0 is.key)).1 in
    let some = not_empty tag.0 is.filled in
    rw (cut, some) refl

head_tags_read : (offset : ℕ) (tags : List Tag) → AllByRecursion IsHeadTag tags
    → each head_tag (placed offset (map pair_text tags)) ≡ Ok tags
unfolding each
head_tags_read offset [] h = refl
head_tags_read offset (tag ∷ tags) h =
    rw (head_tag_read offset tag h.0, head_tags_read (offset + length (pair_text tag) + 1) tags h.1) refl

head_read : (w : Written) (said : List Said) → IsLine w said → head_of (head_spelling w) ≡ Ok (w.name, w.tags)
unfolding head_of parts_of
head_read w said is =
    let texts = head_split w.name w.tags (fewer ends_name (is_byte 44) no_comma w.name is.name) is.tags in
    let some = not_empty w.name is.filled in
    rw (texts, some, head_tags_read (0 + length w.name + 1) w.tags is.tags) refl

-- ---- the tags behind `|#`

later_key_parts : (b : ℕ) → ends_later_key b ≡ false → (is_byte 58 b ≡ false) × (is_byte 44 b ≡ false)
    × (is_byte 124 b ≡ false)
later_key_parts b e =
    let last = or_parts (b == 58 || b == 44) (b == 124) e in
    let first = or_parts (b == 58) (b == 44) last.0 in
    (first.0, first.1, last.1)

later_none : (p : ℕ → Bool) → p 58 ≡ false → ((b : ℕ) → ends_later_key b ≡ false → p b ≡ false)
    → ((b : ℕ) → ends_later_value b ≡ false → p b ≡ false)
    → (tag : LaterTag) → IsLaterTag tag → HasNone p (later_spelling tag)
later_none p e h k Nothing is = tt
later_none p e h k (Flag key) is = fewer ends_later_key p h key is.1
later_none p e h k (Pair key value) is = none_append p key (58 ∷ value) (fewer ends_later_key p h key is.1)
    (e, fewer ends_later_value p k value is.2)

later_no_comma : (tags : List LaterTag) → AllByRecursion IsLaterTag tags → AllLack 44 (map later_spelling tags)
later_no_comma [] h = tt
later_no_comma (tag ∷ tags) h = (
  later_none (is_byte 44) refl (λ b e. (later_key_parts b e).1) (λ b e. (or_parts (b == 44) (b == 124) e).0) tag h.0,
  later_no_comma tags h.1,
)

later_no_bar : (tag : LaterTag) → IsLaterTag tag → list_any (is_byte 124) (later_spelling tag) ≡ false
later_no_bar tag is =
    none_any (is_byte 124) (later_spelling tag)
    (later_none (is_byte 124) refl (λ b e. (later_key_parts b e).2) (λ b e. (or_parts (b == 44) (b == 124) e).1) tag is)

pub flag_read : (offset : ℕ) (key : List ℕ) → IsLaterTag (Flag key) → later_tag (offset, key) ≡ Ok (key, codes "true")
unfolding later_tag
flag_read offset key is =
    let cut = (first_is_cut 58 key [] (fewer ends_later_key (is_byte 58) (λ b e. (later_key_parts b e).0) key is.1)).0
    in
    let some = not_empty key is.0 in
    let bar = later_no_bar (Flag key) is in
    rw (bar, cut, some) refl

pub pair_read : (offset : ℕ) (key value : List ℕ) → IsLaterTag (Pair key value)
    → later_tag (offset, key ++ 58 ∷ value) ≡ Ok (key, value)
unfolding later_tag
pair_read offset key value is =
    let cut = (first_is_cut 58 key value (fewer ends_later_key (is_byte 58)
    (λ b e. (later_key_parts b e).0) key is.1)).1 in
    let some = not_empty key is.0 in
    let bar = later_no_bar (Pair key value) is in
    rw (bar, cut, some) refl

later_read : (offset : ℕ) (tags : List LaterTag) → AllByRecursion IsLaterTag tags
    → each later_tag (filter is_filled (placed offset (map later_spelling tags))) ≡ Ok (given_later tags)
unfolding each
later_read offset [] h = refl
later_read offset (Nothing ∷ tags) h = later_read (offset + 0 + 1) tags h.1
later_read offset (Flag key ∷ tags) h =
    let some = not_empty key (h.0).0 in
    rw (some, flag_read offset key h.0, later_read (offset + length key + 1) tags h.1) refl
later_read offset (Pair key value ∷ tags) h =
    let some : (length (key ++ 58 ∷ value) == 0) ≡ false = not_empty (key ++ 58 ∷ value)
    (omega (arith, length-append key (58 ∷ value))) in
    rw (some, pair_read offset key value h.0, later_read (offset + length (key ++ 58 ∷ value) + 1) tags h.1) refl

-- ---- the parts

value_parts : (b : ℕ) → ends_value b ≡ false → (is_byte 58 b ≡ false) × (is_byte 124 b ≡ false)
value_parts b e = or_parts (b == 58) (b == 124) e

rate_none : (rate : Option (List ℕ)) (n : Option ℤ) → IsRate rate n → HasNone (is_byte 58) (rate_spelling rate)
rate_none None n is = tt
rate_none (Some text) n is = (
  refl,
  (
    refl,
    fewer ends_rate (is_byte 58) (λ b e. (value_parts b e).0) text
        (decimal_none text is.0 is.1),
  ),
)

part_no_colon : (w : WrittenPart) (said : Said) → IsPart w said → HasNone (is_byte 58) (part_spelling w)
part_no_colon w said is =
    let named = type_text w.type_text said.metric_type is.named in
    none_append (is_byte 58) w.value (124 ∷ (w.type_text ++ rate_spelling w.rate))
    (fewer ends_value (is_byte 58) (λ b e. (value_parts b e).0) w.value is.none) (
      refl,
      none_append (is_byte 58) w.type_text (rate_spelling w.rate)
          (fewer ends_rate (is_byte 58) (λ b e. (value_parts b e).0) w.type_text named.none)
          (rate_none w.rate is.rate is.is_rate),
    )

parts_no_colon : (ws : List WrittenPart) (said : List Said) → AreParts ws said → AllLack 58 (map part_spelling ws)
parts_no_colon [] said h = tt
parts_no_colon (w ∷ ws) [] h = absurd h
parts_no_colon (w ∷ ws) (one ∷ said) h = (part_no_colon w one h.0, parts_no_colon ws said h.1)

-- a part without a rate, and one with a rate
part_plain : (offset : ℕ) (value name : List ℕ) (said : Said) (number : Value) → HasNone (is_byte 124) value
    → HasNone (is_byte 124) name
    → type_of name ≡ Some said.metric_type → value_of said.metric_type value ≡ Ok number
    → counted said.metric_type number None ≡ Ok said.value
    → said.field ≡ field_of said.metric_type value → part_of (offset, value ++ 124 ∷ name) ≡ Ok said
unfolding part_of texts_of rate_of
part_plain offset value name said number value_none name_none named is_value counts field =
    let cut = (first_is_cut 124 value name value_none).1 in
    let end = (first_is_cut 124 name [] name_none).0 in
    rw (cut, end, named, is_value, counts, ← field) refl

part_rated : (offset : ℕ) (value name rate : List ℕ) (said : Said) (number : Value) (n : ℤ)
    → HasNone (is_byte 124) value → HasNone (is_byte 124) name
    → type_of name ≡ Some said.metric_type → value_of said.metric_type value ≡ Ok number → read_as rate ≡ Ok n
    → is_positive n ≡ true
    → counted said.metric_type number (Some n) ≡ Ok said.value
    → said.field ≡ field_of said.metric_type value → part_of (offset, value ++ 124 ∷ (name ++ 124 ∷ 64 ∷ rate)) ≡ Ok
    said
unfolding part_of texts_of rate_of
part_rated offset value name rate said number n value_none name_none named is_value is_rate above counts field =
    let cut = (first_is_cut 124 value (name ++ 124 ∷ 64 ∷ rate) value_none).1 in
    let end = (first_is_cut 124 name (64 ∷ rate) name_none).1 in
    rw (cut, end, named, is_value, is_rate, above, counts, ← field) refl

part_read : (offset : ℕ) (w : WrittenPart) (said : Said) → IsPart w said → part_of (offset, part_spelling w) ≡ Ok said
part_read offset w said is = by_rate w.rate refl is.is_rate
  where
    value_none : HasNone (is_byte 124) w.value
    value_none = fewer ends_value (is_byte 124) (λ b e. (value_parts b e).1) w.value is.none

    name_none : HasNone (is_byte 124) w.type_text
    name_none = fewer ends_rate (is_byte 124) (λ b e. (value_parts b e).1) w.type_text
        (type_text w.type_text said.metric_type is.named).none

    by_rate : (rate : Option (List ℕ)) → w.rate ≡ rate → IsRate rate is.rate
        → part_of (offset, part_spelling w) ≡ Ok said
    by_rate None e none =
        rw (e, append-nil w.type_text)
        (part_plain offset w.value w.type_text said is.number value_none name_none is.named is.is_value
        (rw none at is.counts) is.field)
    by_rate (Some rate) e some =
        rw e
        (part_rated offset w.value w.type_text rate said is.number some.0 value_none name_none is.named is.is_value
        some.1 some.2 (rw some.3 at is.counts) is.field)

parts_read : (offset : ℕ) (ws : List WrittenPart) (said : List Said) → AreParts ws said
    → each part_of (placed offset (map part_spelling ws)) ≡ Ok said
unfolding each
parts_read offset [] [] h = refl
parts_read offset [] (one ∷ said) h = absurd h
parts_read offset (w ∷ ws) [] h = absurd h
parts_read offset (w ∷ ws) (one ∷ said) h =
    rw (part_read offset w one h.0, parts_read (offset + length (part_spelling w) + 1) ws said h.1) refl

-- ---- no `|#` is in the parts

rate_unmarked : (rate : Option (List ℕ)) (n : Option ℤ) (rest : List ℕ) → IsRate rate n → Unmarked rest
    → Unmarked (rate_spelling rate ++ rest)
rate_unmarked None n rest is h = h
rate_unmarked (Some text) n rest is h =
    let none : HasNone (is_byte 124) text = fewer ends_rate (is_byte 124) (λ b e. (value_parts b e).1) text
    (decimal_none text is.0 is.1) in
    unmarked_bar 64 (text ++ rest) refl (unmarked_more 64 (text ++ rest) refl (unmarked_append text rest none h))

part_unmarked : (w : WrittenPart) (said : Said) (rest : List ℕ) → IsPart w said → Unmarked rest
    → Unmarked (part_spelling w ++ rest)
part_unmarked w said rest is h =
    let named = type_text w.type_text said.metric_type is.named in
    let value_none : HasNone (is_byte 124) w.value = fewer ends_value (is_byte 124)
    (λ b e. (value_parts b e).1) w.value is.none in
    let name_none : HasNone (is_byte 124) w.type_text = fewer ends_rate (is_byte 124)
    (λ b e. (value_parts b e).1) w.type_text named.none in
    let behind : Unmarked (w.type_text ++ (rate_spelling w.rate ++ rest)) =
    unmarked_append w.type_text (rate_spelling w.rate ++ rest) name_none
    (rate_unmarked w.rate is.rate rest is.is_rate h) in
    let whole : part_spelling w ++ rest ≡ w.value ++ 124 ∷ (w.type_text ++ (rate_spelling w.rate ++ rest)) =
    append_assoc w.value (124 ∷ (w.type_text ++ rate_spelling w.rate)) rest
    ∙ ap (λ (t : List ℕ). w.value ++ 124 ∷ t) (append_assoc w.type_text (rate_spelling w.rate) rest) in
    subst Unmarked (sym whole) (unmarked_append w.value (124 ∷ (w.type_text ++ (rate_spelling w.rate ++ rest)))
    value_none
    (subst (λ (t : List ℕ). Unmarked (124 ∷ t)) (sym (ap (λ (t : List ℕ). t ++ (rate_spelling w.rate ++ rest))
    named.is))
    (unmarked_bar named.first (named.rest ++ (rate_spelling w.rate ++ rest)) named.no_hash
    (subst (λ (t : List ℕ). Unmarked t) (ap (λ (t : List ℕ). t ++ (rate_spelling w.rate ++ rest)) named.is) behind))))

parts_unmarked : (w : WrittenPart) (ws : List WrittenPart) (said : List Said) → AreParts (w ∷ ws) said
    → Unmarked (join_with_byte 58 (map part_spelling (w ∷ ws)))
unfolding marker_len
parts_unmarked w ws [] h = absurd h
parts_unmarked w [] (one ∷ said) h = subst Unmarked (append-nil (part_spelling w)) (part_unmarked w one [] h.0 refl)
parts_unmarked w (next ∷ ws) (one ∷ said) h =
    let rest = parts_unmarked next ws said h.1 in
    part_unmarked w one (58 ∷ join_with_byte 58 (map part_spelling (next ∷ ws))) h.0
    (unmarked_more 58 (join_with_byte 58 (map part_spelling (next ∷ ws))) refl rest)

-- ---- the line

-- the sections of a line, given what stands behind its parts
sections_read : (head parts : List ℕ) (end : List ℕ) (tags : List ℕ) → HasNone (is_byte 58) head
    → marker_len (parts ++ end) ≡ length parts
    → drop (length parts + 2) (parts ++ end) ≡ tags
    → sections (head ++ 58 ∷ (parts ++ end)) ≡ Ok (record {
      head = head;
      parts = (length head + 1, parts);
      tags = (length head + 1 + length parts + 2, tags);
    })
unfolding sections
sections_read head parts end tags none len behind =
    let cut = (first_is_cut 58 head (parts ++ end) none).1 in
    rw (cut, len, take_at parts end (length parts) refl, behind) refl

end_len : (w : Written) (said : List Said) (later : Option (LaterTag × List LaterTag)) → IsLine w said
    → marker_len (parts_spelling w ++ end_spelling later) ≡ length (parts_spelling w)
end_len w said None is = rw (append-nil (parts_spelling w)) (parts_unmarked w.first w.others said is.parts)
end_len w said (Some later) is = marked_at (parts_spelling w)
    (join_with_byte 44 (map later_spelling (later.0 ∷ later.1))) (parts_unmarked w.first w.others said is.parts)

tags_text : Option (LaterTag × List LaterTag) → List ℕ
tags_text None = []
tags_text (Some later) = join_with_byte 44 (map later_spelling (later.0 ∷ later.1))

behind_two : (xs : List ℕ) (b c : ℕ) (ys : List ℕ) → drop (length xs + 2) (xs ++ b ∷ c ∷ ys) ≡ ys
behind_two [] b c ys = refl
behind_two (x ∷ xs) b c ys = let m : length (x ∷ xs) + 2 ≡ suc (length xs + 2) = omega arith in
    rw m (behind_two xs b c ys)

end_behind : (parts : List ℕ) (later : Option (LaterTag × List LaterTag))
    → drop (length parts + 2) (parts ++ end_spelling later) ≡ tags_text later
unfolding tags_text
end_behind parts None = rw (append-nil parts) (drop_all (length parts + 2) parts (omega arith))
end_behind parts (Some later) = behind_two parts 124 35 (join_with_byte 44 (map later_spelling (later.0 ∷ later.1)))

end_read : (offset : ℕ) (later : Option (LaterTag × List LaterTag)) → AreLater later
    → later_tags (offset, tags_text later) ≡ Ok (given_end later)
unfolding later_tags parts_of each tags_text
end_read offset None h = refl
end_read offset (Some later) h =
    let texts = joined_are_split 44 (later_spelling later.0) (map later_spelling later.1)
    (later_no_comma (later.0 ∷ later.1) h) in
    rw texts (later_read offset (later.0 ∷ later.1) h)

all_parts_read : (offset : ℕ) (w : Written) (said : List Said) → IsLine w said
    → each part_of (parts_of 58 (offset, parts_spelling w)) ≡ Ok said
unfolding parts_of
all_parts_read offset w said is =
    let texts = joined_are_split 58 (part_spelling w.first) (map part_spelling w.others)
    (parts_no_colon (w.first ∷ w.others) said is.parts) in
    rw texts (parts_read offset (w.first ∷ w.others) said is.parts)

line_read : (w : Written) (said : List Said) (moment : ℤ) → IsLine w said
    → line_reading (line_spelling w) moment ≡ limited (metrics_of w said moment)
unfolding line_reading
line_read w said moment is =
    let head_none : HasNone (is_byte 58) (head_spelling w) =
    none_append (is_byte 58) w.name (pairs_text w.tags) (fewer ends_name (is_byte 58) no_colon w.name is.name)
    (pairs_no_colon w.tags is.tags) in
    let line = sections_read (head_spelling w) (parts_spelling w) (end_spelling w.later) (tags_text w.later) head_none
    (end_len w said w.later is) (end_behind (parts_spelling w) w.later) in
    let start : ℕ = length (head_spelling w) + 1 in
    rw (
      line,
      head_read w said is,
      end_read (start + length (parts_spelling w) + 2) w.later is.later,
      all_parts_read start w said is,
    ) refl

-- a line with a colon isn't blank
colon_blank : (front rest : List ℕ) → is_blank (front ++ 58 ∷ rest) ≡ false
colon_blank [] rest = refl
colon_blank (b ∷ front) rest =
    elim (b == 32) as (λ t. (t && is_blank (front ++ 58 ∷ rest)) ≡ false)
    [ true ↦ colon_blank front rest | false ↦ refl ]

pub written_is_read : WrittenIsRead
unfolding reading text_reading
written_is_read w said moment is u few =
    let utf8 : is_utf8 (line_spelling w) ≡ true = is_utf8-from_IsUtf8 (line_spelling w) u in
    let some = colon_blank (head_spelling w) (parts_spelling w ++ end_spelling w.later) in
    rw (utf8, some, line_read w said moment is, few) refl
