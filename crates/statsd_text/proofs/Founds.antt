-- What is read as metrics is written as a line.
use Rattle.std.proofs.Common.{◌≡◌, ℕ, ℤ, suc, ◌+◌, ◌<◌, Bool, true, false, cond, List, [], ◌∷◌, ◌++◌, length, map, take}
use Rattle.std.proofs.Common.{drop, get_or, Result, Ok, Err, Option, Some, None, refl, sym, ap, subst, ◌∙◌, arith, ◌⊎◌}
use Rattle.std.proofs.Common.{inl, inr}
use Rattle.std.specs.Prelude.{◌||◌, ◌&&◌, ◌==◌, codes, filter}
use Rattle.std.specs.List.{AllByRecursion, join_with_byte, list_any, slice_split}
use Rattle.std.specs.Str.{IsUtf8, is_utf8}
use Rattle.std.specs.Str.Lossy.{utf8_valid_len}
use Rattle.std.proofs.lemmas.Bool.{eqb-true, ne_eqb, or_parts}
use Rattle.std.proofs.lemmas.List.{append-nil, take_all, drop_all}
use Rattle.std.proofs.lemmas.List.Splits.{length-slice_split, join_with_byte-slice_split}
use Rattle.std.proofs.lemmas.Str.{IsUtf8-from_is_utf8}
use Rattle.text_parts.specs.Grammar.{HasNone}
use Rattle.text_parts.specs.Pairs.{pair_text, pairs_text}
use Rattle.text_parts.specs.Chain.{◌>>=◌}
use Rattle.text_parts.specs.Split.{PartAt, is_byte, first_part, placed, parts_of, each, behind_first}
use Rattle.text_parts.proofs.Founds.{bind_ok, same_ok, some_of}
use Rattle.text_parts.proofs.Lacking.{none_split}
use Rattle.text_parts.proofs.Splits.{cut_is_first, parts_none}
use Rattle.fixed_num.specs.declared.fixed.NumFault.{NumFault}
use Rattle.fixed_num.specs.declared.fixed.NumFault.TheVariants as numbers
use Rattle.fixed_num.specs.Fixed.{read_as}
use Rattle.metric.specs.declared.metric.Content.{Content}
use Rattle.metric.specs.Draft.{Tag}
use Rattle.statsd_text.specs.declared.fault.StatsdFault.{StatsdFault}
use Rattle.statsd_text.specs.declared.fault.StatsdKind.{StatsdKind}
use Rattle.statsd_text.specs.declared.fault.StatsdKind.TheVariants as kinds
use Rattle.statsd_text.specs.declared.said.MetricType.{MetricType}
use Rattle.statsd_text.specs.declared.said.Said.{Said}
use Rattle.statsd_text.specs.Sections.{fault, Sections, sections, sections_of, marker_len}
use Rattle.statsd_text.specs.Tags.{name_of, head_tag, valued, head_of, later_tag, later_tags, is_filled, value_or_true}
use Rattle.statsd_text.specs.Said.{Texts, texts_of, texts_from, typed, rate_text, type_of, value_of, field_of}
use Rattle.statsd_text.specs.Said.{placed_at, rate_of, rate_from, is_positive, counted, part_of}
use Rattle.statsd_text.specs.Reading.{content_of, has_too_many, limited, line_reading, is_blank, text_reading, reading}
use Rattle.statsd_text.specs.Grammar.{ends_name, WrittenPart, rate_spelling, part_spelling, LaterTag, Nothing, Flag}
use Rattle.statsd_text.specs.Grammar.{Pair, later_spelling, Written, parts_spelling, end_spelling, line_spelling}
use Rattle.statsd_text.specs.Grammar.{IsHeadTag, IsRate, IsPart, AreParts, IsLaterTag, given_later, AreLater, given_end}
use Rattle.statsd_text.specs.Grammar.{IsLine, metrics_of, ReadIsWritten}
use Rattle.statsd_text.proofs.Lacking.{both_none, any_none}

-- ---- tests

-- a test that had to fail
test_ok : {A : Type 0} (t : Bool) (kind : StatsdKind) (offset : ℕ) (r : Result A StatsdFault) (y : A)
    → cond t (fault kind offset) r ≡ Ok y → (t ≡ false) × (r ≡ Ok y)
test_ok true kind offset r y e = absurd cc
test_ok false kind offset r y e = (refl, e)

-- ---- texts that were joined

none_joined : (p : ℕ → Bool) (c : ℕ) (texts : List (List ℕ)) → HasNone p (join_with_byte c texts)
    → AllByRecursion (HasNone p) texts
none_joined p c [] h = tt
none_joined p c (text ∷ []) h = (h, tt)
none_joined p c (text ∷ next ∷ texts) h =
    let both = none_split p text (c ∷ join_with_byte c (next ∷ texts)) h in
    (both.0, none_joined p c (next ∷ texts) both.1.1)

-- ---- the head

pub head_tag_written : (offset : ℕ) (text : List ℕ) (tag : Tag) → HasNone (is_byte 58) text → HasNone (is_byte 44) text
    → head_tag (offset, text) ≡ Ok tag
    → (text ≡ pair_text tag) × IsHeadTag tag
unfolding head_tag
head_tag_written offset text tag colons commas e = cut (first_part 61 text).0 (first_part 61 text).1
    (cut_is_first 61 text) e
  where
    cut : (key : List ℕ) (rest : Option (List ℕ)) → (text ≡ key ++ behind_first 61 rest) × HasNone (is_byte 61) key
        → valued offset key rest ≡ Ok tag
        → (text ≡ pair_text tag) × IsHeadTag tag
    cut key None is e = absurd cc
    cut key (Some value) is e =
        let test = test_ok (length key == 0) kinds.BadTag offset (Ok (key, value)) tag e in
        let same = same_ok (key, value) tag test.1 in
        let colon = subst (HasNone (is_byte 58)) is.0 colons in
        let comma = subst (HasNone (is_byte 44)) is.0 commas in
        let key_none = both_none (λ b. b == 58 || b == 44) (is_byte 61) key
        (both_none (is_byte 58) (is_byte 44) key (none_split (is_byte 58) key (61 ∷ value) colon).0
        (none_split (is_byte 44) key (61 ∷ value) comma).0) is.1 in
        let value_none = both_none (is_byte 58) (is_byte 44) value (none_split (is_byte 58) key (61 ∷ value) colon).1.1
        (none_split (is_byte 44) key (61 ∷ value) comma).1.1 in
        subst (λ (t : Tag). (text ≡ pair_text t) × IsHeadTag t) same
        (is.0, record { filled = some_of key test.0; key = key_none; value = value_none })

head_tags_written : (offset : ℕ) (texts : List (List ℕ)) (tags : List Tag) → AllByRecursion (HasNone (is_byte 58)) texts
    → AllByRecursion (HasNone (is_byte 44)) texts
    → each head_tag (placed offset texts) ≡ Ok tags → (texts ≡ map pair_text tags) × AllByRecursion IsHeadTag tags
unfolding each
head_tags_written offset [] tags colons commas e = subst (λ (ts : List Tag). ([] ≡ map pair_text ts)
    × AllByRecursion IsHeadTag ts) (same_ok [] tags e) (refl, tt)
head_tags_written offset (text ∷ texts) tags colons commas e =
    let one = bind_ok (head_tag (offset, text)) _ tags e in
    let others = bind_ok (each head_tag (placed (offset + length text + 1) texts)) _ tags one.2 in
    let first = head_tag_written offset text one.0 colons.0 commas.0 one.1 in
    let rest = head_tags_written (offset + length text + 1) texts others.0 colons.1 commas.1 others.1 in
    subst (λ (ts : List Tag). (text ∷ texts ≡ map pair_text ts) × AllByRecursion IsHeadTag ts)
    (same_ok (one.0 ∷ others.0) tags others.2)
    (rw (← first.0, ← rest.0) refl, (first.1, rest.1))

joined_pairs : (text : List ℕ) (tags : List Tag) → join_with_byte 44 (text ∷ map pair_text tags) ≡ text
    ++ pairs_text tags
joined_pairs text [] = sym (append-nil text)
joined_pairs text (tag ∷ tags) = ap (λ (t : List ℕ). text ++ 44 ∷ t) (joined_pairs (pair_text tag) tags)

-- a head that was read is a name with tags
record HeadWritten (head name : List ℕ) (tags : List Tag) : Type 0 where
  is : head ≡ name ++ pairs_text tags
  filled : 0 < length name
  none : HasNone ends_name name
  pairs : AllByRecursion IsHeadTag tags

name_with : List ℕ → List Tag → Result (List ℕ × List Tag) StatsdFault
name_with name tags = Ok (name, tags)

head_written : (head name : List ℕ) (tags : List Tag) → HasNone (is_byte 58) head → head_of head ≡ Ok (name, tags)
    → HeadWritten head name tags
unfolding head_of parts_of name_with
head_written head name tags colons e =
    by_texts (slice_split (is_byte 44) head) (join_with_byte-slice_split 44 head) (parts_none (is_byte 44) head) e
  where
    by_texts : (texts : List (List ℕ)) → join_with_byte 44 texts ≡ head → AllByRecursion (HasNone (is_byte 44)) texts
        → (name_of (placed 0 texts) >>= λ first. each head_tag first.1 >>= λ given. name_with first.0 given) ≡ Ok
        (name, tags) → HeadWritten head name tags
    by_texts [] joined commas e = absurd cc
    by_texts (first ∷ texts) joined commas e =
        let one = bind_ok (name_of (placed 0 (first ∷ texts))) _ (name, tags) e in
        let test = test_ok (length first == 0) kinds.BadName 0 (Ok (first, placed (0 + length first + 1) texts)) one.0
        one.1 in
        let found = same_ok (first, placed (0 + length first + 1) texts) one.0 test.1 in
        let given = bind_ok (each head_tag one.0.1) _ (name, tags) one.2 in
        let both = same_ok (one.0.0, given.0) (name, tags) given.2 in
        let read : each head_tag (placed (0 + length first + 1) texts) ≡ Ok tags =
        ap (λ (x : List ℕ × List PartAt). each head_tag x.1) found ∙ given.1
        ∙ ap (λ (x : List ℕ × List Tag). Ok x.1) both in
        let named : first ≡ name = ap (λ (x : List ℕ × List PartAt). x.0) found
        ∙ ap (λ (x : List ℕ × List Tag). x.0) both in
        let colon = none_joined (is_byte 58) 44 (first ∷ texts) (subst (HasNone (is_byte 58)) (sym joined) colons) in
        let others = head_tags_written (0 + length first + 1) texts tags colon.1 commas.1 read in
        subst (λ (n : List ℕ). HeadWritten head n tags) named (record {
          is = sym joined ∙ ap (λ (ts : List (List ℕ)). join_with_byte 44 (first ∷ ts)) others.0
              ∙ joined_pairs first tags;
          filled = some_of first test.0;
          none = both_none (is_byte 58) (is_byte 44) first colon.0 commas.0;
          pairs = others.1;
        })

-- ---- a part

-- the texts of a part that was read
record TextsWritten (text : List ℕ) (x : Texts) : Type 0 where
  name : List ℕ
  rest : Option (List ℕ)
  offset : ℕ
  is : text ≡ x.value ++ 124 ∷ (name ++ behind_first 124 rest)
  none : HasNone (is_byte 124) x.value
  named : type_of name ≡ Some x.metric_type
  rate : x.rate ≡ rate_text offset rest

typed_found : (text value name : List ℕ) (rest : Option (List ℕ)) (offset : ℕ) (named : Option MetricType) (x : Texts)
    → text ≡ value ++ 124 ∷ (name ++ behind_first 124 rest)
    → HasNone (is_byte 124) value → type_of name ≡ named → typed offset value name rest named ≡ Ok x
    → TextsWritten text x
typed_found text value name rest offset None x is none named e = absurd cc
typed_found text value name rest offset (Some metric_type) x is none named e =
    let texts : Texts = record {
      value = value;
      metric_type = metric_type;
      rate =
          rate_text (offset + length name) rest;
    } in
    subst (TextsWritten text) {x = texts} (same_ok texts x e) (record {
      name = name;
      rest = rest;
      offset = offset + length name;
      is = is;
      none = none;
      named = named;
      rate = refl;
    })

texts_found : (offset : ℕ) (text : List ℕ) (x : Texts) → texts_of (offset, text) ≡ Ok x → TextsWritten text x
unfolding texts_of
texts_found offset text x e = cut (first_part 124 text).0 (first_part 124 text).1 (cut_is_first 124 text) e
  where
    cut : (value : List ℕ) (rest : Option (List ℕ)) → (text ≡ value ++ behind_first 124 rest)
        × HasNone (is_byte 124) value
        → texts_from offset (offset + length text) value rest ≡ Ok x → TextsWritten text x
    cut value None is e = absurd cc
    cut value (Some behind) is e =
        let next = cut_is_first 124 behind in
        let whole : text ≡ value ++ 124 ∷ ((first_part 124 behind).0 ++ behind_first 124 (first_part 124 behind).1) =
        is.0 ∙ ap (λ (t : List ℕ). value ++ 124 ∷ t) next.0 in
        typed_found text value (first_part 124 behind).0 (first_part 124 behind).1 (offset + length value + 1)
        (type_of (first_part 124 behind).0) x whole is.1 refl e

-- a rate that was read is written so
record RateWritten (rest : Option (List ℕ)) (n : Option ℤ) : Type 0 where
  rate : Option (List ℕ)
  is : behind_first 124 rest ≡ rate_spelling rate
  read : IsRate rate n

read_ok : ℤ → Result ℤ NumFault
read_ok m = Ok m

rate_from_found : (offset bar_offset : ℕ) (negative : Bool) (r : Result ℤ NumFault) (n : Option ℤ)
    → rate_from offset bar_offset negative r ≡ Ok n
    → (m : ℤ) × (r ≡ Ok m) × (is_positive m ≡ true) × (n ≡ Some m)
unfolding read_ok
rate_from_found offset bar_offset negative (Ok m) n e =
    elim (is_positive m) as (λ t. is_positive m ≡ t → cond {A = Result (Option ℤ) StatsdFault} t (Ok (Some m))
    (fault kinds.BadRate bar_offset) ≡ Ok n
    → (k : ℤ) × (read_ok m ≡ Ok k) × (is_positive k ≡ true) × (n ≡ Some k)) [
      | true ↦ λ above is. (m, refl, above, sym (same_ok (Some m) n is))
      | false ↦ λ below is. absurd cc
    ] refl e
rate_from_found offset bar_offset negative (Err numbers.NotANumber) n e = absurd cc
rate_from_found offset bar_offset true (Err numbers.NumberRange) n e = absurd cc
rate_from_found offset bar_offset false (Err numbers.NumberRange) n e = absurd cc

rate_found : (offset bar_offset : ℕ) (rest : Option (List ℕ)) (n : Option ℤ)
    → rate_of offset (rate_text bar_offset rest) ≡ Ok n → RateWritten rest n
unfolding rate_of
rate_found offset bar_offset None n e = record { rate = None; is = refl; read = sym (same_ok None n e) }
rate_found offset bar_offset (Some []) n e = absurd cc
rate_found offset bar_offset (Some (b ∷ bs)) n e =
    elim (b == 64) as (λ t. (b == 64) ≡ t → cond t (rate_from offset bar_offset (get_or (b ∷ bs) 1 0 == 45)
    (read_as bs)) (fault kinds.BadRate bar_offset) ≡ Ok n → RateWritten (Some (b ∷ bs)) n) [
      | true ↦ λ at is.
          let found = rate_from_found offset bar_offset (get_or (b ∷ bs) 1 0 == 45) (read_as bs) n is in
          record { rate = Some bs; is = ap (λ (c : ℕ). 124 ∷ c ∷ bs) (eqb-true b 64 at); read = found }
      | false ↦ λ other is. absurd cc
    ] refl e

placed_ok : {A : Type 0} (offset : ℕ) (r : Result A StatsdKind) (x : A) → placed_at offset r ≡ Ok x → r ≡ Ok x
placed_ok {A = A} offset (Ok y) x e = ap (λ (z : A). Ok z) (same_ok y x e)
placed_ok offset (Err kind) x e = absurd cc

part_written : (offset : ℕ) (text : List ℕ) (said : Said) → HasNone (is_byte 58) text → part_of (offset, text) ≡ Ok said
    → (w : WrittenPart) × (text ≡ part_spelling w) × IsPart w said
unfolding part_of
part_written offset text said colons e =
    let texts = bind_ok (texts_of (offset, text)) _ said e in
    let value = bind_ok (placed_at offset (value_of texts.0.metric_type texts.0.value)) _ said texts.2 in
    let rate = bind_ok (rate_of offset texts.0.rate) _ said value.2 in
    let result = bind_ok (placed_at offset (counted texts.0.metric_type value.0 rate.0)) _ said rate.2 in
    let found = texts_found offset text texts.0 texts.1 in
    let written = rate_found offset found.offset found.rest rate.0 (ap (rate_of offset) (sym found.rate) ∙ rate.1) in
    let whole : text ≡ texts.0.value ++ 124 ∷ (found.name ++ rate_spelling written.rate) =
    found.is ∙ ap (λ (t : List ℕ). texts.0.value ++ 124 ∷ (found.name ++ t)) written.is in
    let none = both_none (is_byte 58) (is_byte 124) texts.0.value
    (none_split (is_byte 58) texts.0.value (124 ∷ (found.name ++ rate_spelling written.rate))
    (subst (HasNone (is_byte 58)) whole colons)).0 found.none in
    let one : Said = record {
      metric_type = texts.0.metric_type;
      field =
          field_of texts.0.metric_type texts.0.value;
      value = result.0;
    } in
    let w : WrittenPart = record { value = texts.0.value; type_text = found.name; rate = written.rate } in (
      w,
      whole,
      subst (IsPart w) {x = one} (same_ok one said result.2) (record {
        none = none;
        named = found.named;
        number = value.0;
        is_value = placed_ok offset (value_of texts.0.metric_type texts.0.value) value.0 value.1;
        rate = rate.0;
        is_rate = written.read;
        counts = placed_ok offset (counted texts.0.metric_type value.0 rate.0) result.0 result.1;
        field = refl;
      }),
    )

parts_written : (offset : ℕ) (texts : List (List ℕ)) (said : List Said) → AllByRecursion (HasNone (is_byte 58)) texts
    → each part_of (placed offset texts) ≡ Ok said
    → (ws : List WrittenPart) × (texts ≡ map part_spelling ws) × AreParts ws said
unfolding each
parts_written offset [] said colons e = subst (λ (s : List Said). (ws : List WrittenPart) × ([] ≡ map part_spelling ws)
    × AreParts ws s) (same_ok [] said e) ([], refl, tt)
parts_written offset (text ∷ texts) said colons e =
    let one = bind_ok (part_of (offset, text)) _ said e in
    let others = bind_ok (each part_of (placed (offset + length text + 1) texts)) _ said one.2 in
    let first = part_written offset text one.0 colons.0 one.1 in
    let rest = parts_written (offset + length text + 1) texts others.0 colons.1 others.1 in
    subst (λ (s : List Said). (ws : List WrittenPart) × (text ∷ texts ≡ map part_spelling ws) × AreParts ws s)
    (same_ok (one.0 ∷ others.0) said others.2)
    (first.0 ∷ rest.0, rw (← first.1, ← rest.1) refl, (first.2, rest.2))

-- ---- a tag behind `|#`

later_tag_written : (offset : ℕ) (text : List ℕ) (tag : Tag) → HasNone (is_byte 44) text
    → later_tag (offset, text) ≡ Ok tag
    → (l : LaterTag) × (text ≡ later_spelling l) × IsLaterTag l
    × ((tags : List Tag) (ls : List LaterTag) → given_later ls ≡ tags → given_later (l ∷ ls) ≡ tag ∷ tags)
unfolding later_tag
later_tag_written offset text tag commas e = cut (first_part 58 text).0 (first_part 58 text).1 (cut_is_first 58 text) e
  where
    cut : (key : List ℕ) (rest : Option (List ℕ)) → (text ≡ key ++ behind_first 58 rest) × HasNone (is_byte 58) key
        → cond (list_any (is_byte 124) text || length key == 0) (fault kinds.BadTag offset)
        (Ok (key, value_or_true rest)) ≡ Ok tag
        → (l : LaterTag) × (text ≡ later_spelling l) × IsLaterTag l
        × ((tags : List Tag) (ls : List LaterTag) → given_later ls ≡ tags → given_later (l ∷ ls) ≡ tag ∷ tags)
    cut key None is e =
        let test = test_ok (list_any (is_byte 124) text || length key == 0) kinds.BadTag offset
        (Ok (key, codes "true")) tag e in
        let both = or_parts (list_any (is_byte 124) text) (length key == 0) test.0 in
        let whole : text ≡ key = is.0 ∙ append-nil key in
        let comma = subst (HasNone (is_byte 44)) whole commas in
        let bar = subst (HasNone (is_byte 124)) whole (any_none (is_byte 124) text both.0) in
        let none = both_none (λ b. b == 58 || b == 44) (is_byte 124) key
        (both_none (is_byte 58) (is_byte 44) key is.1 comma) bar in (
          Flag key,
          whole,
          (some_of key both.1, none),
          λ tags ls h. rw h
              (ap (λ (t : Tag). t ∷ tags) (same_ok (key, codes "true") tag test.1)),
        )
    cut key (Some value) is e =
        let test = test_ok (list_any (is_byte 124) text || length key == 0) kinds.BadTag offset
        (Ok (key, value)) tag e in
        let both = or_parts (list_any (is_byte 124) text) (length key == 0) test.0 in
        let comma = subst (HasNone (is_byte 44)) is.0 commas in
        let bar = subst (HasNone (is_byte 124)) is.0 (any_none (is_byte 124) text both.0) in
        let none = both_none (λ b. b == 58 || b == 44) (is_byte 124) key
        (both_none (is_byte 58) (is_byte 44) key is.1 (none_split (is_byte 44) key (58 ∷ value) comma).0)
        (none_split (is_byte 124) key (58 ∷ value) bar).0 in
        let value_none = both_none (is_byte 44) (is_byte 124) value (none_split (is_byte 44) key (58 ∷ value) comma).1.1
        (none_split (is_byte 124) key (58 ∷ value) bar).1.1 in (
          Pair key value,
          is.0,
          (some_of key both.1, none, value_none),
          λ tags ls h. rw h (ap (λ (t : Tag). t ∷ tags) (same_ok (key, value) tag test.1)),
        )

later_written : (offset : ℕ) (texts : List (List ℕ)) (tags : List Tag) → AllByRecursion (HasNone (is_byte 44)) texts
    → each later_tag (filter is_filled (placed offset texts)) ≡ Ok tags
    → (ls : List LaterTag) × (texts ≡ map later_spelling ls) × AllByRecursion IsLaterTag ls × (given_later ls ≡ tags)
unfolding each
later_written offset [] tags commas e = ([], refl, tt, same_ok [] tags e)
later_written offset ([] ∷ texts) tags commas e =
    let rest = later_written (offset + 0 + 1) texts tags commas.1 e in
    (Nothing ∷ rest.0, ap (λ (ts : List (List ℕ)). [] ∷ ts) rest.1, (tt, rest.2), rest.3)
later_written offset ((b ∷ bs) ∷ texts) tags commas e =
    let some : (length (b ∷ bs) == 0) ≡ false = ne_eqb (length (b ∷ bs)) 0 (λ z. absurd (omega arith)) in
    let kept : each later_tag ((offset, b ∷ bs) ∷ filter is_filled (placed (offset + length (b ∷ bs) + 1) texts)) ≡ Ok
    tags = rw some at e in
    let one = bind_ok (later_tag (offset, b ∷ bs)) _ tags kept in
    let others = bind_ok (each later_tag (filter is_filled (placed (offset + length (b ∷ bs) + 1) texts))) _ tags
    one.2 in
    let first = later_tag_written offset (b ∷ bs) one.0 commas.0 one.1 in
    let rest = later_written (offset + length (b ∷ bs) + 1) texts others.0 commas.1 others.1 in (
      first.0 ∷ rest.0,
      rw (← first.1, ← rest.1) refl,
      (first.2, rest.2),
      first.3 others.0 rest.0 rest.3
          ∙ same_ok (one.0 ∷ others.0) tags others.2,
    )

-- ---- the sections

-- a text has no `|#`, or is cut at its first one
pub marker_cut : (bs : List ℕ) → (marker_len bs ≡ length bs)
    ⊎ (bs ≡ take (marker_len bs) bs ++ 124 ∷ 35 ∷ drop (marker_len bs + 2) bs)
unfolding marker_len
marker_cut [] = inl refl
marker_cut (b ∷ []) = inl refl
marker_cut (b ∷ c ∷ bs) =
    elim (b == 124 && c == 35) as (λ t. (b == 124 && c == 35) ≡ t
    → (cond t 0 (1 + marker_len (c ∷ bs)) ≡ length (b ∷ c ∷ bs))
    ⊎ (b ∷ c ∷ bs ≡ take (cond t 0 (1 + marker_len (c ∷ bs))) (b ∷ c ∷ bs)
    ++ 124 ∷ 35 ∷ drop (cond t 0 (1 + marker_len (c ∷ bs)) + 2) (b ∷ c ∷ bs))) [
      | true ↦ λ e. let both = and_true (b == 124) (c == 35) e in
          inr (rw (eqb-true b 124 both.0, eqb-true c 35 both.1) refl)
      | false ↦ λ e. later (marker_len (c ∷ bs)) (marker_cut (c ∷ bs))
    ] refl
  where
    and_true : (a b : Bool) → (a && b) ≡ true → (a ≡ true) × (b ≡ true)
    and_true true b e = (refl, e)
    and_true false b e = absurd cc

    later : (n : ℕ) → (n ≡ length (c ∷ bs)) ⊎ (c ∷ bs ≡ take n (c ∷ bs) ++ 124 ∷ 35 ∷ drop (n + 2) (c ∷ bs))
        → (1 + n ≡ length (b ∷ c ∷ bs)) ⊎ (b ∷ c ∷ bs ≡ take (1 + n) (b ∷ c ∷ bs)
        ++ 124 ∷ 35 ∷ drop (1 + n + 2) (b ∷ c ∷ bs))
    later n (inl all) = inl (omega (arith, all))
    later n (inr cut) =
        let m : 1 + n ≡ suc n = omega arith in
        let k : suc n + 2 ≡ suc (n + 2) = omega arith in
        inr (rw (m, k) (ap (λ (t : List ℕ). b ∷ t) cut))

-- what stands behind the head's colon is parts, and perhaps `|#` and tags
record EndWritten (rest : List ℕ) (tags : List Tag) : Type 0 where
  later : Option (LaterTag × List LaterTag)
  is : rest ≡ take (marker_len rest) rest ++ end_spelling later
  are : AreLater later
  given : given_end later ≡ tags

no_parts : (c : ℕ) (text : List ℕ) → slice_split (is_byte c) text ≡ [] → ⊥
no_parts c text e = let len = length-slice_split (is_byte c) text in absurd (omega (arith, len, ap length e))

end_written : (offset : ℕ) (rest : List ℕ) (tags : List Tag)
    → later_tags (offset, drop (marker_len rest + 2) rest) ≡ Ok tags → EndWritten rest tags
unfolding later_tags parts_of each
end_written offset rest tags e = elim (marker_cut rest) [
  | inl all ↦
      let none : drop (marker_len rest + 2) rest ≡ [] = drop_all (marker_len rest + 2) rest (omega arith) in
      let read : Ok [] ≡ Ok tags = rw none at e in
      record {
        later = None;
        is = sym (append-nil (take (marker_len rest) rest) ∙ take_all (marker_len rest) rest (omega arith));
        are = tt;
        given = same_ok [] tags read;
      }
  | inr cut ↦
      let text : List ℕ = drop (marker_len rest + 2) rest in
      let found = later_written offset (slice_split (is_byte 44) (drop (marker_len rest + 2) rest)) tags
      (parts_none (is_byte 44) (drop (marker_len rest + 2) rest)) e in
      by_tags found.0 found.1 found.2 found.3 cut
]
  where
    by_tags : (ls : List LaterTag) → slice_split (is_byte 44) (drop (marker_len rest + 2) rest) ≡ map later_spelling ls
        → AllByRecursion IsLaterTag ls → given_later ls ≡ tags
        → rest ≡ take (marker_len rest) rest ++ 124 ∷ 35 ∷ drop (marker_len rest + 2) rest → EndWritten rest tags
    by_tags [] texts are given cut = absurd (no_parts 44 (drop (marker_len rest + 2) rest) texts)
    by_tags (l ∷ ls) texts are given cut =
        let joined : drop (marker_len rest + 2) rest ≡ join_with_byte 44 (map later_spelling (l ∷ ls)) =
        sym (join_with_byte-slice_split 44 (drop (marker_len rest + 2) rest)) ∙ ap (join_with_byte 44) texts in
        record {
          later = Some (l, ls);
          is = cut ∙ ap (λ (t : List ℕ). take (marker_len rest) rest ++ 124 ∷ 35 ∷ t) joined;
          are = are;
          given = given;
        }

record PartsWritten (text : List ℕ) (said : List Said) : Type 0 where
  first : WrittenPart
  others : List WrittenPart
  is : text ≡ join_with_byte 58 (map part_spelling (first ∷ others))
  are : AreParts (first ∷ others) said

all_parts_written : (offset : ℕ) (text : List ℕ) (said : List Said)
    → each part_of (parts_of 58 (offset, text)) ≡ Ok said → PartsWritten text said
unfolding parts_of
all_parts_written offset text said e =
    let found = parts_written offset (slice_split (is_byte 58) text) said (parts_none (is_byte 58) text) e in
    by_parts found.0 found.1 found.2
  where
    by_parts : (ws : List WrittenPart) → slice_split (is_byte 58) text ≡ map part_spelling ws → AreParts ws said
        → PartsWritten text said
    by_parts [] texts are = absurd (no_parts 58 text texts)
    by_parts (w ∷ ws) texts are = record {
      first = w;
      others = ws;
      is = sym (join_with_byte-slice_split 58 text) ∙ ap (join_with_byte 58) texts;
      are = are;
    }

-- ---- the line

limited_ok : (metrics : List Content) (y : List Content) → limited metrics ≡ Ok y
    → (list_any has_too_many metrics ≡ false) × (metrics ≡ y)
limited_ok metrics y e =
    let test = test_ok (list_any has_too_many metrics) kinds.TooMany 0 (Ok metrics) y e in
    (test.0, same_ok metrics y test.1)

-- a line that was read is written so
record LineWritten (piece : List ℕ) (moment : ℤ) (metrics : List Content) : Type 0 where
  w : Written
  said : List Said
  is : piece ≡ line_spelling w
  line : IsLine w said
  few : list_any has_too_many metrics ≡ false
  are : metrics ≡ metrics_of w said moment

-- the line that a head, tags and parts were read from
pub record LineFound (piece : List ℕ) (moment : ℤ) (name : List ℕ) (tags : List Tag) (said : List Said) : Type 0 where
  pub w : Written
  pub is : piece ≡ line_spelling w
  pub line : IsLine w said
  pub are : map (content_of name tags moment) said ≡ metrics_of w said moment

pub line_found : (piece front rest : List ℕ) (moment : ℤ) (name : List ℕ) (tags later : List Tag) (said : List Said)
    → piece ≡ front ++ 58 ∷ rest → HasNone (is_byte 58) front
    → head_of front ≡ Ok (name, tags) → later_tags (
      length front + 1 + marker_len rest + 2,
      drop (marker_len rest + 2) rest,
    ) ≡ Ok later
    → each part_of (parts_of 58 (length front + 1, take (marker_len rest) rest)) ≡ Ok said
    → LineFound piece moment name (tags ++ later) said
line_found piece front rest moment name tags later said whole colons head behind parts_read =
    let h = head_written front name tags colons head in
    let end = end_written (length front + 1 + marker_len rest + 2) rest later behind in
    let parts = all_parts_written (length front + 1) (take (marker_len rest) rest) said parts_read in
    let w : Written = record {
      name = name;
      tags = tags;
      first = parts.first;
      others = parts.others;
      later =
          end.later;
    } in
    let body : rest ≡ parts_spelling w ++ end_spelling end.later =
    end.is ∙ ap (λ (t : List ℕ). t ++ end_spelling end.later) parts.is in
    record {
      w = w;
      is = whole ∙ ap (λ (t : List ℕ). t ++ 58 ∷ rest) h.is ∙ ap (λ (t : List ℕ). (name ++ pairs_text tags) ++ 58 ∷ t)
          body;
      line = record { filled = h.filled; name = h.none; tags = h.pairs; parts = parts.are; later = end.are };
      are = ap (λ (ts : List Tag). map (content_of name (tags ++ ts) moment) said) (sym end.given);
    }

line_from : (piece front rest : List ℕ) (line : Sections) (moment : ℤ) (metrics : List Content)
    → piece ≡ front ++ 58 ∷ rest → HasNone (is_byte 58) front
    → line ≡ record {
      head = front;
      parts = (length front + 1, take (marker_len rest) rest);
      tags = (length front + 1 + marker_len rest + 2, drop (marker_len rest + 2) rest);
    }
    → (head_of line.head >>= λ head. later_tags line.tags >>= λ later. each part_of
    (parts_of 58 line.parts) >>= λ said. limited (map (content_of head.0 (head.1 ++ later) moment) said)) ≡ Ok metrics
    → LineWritten piece moment metrics
line_from piece front rest line moment metrics whole colons is e =
    let read = rw is at e in
    let head = bind_ok (head_of front) _ metrics read in
    let later = bind_ok (later_tags (length front + 1 + marker_len rest + 2, drop (marker_len rest + 2) rest)) _ metrics
    head.2 in
    let said = bind_ok (each part_of (parts_of 58 (length front + 1, take (marker_len rest) rest))) _ metrics later.2 in
    let few = limited_ok (map (content_of head.0.0 (head.0.1 ++ later.0) moment) said.0) metrics said.2 in
    let found = line_found piece front rest moment head.0.0 head.0.1 later.0 said.0 whole colons head.1 later.1
    said.1 in
    record {
      w = found.w;
      said = said.0;
      is = found.is;
      line = found.line;
      few = subst (λ (ms : List Content). list_any has_too_many ms ≡ false) few.1 few.0;
      are = sym few.1 ∙ found.are;
    }

line_written : (piece : List ℕ) (moment : ℤ) (metrics : List Content) → line_reading piece moment ≡ Ok metrics
    → LineWritten piece moment metrics
unfolding line_reading sections
line_written piece moment metrics e = cut (first_part 58 piece).0 (first_part 58 piece).1 (cut_is_first 58 piece) e
  where
    cut : (front : List ℕ) (rest : Option (List ℕ)) → (piece ≡ front ++ behind_first 58 rest)
        × HasNone (is_byte 58) front
        → (sections_of (length piece) front rest >>= λ line. head_of line.head >>= λ head. later_tags line.tags >>=
        λ later. each part_of (parts_of 58 line.parts)
        >>= λ said. limited (map (content_of head.0 (head.1 ++ later) moment) said)) ≡ Ok metrics
        → LineWritten piece moment metrics
    cut front None is e = absurd cc
    cut front (Some rest) is e =
        line_from piece front rest (record {
          head = front;
          parts = (length front + 1, take (marker_len rest) rest);
          tags = (length front + 1 + marker_len rest + 2, drop (marker_len rest + 2) rest);
        }) moment metrics is.0 is.1 refl e

pub read_is_written : ReadIsWritten
unfolding reading text_reading
read_is_written piece moment metrics some e = by_utf8 (is_utf8 piece) refl e
  where
    by_utf8 : (t : Bool) → is_utf8 piece ≡ t → cond t (cond (is_blank piece) (Ok []) (line_reading piece moment))
        (fault kinds.NotUtf8 (utf8_valid_len piece)) ≡ Ok metrics
        → (w : Written) × (said : List Said) × (piece ≡ line_spelling w) × IsUtf8 piece × IsLine w said
        × (list_any has_too_many metrics ≡ false) × (metrics ≡ metrics_of w said moment)
    by_utf8 true u e =
        let read = rw some at e in
        let found = line_written piece moment metrics read in
        (found.w, found.said, found.is, IsUtf8-from_is_utf8 piece u, found.line, found.few, found.are)
    by_utf8 false u e = absurd cc
