-- What stands where a fault is.
use Rattle.std.proofs.Common.{◌≡◌, ℕ, ℤ, ◌+◌, ◌<◌, Bool, true, false, cond, List, [], ◌∷◌, ◌++◌, length, get_or, map}
use Rattle.std.proofs.Common.{take, take_all, drop, Option, Result, Ok, Err, Some, None, refl, sym, ap, subst, ◌∙◌}
use Rattle.std.proofs.Common.{append_assoc, append-nil, arith, inl, inr}
use Rattle.std.specs.Prelude.{◌==◌, ◌||◌, ◌⊎◌, not, filter, codes}
use Rattle.std.specs.List.{AllByRecursion, slice_split, join_with_byte, list_any}
use Rattle.std.specs.Str.{is_utf8}
use Rattle.std.specs.Str.Lossy.{utf8_valid_len}
use Rattle.std.proofs.lemmas.Bool.{and_parts, eqb-true, ne_eqb}
use Rattle.std.proofs.lemmas.List.{length-take-le, drop_all}
use Rattle.std.proofs.lemmas.List.Splits.{join_with_byte-slice_split}
use Rattle.std.proofs.lemmas.Str.{IsUtf8-from_is_utf8}
use Rattle.fixed_num.specs.declared.fixed.NumFault.{NumFault}
use Rattle.fixed_num.specs.declared.fixed.NumFault.TheVariants as numbers
use Rattle.fixed_num.specs.Decimal.{decimal_of}
use Rattle.fixed_num.specs.Fixed.{read_as}
use Rattle.fixed_num.specs.Quotient.{divided}
use Rattle.text_parts.specs.Chain.{◌>>=◌}
use Rattle.text_parts.specs.Grammar.{HasNone}
use Rattle.text_parts.specs.Offsets.{word_at, Follows, is_decimal}
use Rattle.text_parts.specs.Split.{PartAt, is_byte, first_part, behind_first, placed, parts_of, each}
use Rattle.text_parts.proofs.Faulty.{Faulty, same_err, not_both, none_faulty, one_faulty, next_faulty, test_faulty}
use Rattle.text_parts.proofs.Faulty.{each_faulty}
use Rattle.text_parts.proofs.Founds.{same_ok, chosen_ok, some_of}
use Rattle.text_parts.proofs.Lacking.{none_split}
use Rattle.text_parts.proofs.OffsetLemmas.{Begins, word_is, follows_byte, Standing, all_stand, standing_word, IsNumeric}
use Rattle.text_parts.proofs.OffsetLemmas.{decimal_numeric}
use Rattle.text_parts.proofs.Splits.{cut_is_first, parts_none}
use Rattle.text_parts.proofs.Takes.{At, at_start, step, over, at_byte}
use Rattle.text_parts.proofs.ValidFronts.{valid_up_to}
use Rattle.metric.specs.declared.metric.Content.{Content}
use Rattle.metric.specs.declared.value.Value.{Value}
use Rattle.metric.specs.declared.value.Value.TheVariants as values
use Rattle.metric.specs.Draft.{Tag}
use Rattle.statsd_text.specs.declared.fault.StatsdFault.{StatsdFault}
use Rattle.statsd_text.specs.declared.fault.StatsdKind.{StatsdKind}
use Rattle.statsd_text.specs.declared.fault.StatsdKind.TheVariants as kinds
use Rattle.statsd_text.specs.declared.said.MetricType.{MetricType}
use Rattle.statsd_text.specs.declared.said.Said.{Said}
use Rattle.statsd_text.specs.declared.said.MetricType.TheVariants.{Counter, Gauge, Timing, Set}
use Rattle.statsd_text.specs.Sections.{fault, is_marker, marker_len, Sections, sections, sections_of}
use Rattle.statsd_text.specs.Tags.{name_of, head_tag, valued, head_of, later_tag, later_tags, is_filled}
use Rattle.statsd_text.specs.Said.{type_of, Texts, rate_text, typed, texts_from, texts_of, number_value, value_of}
use Rattle.statsd_text.specs.Said.{is_positive, rate_from, rate_read, rate_of, placed_at, quotient_value, divided_value}
use Rattle.statsd_text.specs.Said.{counted, part_of}
use Rattle.statsd_text.specs.Grammar.{ends_name, ends_value, LaterTag, Nothing, Flag, Pair, later_spelling, IsLaterTag}
use Rattle.statsd_text.specs.Reading.{content_of, has_too_many, limited, line_reading, is_blank, text_reading, reading}
use Rattle.statsd_text.specs.Faults.{EndsPart, IsRateText, StandsAt, Says, FaultSays}
use Rattle.statsd_text.proofs.Lacking.{both_none}
use Rattle.statsd_text.proofs.Founds.{marker_cut, LineFound, line_found}
use Rattle.statsd_text.proofs.Offsets.{marker_le}
use Rattle.statsd_text.proofs.Spells.{head_tag_read, flag_read, pair_read}

abbrev Stands : List ℕ → StatsdFault → Type 0
Stands piece f = StandsAt piece f.offset f.kind

-- ---- parts and their ends

ends_begin : (rest : List ℕ) → EndsPart rest → Begins ends_value rest
ends_begin [] e = tt
ends_begin (b ∷ bs) (inl e) = rw e refl
ends_begin (b ∷ bs) (inr e) = marked bs e
  where
    second : (x y : Bool) → y ≡ true → (x || y) ≡ true
    second true y e = refl
    second false y e = e

    marked : (bs : List ℕ) → is_marker (b ∷ bs) ≡ true → (b == 58 || b == 124) ≡ true
    marked [] e = absurd cc
    marked (c ∷ bs) e = second (b == 58) (b == 124) (and_parts (b == 124) (c == 35) e).0

-- a part of a line: behind a colon, and in front of an end
record PartStands (piece : List ℕ) (part : PartAt) : Type 0 where
  rest : List ℕ
  at : At piece part.0 (part.1 ++ rest)
  follows : Follows 58 piece part.0
  lacks : HasNone (is_byte 58) part.1
  ends : EndsPart rest

part_stands : (piece tail : List ℕ) (part : PartAt) → EndsPart tail
    → Follows 58 piece part.0 × Standing piece 58 tail part → PartStands piece part
part_stands piece tail part ends s = record {
  rest = s.1.rest;
  at = s.1.at;
  follows = s.0;
  lacks = s.1.lacks;
  ends = end s.1.rest s.1.behind;
}
  where
    end : (rest : List ℕ) → (rest ≡ tail) ⊎ ((others : List ℕ) × (rest ≡ 58 ∷ others)) → EndsPart rest
    end rest (inl e) = subst EndsPart (sym e) ends
    end rest (inr e) = subst EndsPart (sym e.1) (inl refl)

-- a value and a type in a part, and what stands behind them
record TypeStands (piece : List ℕ) (part : PartAt) (value name : List ℕ) (more : Option (List ℕ)) : Type 0 where
  rest : List ℕ
  at : At piece part.0 (value ++ 124 ∷ (name ++ (behind_first 124 more ++ rest)))
  value_none : HasNone ends_value value
  name_none : HasNone ends_value name
  ends : EndsPart rest

type_stands : (piece : List ℕ) (part : PartAt) (value behind : List ℕ) → PartStands piece part
    → part.1 ≡ value ++ 124 ∷ behind → HasNone (is_byte 124) value
    → TypeStands piece part value (first_part 124 behind).0 (first_part 124 behind).1
type_stands piece part value behind s is none =
    let name : List ℕ = (first_part 124 behind).0 in
    let more : List ℕ = behind_first 124 (first_part 124 behind).1 in
    let next = cut_is_first 124 behind in
    let whole : part.1 ≡ value ++ 124 ∷ ((first_part 124 behind).0 ++ behind_first 124 (first_part 124 behind).1) =
    is ∙ ap (λ (t : List ℕ). value ++ 124 ∷ t) next.0 in
    let colons = none_split (is_byte 58) value (124 ∷ (name ++ more)) (subst (HasNone (is_byte 58)) whole s.lacks) in
    let named = none_split (is_byte 58) name more colons.1.1 in
    let text : part.1 ++ s.rest ≡ value ++ 124 ∷ (name ++ (more ++ s.rest)) =
    ap (λ (t : List ℕ). t ++ s.rest) whole ∙ append_assoc value (124 ∷ (name ++ more)) s.rest
    ∙ ap (λ (t : List ℕ). value ++ 124 ∷ t) (append_assoc name more s.rest) in
    record {
      rest = s.rest;
      at = subst (At piece part.0) text s.at;
      value_none = both_none (is_byte 58) (is_byte 124) value colons.0 none;
      name_none = both_none (is_byte 58) (is_byte 124) name named.0 next.1;
      ends = s.ends;
    }

value_word : (piece : List ℕ) (part : PartAt) (value name : List ℕ) (more : Option (List ℕ))
    → TypeStands piece part value name more → word_at ends_value piece part.0 ≡ value
value_word piece part value name more t = word_is ends_value piece part.0 value
    (124 ∷ (name ++ (behind_first 124 more ++ t.rest))) t.at.is t.value_none refl

-- the type, and what stands before it
type_at : (piece : List ℕ) (part : PartAt) (value name : List ℕ) (more : Option (List ℕ))
    (t : TypeStands piece part value name more)
    → At piece (part.0 + length value + 1) (name ++ (behind_first 124 more ++ t.rest))
    × Follows 124 piece (part.0 + length value + 1)
type_at piece part value name more t =
    let rest : List ℕ = name ++ (behind_first 124 more ++ t.rest) in
    let bar = step piece part.0 value (124 ∷ (name ++ (behind_first 124 more ++ t.rest))) t.at in (
      over piece (part.0 + length value) 124 rest bar,
      follows_byte 124 piece (part.0 + length value)
          (at_byte piece (part.0 + length value) (124 ∷ rest) bar),
    )

type_word : (piece : List ℕ) (part : PartAt) (value name : List ℕ) (more : Option (List ℕ))
    → TypeStands piece part value name more
    → word_at ends_value piece (part.0 + length value + 1) ≡ name
type_word piece part value name more t =
    word_is ends_value piece (part.0 + length value + 1) name (behind_first 124 more ++ t.rest)
    (type_at piece part value name more t).0.is t.name_none (begins more)
  where
    begins : (more : Option (List ℕ)) → Begins ends_value (behind_first 124 more ++ t.rest)
    begins None = ends_begin t.rest t.ends
    begins (Some text) = refl

typed_faulty : (piece : List ℕ) (part : PartAt) (value name : List ℕ) (more : Option (List ℕ))
    (named : Option MetricType) → TypeStands piece part value name more
    → type_of name ≡ named → Faulty (Stands piece) (typed (part.0 + length value + 1) value name more named)
typed_faulty piece part value name more None t e =
    one_faulty (Stands piece) (record { kind = kinds.BadType; offset = part.0 + length value + 1 })
    (inr ((type_at piece part value name more t).1, ap type_of (type_word piece part value name more t) ∙ e))
typed_faulty piece part value name more (Some metric_type) t e = none_faulty (Stands piece) _

texts_faulty : (piece : List ℕ) (part : PartAt) → PartStands piece part → Faulty (Stands piece) (texts_of part)
unfolding texts_of
texts_faulty piece part s = cut (first_part 124 part.1).0 (first_part 124 part.1).1 (cut_is_first 124 part.1)
  where
    cut : (value : List ℕ) (rest : Option (List ℕ)) → (part.1 ≡ value ++ behind_first 124 rest)
        × HasNone (is_byte 124) value
        → Faulty (Stands piece) (texts_from part.0 (part.0 + length part.1) value rest)
    cut value None is =
        let bars = subst (HasNone (is_byte 124)) (sym (is.0 ∙ append-nil value)) is.1 in
        one_faulty (Stands piece) (record { kind = kinds.BadType; offset = part.0 + length part.1 }) (inl (record {
          begins = part.0;
          text = part.1;
          rest = s.rest;
          follows = s.follows;
          is = s.at.is;
          stands = refl;
          none = both_none (is_byte 58) (is_byte 124) part.1 s.lacks bars;
          ends = s.ends;
        }))
    cut value (Some behind) is =
        typed_faulty piece part value (first_part 124 behind).0 (first_part 124 behind).1
        (type_of (first_part 124 behind).0) (type_stands piece part value behind s is.0 is.1) refl

-- the texts of a part that was read
record TextsStand (piece : List ℕ) (part : PartAt) (x : Texts) : Type 0 where
  name : List ℕ
  more : Option (List ℕ)
  stands : TypeStands piece part x.value name more
  rate : x.rate ≡ rate_text (part.0 + length x.value + 1 + length name) more

texts_stand : (piece : List ℕ) (part : PartAt) (x : Texts) → PartStands piece part → texts_of part ≡ Ok x
    → TextsStand piece part x
unfolding texts_of
texts_stand piece part x s e = cut (first_part 124 part.1).0 (first_part 124 part.1).1 (cut_is_first 124 part.1) e
  where
    found : (value name : List ℕ) (more : Option (List ℕ)) (named : Option MetricType)
        → TypeStands piece part value name more → typed (part.0 + length value + 1) value name more named ≡ Ok x
        → TextsStand piece part x
    found value name more None t e = absurd cc
    found value name more (Some metric_type) t e =
        let texts : Texts = record {
          value = value;
          metric_type = metric_type;
          rate =
              rate_text (part.0 + length value + 1 + length name) more;
        } in
        subst (TextsStand piece part) {x = texts} (same_ok texts x e)
        (record { name = name; more = more; stands = t; rate = refl })

    cut : (value : List ℕ) (rest : Option (List ℕ)) → (part.1 ≡ value ++ behind_first 124 rest)
        × HasNone (is_byte 124) value
        → texts_from part.0 (part.0 + length part.1) value rest ≡ Ok x → TextsStand piece part x
    cut value None is e = absurd cc
    cut value (Some behind) is e =
        found value (first_part 124 behind).0 (first_part 124 behind).1 (type_of (first_part 124 behind).0)
        (type_stands piece part value behind s is.0 is.1) e

-- ---- the value

-- what a fault of a kind says of a value: whether it is a decimal
abbrev NumberSays : Bool → StatsdKind → Type 0
NumberSays t kinds.BadValue = t ≡ false
NumberSays t kinds.NumberRange = t ≡ true
NumberSays t kind = ⊥

number_says : (text : List ℕ) (kind : StatsdKind) → number_value (read_as text) ≡ Err kind
    → NumberSays (is_decimal text) kind
number_says text kind e = by_number (is_decimal text) (read_as text) (decimal_numeric text) e
  where
    by_number : (t : Bool) (r : Result ℤ NumFault) → IsNumeric t r → number_value r ≡ Err kind → NumberSays t kind
    by_number t (Ok n) is e = absurd cc
    by_number t (Err numbers.NotANumber) is e = subst (NumberSays t) (same_err {A = Value} kinds.BadValue kind e) is
    by_number t (Err numbers.NumberRange) is e = subst (NumberSays t) (same_err {A = Value} kinds.NumberRange kind e) is

number_is : (text : List ℕ) (value : Value) → number_value (read_as text) ≡ Ok value → is_decimal text ≡ true
number_is text value e = by_number (is_decimal text) (read_as text) (decimal_numeric text) e
  where
    by_number : (t : Bool) (r : Result ℤ NumFault) → IsNumeric t r → number_value r ≡ Ok value → t ≡ true
    by_number t (Ok n) is e = is
    by_number t (Err numbers.NotANumber) is e = absurd cc
    by_number t (Err numbers.NumberRange) is e = is

no_decimal : is_decimal [] ≡ false
unfolding decimal_of
no_decimal = refl

value_says : (metric_type : MetricType) (text : List ℕ) (kind : StatsdKind) → value_of metric_type text ≡ Err kind
    → NumberSays (is_decimal text) kind
value_says Counter text kind e = number_says text kind e
value_says Gauge text kind e = number_says text kind e
value_says Timing text kind e = number_says text kind e
value_says Set [] kind e = subst (NumberSays (is_decimal [])) (same_err {A = Value} kinds.BadValue kind e) no_decimal
value_says Set (b ∷ bs) kind e = absurd (filled (length (b ∷ bs) == 0) (some_false bs) e)
  where
    some_false : (bs : List ℕ) → (length (b ∷ bs) == 0) ≡ false
    some_false bs = ne_eqb (length (b ∷ bs)) 0 (λ e. absurd (omega arith))

    filled : (t : Bool) → t ≡ false → cond {A = Result Value StatsdKind} t (Err kinds.BadValue)
        (Ok (values.Text (b ∷ bs))) ≡ Err kind → ⊥
    filled true f e = absurd cc
    filled false f e = absurd cc

counted_says : (metric_type : MetricType) (text : List ℕ) (value : Value) (rate : Option ℤ) (kind : StatsdKind)
    → value_of metric_type text ≡ Ok value → counted metric_type value rate ≡ Err kind
    → NumberSays (is_decimal text) kind
counted_says Counter text value None kind v e = absurd cc
counted_says Counter text value (Some rate) kind v e = subst (NumberSays (is_decimal text)) (divided_says value e)
    (number_is text value v)
  where
    quotient_says : (r : Option ℤ) → quotient_value r ≡ Err kind → kinds.NumberRange ≡ kind
    quotient_says None e = same_err {A = Value} kinds.NumberRange kind e
    quotient_says (Some n) e = absurd cc

    divided_says : (value : Value) → divided_value value rate ≡ Err kind → kinds.NumberRange ≡ kind
    divided_says (values.Fixed n) e = quotient_says (divided n rate) e
    divided_says (values.Int n) e = absurd cc
    divided_says (values.Uint n) e = absurd cc
    divided_says (values.Bool b) e = absurd cc
    divided_says (values.Text t) e = absurd cc
counted_says Gauge text value rate kind v e = absurd cc
counted_says Timing text value rate kind v e = absurd cc
counted_says Set text value rate kind v e = absurd cc

placed_faulty : {A : Type 0} (P : StatsdFault → Type 0) (offset : ℕ) (r : Result A StatsdKind)
    → ((kind : StatsdKind) → r ≡ Err kind → P (record { kind = kind; offset = offset })) → Faulty P (placed_at offset r)
placed_faulty P offset (Ok x) h = none_faulty P x
placed_faulty P offset (Err kind) h = one_faulty P (record { kind = kind; offset = offset }) (h kind refl)

value_stands : (piece : List ℕ) (offset : ℕ) (text : List ℕ) (kind : StatsdKind) → Follows 58 piece offset
    → word_at ends_value piece offset ≡ text → NumberSays (is_decimal text) kind → StandsAt piece offset kind
value_stands piece offset text kinds.BadValue follows word h = (follows, ap is_decimal word ∙ h)
value_stands piece offset text kinds.NumberRange follows word h = (follows, inl (ap is_decimal word ∙ h))
value_stands piece offset text kinds.OutOfMemory follows word h = absurd h
value_stands piece offset text kinds.NoColon follows word h = absurd h
value_stands piece offset text kinds.BadType follows word h = absurd h
value_stands piece offset text kinds.BadRate follows word h = absurd h
value_stands piece offset text kinds.BadTag follows word h = absurd h
value_stands piece offset text kinds.NotUtf8 follows word h = absurd h
value_stands piece offset text kinds.BadName follows word h = absurd h
value_stands piece offset text kinds.TooMany follows word h = absurd h

-- ---- the rate

rate_read_is : (offset bar : ℕ) (text : List ℕ) (r : IsRateText text) → rate_read offset (bar, text) ≡ Ok (Some r.1)
rate_read_is offset bar text r = ap (λ (t : List ℕ). rate_read offset (bar, t)) r.2 ∙ rw (r.3, r.4) refl

-- which fault a rate is
abbrev RateFault : ℕ → ℕ → List ℕ → StatsdFault → Type 0
RateFault offset bar text f =
    (f ≡ record { kind = kinds.BadRate; offset = bar })
    ⊎ ((f ≡ record { kind = kinds.NumberRange; offset = offset }) × (get_or text 0 0 ≡ 64)
    × (is_decimal (drop 1 text) ≡ true))

rate_fault : (offset bar : ℕ) (text : List ℕ) → Faulty (RateFault offset bar text) (rate_read offset (bar, text))
rate_fault offset bar text =
    test_faulty (RateFault offset bar text) (get_or text 0 0 == 64)
    (rate_from offset bar (get_or text 1 0 == 45) (read_as (drop 1 text))) (fault kinds.BadRate bar)
    (λ at. from (eqb-true (get_or text 0 0) 64 at) (get_or text 1 0 == 45) (is_decimal (drop 1 text)) refl
    (read_as (drop 1 text)) (decimal_numeric (drop 1 text))) (λ e. bad)
  where
    bad : {A : Type 0} → Faulty {A = A} (RateFault offset bar text) (fault kinds.BadRate bar)
    bad = one_faulty (RateFault offset bar text) (record { kind = kinds.BadRate; offset = bar }) (inl refl)

    from : get_or text 0 0 ≡ 64 → (negative t : Bool) → is_decimal (drop 1 text) ≡ t → (r : Result ℤ NumFault)
        → IsNumeric t r → Faulty (RateFault offset bar text) (rate_from offset bar negative r)
    from at negative t same (Ok n) is = test_faulty (RateFault offset bar text) (is_positive n) (Ok (Some n))
        (fault kinds.BadRate bar) (λ e. none_faulty (RateFault offset bar text) (Some n)) (λ e. bad)
    from at negative t same (Err numbers.NotANumber) is = bad
    from at negative t same (Err numbers.NumberRange) is =
        test_faulty (RateFault offset bar text) negative (fault kinds.BadRate bar) (fault kinds.NumberRange offset)
        (λ e. bad)
        (λ e. one_faulty (RateFault offset bar text) (record { kind = kinds.NumberRange; offset = offset })
        (inr (refl, at, same ∙ is)))

first_is : (text : List ℕ) (b : ℕ) → 0 < b → get_or text 0 0 ≡ b → text ≡ b ∷ drop 1 text
first_is [] b some e = absurd (omega (arith, e))
first_is (c ∷ text) b some e = ap (λ (n : ℕ). n ∷ text) e

rate_faulty : (piece : List ℕ) (part : PartAt) (x : Texts) → TextsStand piece part x → Follows 58 piece part.0
    → Faulty (Stands piece) (rate_of part.0 x.rate)
unfolding rate_of
rate_faulty piece part x t follows = subst (λ (r : Option PartAt). Faulty (Stands piece) (rate_of part.0 r))
    (sym t.rate) (by_more t.more t.stands)
  where
    by_more : (more : Option (List ℕ)) → TypeStands piece part x.value t.name more
        → Faulty (Stands piece) (rate_of part.0 (rate_text (part.0 + length x.value + 1 + length t.name) more))
    by_more None s = none_faulty (Stands piece) None
    by_more (Some text) s =
        let bar : ℕ = part.0 + length x.value + 1 + length t.name in
        let here = step piece (part.0 + length x.value + 1) t.name (124 ∷ (text ++ s.rest))
        (type_at piece part x.value t.name (Some text) s).0 in
        record {
          at = λ f e. elim ((rate_fault part.0 bar text).at f e) [
            | inl bad ↦ subst (Stands piece) (sym bad) (record {
              text = text;
              rest = s.rest;
              is = here.is;
              ends = s.ends;
              none = λ r. not_both (rate_read part.0 (bar, text)) (Some r.1) f (rate_read_is part.0 bar text r) e;
            })
            | inr out ↦ subst (Stands piece) (sym out.0) (
              follows,
              inr (record {
                name = t.name;
                digits = drop 1 text;
                rest = s.rest;
                is =
                    s.at.is ∙ ap (λ (w : List ℕ). w ++ 124 ∷ (t.name ++ 124 ∷ (text ++ s.rest)))
                    (sym (value_word piece part x.value t.name (Some text) s))
                    ∙ ap (λ (w : List ℕ). word_at ends_value piece part.0 ++ 124 ∷ (t.name ++ 124 ∷ (w ++ s.rest)))
                    (first_is text 64 (omega arith) out.1);
                no_bar = s.name_none;
                decimal = out.2;
                ends = s.ends;
              }),
            )
          ];
        }

-- ---- the part

part_faulty : (piece : List ℕ) (part : PartAt) → PartStands piece part → Faulty (Stands piece) (part_of part)
unfolding part_of
part_faulty piece part s =
    next_faulty (Stands piece) (texts_of part) _ (texts_faulty piece part s)
    (λ x e. let t = texts_stand piece part x s e in
    let word = value_word piece part x.value t.name t.more t.stands in
    next_faulty (Stands piece) (placed_at part.0 (value_of x.metric_type x.value)) _
    (placed_faulty (Stands piece) part.0 (value_of x.metric_type x.value)
    (λ kind g. value_stands piece part.0 x.value kind s.follows word (value_says x.metric_type x.value kind g)))
    (λ value g. next_faulty (Stands piece) (rate_of part.0 x.rate) _ (rate_faulty piece part x t s.follows)
    (λ rate h. next_faulty (Stands piece) (placed_at part.0 (counted x.metric_type value rate)) _
    (placed_faulty (Stands piece) part.0 (counted x.metric_type value rate)
    (λ kind k. value_stands piece part.0 x.value kind s.follows word
    (counted_says x.metric_type x.value value rate kind (value_read part.0 (value_of x.metric_type x.value) value g)
    k)))
    (λ result k. none_faulty (Stands piece) _))))
  where
    value_read : (offset : ℕ) (r : Result Value StatsdKind) (value : Value) → placed_at offset r ≡ Ok value
        → r ≡ Ok value
    value_read offset (Ok x) value e = ap (λ (z : Value). Ok z) (same_ok x value e)
    value_read offset (Err kind) value e = absurd cc

-- ---- the tags

-- a tag behind `|#`, of which the text isn't empty
later_tag_faulty : (piece : List ℕ) (part : PartAt) → (Follows 44 piece part.0 ⊎ Follows 35 piece part.0)
    → word_at (is_byte 44) piece part.0 ≡ part.1 → 0 < length part.1 → Faulty (Stands piece) (later_tag part)
unfolding later_tag
later_tag_faulty piece part follows word some =
    record {
      at = λ f e. subst (Stands piece) (sym (bad.at f e))
          (inr (record { follows = follows; none = λ t. no_tag t.0 t.1 (sym word ∙ t.2) f e }));
    }
  where
    bad : Faulty (λ f. f ≡ record { kind = kinds.BadTag; offset = part.0 }) (later_tag part)
    bad =
        test_faulty (λ f. f ≡ record { kind = kinds.BadTag; offset = part.0 })
        (list_any (is_byte 124) part.1 || length (first_part 58 part.1).0 == 0) (fault kinds.BadTag part.0) _
        (λ t. one_faulty (λ f. f ≡ record { kind = kinds.BadTag; offset = part.0 })
        (record { kind = kinds.BadTag; offset = part.0 }) refl)
        (λ t. none_faulty (λ f. f ≡ record { kind = kinds.BadTag; offset = part.0 }) _)

    no_tag : (tag : LaterTag) → IsLaterTag tag → part.1 ≡ later_spelling tag → (f : StatsdFault)
        → later_tag part ≡ Err f → ⊥
    no_tag Nothing is e f read = absurd (omega (arith, some, ap length e))
    no_tag (Flag key) is e f read = not_both (later_tag part) (key, codes "true") f
        (ap (λ (t : List ℕ). later_tag (part.0, t)) e ∙ flag_read part.0 key is) read
    no_tag (Pair key value) is e f read = not_both (later_tag part) (key, value) f
        (ap (λ (t : List ℕ). later_tag (part.0, t)) e ∙ pair_read part.0 key value is) read

-- the filled ones of parts
filled_parts : (Q : PartAt → Type 0) (parts : List PartAt) → AllByRecursion Q parts
    → AllByRecursion (λ (part : PartAt). Q part × (0 < length part.1)) (filter is_filled parts)
filled_parts Q [] h = tt
filled_parts Q (part ∷ parts) h =
    elim (length part.1 == 0) as (λ t. (length part.1 == 0) ≡ t
    → AllByRecursion (λ (p : PartAt). Q p × (0 < length p.1))
    (cond (not t) (part ∷ filter is_filled parts) (filter is_filled parts))) [
      | true ↦ λ e. filled_parts Q parts h.1
      | false ↦ λ e. ((h.0, some_of part.1 e), filled_parts Q parts h.1)
    ] refl

later_faulty : (piece : List ℕ) (tags : PartAt) → At piece tags.0 (tags.1 ++ []) → Follows 35 piece tags.0
    → Faulty (Stands piece) (later_tags tags)
unfolding later_tags parts_of
later_faulty piece tags at follows =
    let B : ℕ → Type 0 = λ i. Follows 44 piece i ⊎ Follows 35 piece i in
    let texts : List (List ℕ) = slice_split (is_byte 44) tags.1 in
    let here : At piece tags.0 (join_with_byte 44 (slice_split (is_byte 44) tags.1) ++ []) =
    subst (λ (t : List ℕ). At piece tags.0 (t ++ [])) (sym (join_with_byte-slice_split 44 tags.1)) at in
    let stand = all_stand piece 44 [] (λ i. Follows 44 piece i ⊎ Follows 35 piece i) (λ i f. inl f) tags.0 texts
    (inr follows) here (parts_none (is_byte 44) tags.1) in
    each_faulty (Stands piece) (λ (part : PartAt). ((Follows 44 piece part.0 ⊎ Follows 35 piece part.0)
    × Standing piece 44 [] part) × (0 < length part.1)) later_tag
    (λ part s. later_tag_faulty piece part s.0.0 (standing_word 44 piece [] part tt s.0.1) s.1)
    (filter is_filled (placed tags.0 (slice_split (is_byte 44) tags.1)))
    (filled_parts (λ (part : PartAt). (Follows 44 piece part.0 ⊎ Follows 35 piece part.0) × Standing piece 44 [] part)
    (placed tags.0 texts) stand)

-- no tag is written
no_tags_faulty : (piece : List ℕ) (offset : ℕ) → Faulty (Stands piece) (later_tags (offset, []))
unfolding later_tags parts_of each
no_tags_faulty piece offset = none_faulty (Stands piece) []

-- ---- the head

-- a tag of the name ends in front of a comma or a colon
head_word : (piece rest : List ℕ) (part : PartAt) → HasNone (is_byte 58) part.1 → Standing piece 44 (58 ∷ rest) part
    → word_at ends_name piece part.0 ≡ part.1
head_word piece rest part colons s = word_is ends_name piece part.0 part.1 s.rest s.at.is
    (both_none (is_byte 58) (is_byte 44) part.1 colons s.lacks) (end s.rest s.behind)
  where
    end : (more : List ℕ) → (more ≡ 58 ∷ rest) ⊎ ((others : List ℕ) × (more ≡ 44 ∷ others)) → Begins ends_name more
    end more (inl e) = subst (Begins ends_name) (sym e) refl
    end more (inr e) = subst (Begins ends_name) (sym e.1) refl

valued_bad : (offset : ℕ) (key : List ℕ) (value : Option (List ℕ))
    → Faulty (λ f. f ≡ record { kind = kinds.BadTag; offset = offset }) (valued offset key value)
valued_bad offset key None = one_faulty (λ f. f ≡ record { kind = kinds.BadTag; offset = offset })
    (record { kind = kinds.BadTag; offset = offset }) refl
valued_bad offset key (Some value) =
    test_faulty (λ f. f ≡ record { kind = kinds.BadTag; offset = offset }) (length key == 0) (fault kinds.BadTag offset)
    (Ok (key, value))
    (λ t. one_faulty (λ f. f ≡ record { kind = kinds.BadTag; offset = offset })
    (record { kind = kinds.BadTag; offset = offset }) refl)
    (λ t. none_faulty (λ f. f ≡ record { kind = kinds.BadTag; offset = offset }) (key, value))

head_tag_bad : (part : PartAt) → Faulty (λ f. f ≡ record { kind = kinds.BadTag; offset = part.0 }) (head_tag part)
unfolding head_tag
head_tag_bad part = valued_bad part.0 (first_part 61 part.1).0 (first_part 61 part.1).1

head_tag_faulty : (piece rest : List ℕ) (part : PartAt) → Follows 44 piece part.0 → HasNone (is_byte 58) part.1
    → Standing piece 44 (58 ∷ rest) part → Faulty (Stands piece) (head_tag part)
head_tag_faulty piece rest part follows colons s = record {
  at = λ f e. subst (Stands piece) (sym ((head_tag_bad part).at f e)) (inl (record {
    follows = follows;
    none = λ t. not_both (head_tag part) t.0 f (ap (λ (text : List ℕ). head_tag (part.0, text))
        (sym (head_word piece rest part colons s) ∙ t.2) ∙ head_tag_read part.0 t.0 t.1) e;
  }));
}

-- each part lacks the byte that all of the text lacks
parts_lack : (p : ℕ → Bool) (c : ℕ) (texts : List (List ℕ)) → HasNone p (join_with_byte c texts)
    → AllByRecursion (HasNone p) texts
parts_lack p c [] h = tt
parts_lack p c (text ∷ []) h = (h, tt)
parts_lack p c (text ∷ next ∷ texts) h =
    let both = none_split p text (c ∷ join_with_byte c (next ∷ texts)) h in
    (both.0, parts_lack p c (next ∷ texts) both.1.1)

tags_faulty : (piece rest : List ℕ) (offset : ℕ) (texts : List (List ℕ)) → AllByRecursion (HasNone (is_byte 58)) texts
    → AllByRecursion (λ (part : PartAt). Follows 44 piece part.0 × Standing piece 44 (58 ∷ rest) part)
    (placed offset texts) → Faulty (Stands piece) (each head_tag (placed offset texts))
unfolding each
tags_faulty piece rest offset [] colons all = none_faulty (Stands piece) []
tags_faulty piece rest offset (text ∷ texts) colons all =
    next_faulty (Stands piece) (head_tag (offset, text)) _ (head_tag_faulty piece rest
    (offset, text) all.0.0 colons.0 all.0.1)
    (λ first e. next_faulty (Stands piece) (each head_tag (placed (offset + length text + 1) texts)) _
    (tags_faulty piece rest (offset + length text + 1) texts colons.1 all.1)
    (λ others f. none_faulty (Stands piece) (first ∷ others)))

begins_name : (piece rest : List ℕ) (texts : List (List ℕ)) → piece ≡ join_with_byte 44 ([] ∷ texts) ++ 58 ∷ rest
    → (get_or piece 0 0 ≡ 44) ⊎ (get_or piece 0 0 ≡ 58)
begins_name piece rest [] e = inr (ap (λ (t : List ℕ). get_or t 0 0) e)
begins_name piece rest (text ∷ texts) e = inl (ap (λ (t : List ℕ). get_or t 0 0) e)

abbrev with_name : List ℕ → List Tag → Result (List ℕ × List Tag) StatsdFault
with_name name tags = Ok (name, tags)

abbrev tagged : List ℕ × List PartAt → Result (List ℕ × List Tag) StatsdFault
tagged name = each head_tag name.1 >>= λ tags. with_name name.0 tags

head_faulty : (piece head rest : List ℕ) → piece ≡ head ++ 58 ∷ rest → HasNone (is_byte 58) head
    → Faulty (Stands piece) (head_of head)
unfolding head_of parts_of
head_faulty piece head rest is colons = by_texts (slice_split (is_byte 44) head) (join_with_byte-slice_split 44 head)
    (parts_none (is_byte 44) head)
  where
    by_texts : (texts : List (List ℕ)) → join_with_byte 44 texts ≡ head → AllByRecursion (HasNone (is_byte 44)) texts
        → Faulty (Stands piece) (name_of (placed 0 texts) >>= λ name. each head_tag name.1 >>= λ tags. with_name name.0
        tags)
    by_texts [] joined commas =
        one_faulty (Stands piece) (record { kind = kinds.BadName; offset = 0 })
        (inr (ap (λ (t : List ℕ). get_or t 0 0) (is ∙ ap (λ (t : List ℕ). t ++ 58 ∷ rest) (sym joined))))
    by_texts (first ∷ texts) joined commas =
        let whole : piece ≡ join_with_byte 44 (first ∷ texts) ++ 58 ∷ rest =
        is ∙ ap (λ (t : List ℕ). t ++ 58 ∷ rest) (sym joined) in
        next_faulty (Stands piece) (name_of (placed 0 (first ∷ texts))) tagged (named first texts whole)
        (λ name e. subst (λ (n : List ℕ × List PartAt). Faulty (Stands piece) (tagged n)) (others first texts name e)
        (next_faulty (Stands piece) (each head_tag (placed (0 + length first + 1) texts)) (with_name first)
        (tags_faulty piece rest (0 + length first + 1) texts
        (parts_lack (is_byte 58) 44 (first ∷ texts) (subst (HasNone (is_byte 58)) (sym joined) colons)).1
        (stand first texts whole commas))
        (λ tags g. none_faulty (Stands piece) (first, tags))))
      where
        named : (first : List ℕ) (texts : List (List ℕ)) → piece ≡ join_with_byte 44 (first ∷ texts) ++ 58 ∷ rest
            → Faulty (Stands piece) (name_of (placed 0 (first ∷ texts)))
        named [] texts whole = one_faulty (Stands piece) (record { kind = kinds.BadName; offset = 0 })
            (begins_name piece rest texts whole)
        named (b ∷ bs) texts whole =
            test_faulty (Stands piece) (length (b ∷ bs) == 0) (fault kinds.BadName 0)
            (Ok (b ∷ bs, placed (0 + length (b ∷ bs) + 1) texts))
            (λ e. absurd (omega (arith, eqb-true (length (b ∷ bs)) 0 e))) (λ e. none_faulty (Stands piece) _)

        others : (first : List ℕ) (texts : List (List ℕ)) (name : List ℕ × List PartAt)
            → name_of (placed 0 (first ∷ texts)) ≡ Ok name → (first, placed (0 + length first + 1) texts) ≡ name
        others first texts name e = same_ok (first, placed (0 + length first + 1) texts) name
            (chosen_ok (length first == 0) _ _ name e).1

        stand : (first : List ℕ) (texts : List (List ℕ)) → piece ≡ join_with_byte 44 (first ∷ texts) ++ 58 ∷ rest
            → AllByRecursion (HasNone (is_byte 44)) (first ∷ texts)
            → AllByRecursion (λ (part : PartAt). Follows 44 piece part.0 × Standing piece 44 (58 ∷ rest) part)
            (placed (0 + length first + 1) texts)
        stand first [] whole lack = tt
        stand first (text ∷ texts) whole lack =
            let more : List ℕ = join_with_byte 44 (text ∷ texts) ++ 58 ∷ rest in
            let split : piece ≡ first ++ 44 ∷ (join_with_byte 44 (text ∷ texts) ++ 58 ∷ rest) =
            whole ∙ append_assoc first (44 ∷ join_with_byte 44 (text ∷ texts)) (58 ∷ rest) in
            let start : At piece 0 (first ++ 44 ∷ (join_with_byte 44 (text ∷ texts) ++ 58 ∷ rest)) =
            subst (At piece 0) split (at_start piece) in
            let comma = step piece 0 first (44 ∷ more) start in
            all_stand piece 44 (58 ∷ rest) (λ i. Follows 44 piece i) (λ i f. f) (0 + length first + 1) (text ∷ texts)
            (follows_byte 44 piece (0 + length first) (at_byte piece (0 + length first) (44 ∷ more) comma))
            (over piece (0 + length first) 44 more comma) lack.1

-- ---- the sections

-- where the sections of a line stand
record LineStands (piece : List ℕ) (line : Sections) : Type 0 where
  rest : List ℕ
  is : piece ≡ line.head ++ 58 ∷ rest
  colons : HasNone (is_byte 58) line.head
  tail : List ℕ
  ends : EndsPart tail
  follows : Follows 58 piece line.parts.0
  parts : At piece line.parts.0 (line.parts.1 ++ tail)
  tags : (line.tags.1 ≡ []) ⊎ (At piece line.tags.0 (line.tags.1 ++ []) × Follows 35 piece line.tags.0)
  parts_are : line.parts ≡ (length line.head + 1, take (marker_len rest) rest)
  tags_are : line.tags ≡ (length line.head + 1 + marker_len rest + 2, drop (marker_len rest + 2) rest)

split_line : (front rest : List ℕ) → Sections
split_line front rest = record {
  head = front;
  parts = (length front + 1, take (marker_len rest) rest);
  tags = (length front + 1 + marker_len rest + 2, drop (marker_len rest + 2) rest);
}

split_stands : (piece front rest : List ℕ) → piece ≡ front ++ 58 ∷ rest → HasNone (is_byte 58) front
    → LineStands piece (split_line front rest)
unfolding split_line
split_stands piece front rest is colons =
    let start : At piece 0 (front ++ 58 ∷ rest) = subst (At piece 0) is (at_start piece) in
    let colon : At piece (length front) (58 ∷ rest) = subst (λ (n : ℕ). At piece n (58 ∷ rest)) (omega arith)
    (step piece 0 front (58 ∷ rest) start) in
    let behind = over piece (length front) 58 rest colon in
    let follows = follows_byte 58 piece (length front) (at_byte piece (length front) (58 ∷ rest) colon) in
    elim (marker_cut rest) [
      | inl all ↦
          let whole : rest ≡ take (marker_len rest) rest ++ [] =
          sym (append-nil (take (marker_len rest) rest) ∙ take_all (marker_len rest) rest (omega arith)) in
          record {
            rest = rest;
            is = is;
            colons = colons;
            tail = [];
            ends = tt;
            follows = follows;
            parts = subst (At piece (length front + 1)) whole behind;
            tags = inl (drop_all (marker_len rest + 2) rest (omega arith));
            parts_are = refl;
            tags_are = refl;
          }
      | inr cut ↦
          let tags : List ℕ = drop (marker_len rest + 2) rest in
          let here : At piece (length front + 1) (take (marker_len rest) rest
          ++ 124 ∷ 35 ∷ drop (marker_len rest + 2) rest) = subst (At piece (length front + 1)) cut behind in
          let size : length (take (marker_len rest) rest) ≡ marker_len rest =
          length-take-le (marker_len rest) rest (marker_le rest) in
          let bar : At piece (length front + 1 + marker_len rest) (124 ∷ 35 ∷ drop (marker_len rest + 2) rest) =
          subst (λ (n : ℕ). At piece (length front + 1 + n) (124 ∷ 35 ∷ drop (marker_len rest + 2) rest)) size
          (step piece (length front + 1) (take (marker_len rest) rest) (124 ∷ 35 ∷ tags) here) in
          let hash = over piece (length front + 1 + marker_len rest) 124 (35 ∷ tags) bar in
          let end = over piece (length front + 1 + marker_len rest + 1) 35 tags hash in
          let marked = follows_byte 35 piece (length front + 1 + marker_len rest + 1)
          (at_byte piece (length front + 1 + marker_len rest + 1) (35 ∷ tags) hash) in
          let offset : length front + 1 + marker_len rest + 1 + 1 ≡ length front + 1 + marker_len rest + 2 =
          omega arith in
          record {
            rest = rest;
            is = is;
            colons = colons;
            tail = 124 ∷ 35 ∷ drop (marker_len rest + 2) rest;
            ends = inr refl;
            follows = follows;
            parts = here;
            tags = inr (
              subst (λ (n : ℕ). At piece n (drop (marker_len rest + 2) rest ++ [])) offset
                  (subst (At piece (length front + 1 + marker_len rest + 1 + 1))
                  (sym (append-nil (drop (marker_len rest + 2) rest))) end),
              subst (λ (n : ℕ). Follows 35 piece n) offset marked,
            );
            parts_are = refl;
            tags_are = refl;
          }
    ]

line_stands : (piece : List ℕ) (line : Sections) → sections piece ≡ Ok line → LineStands piece line
unfolding sections split_line
line_stands piece line e = cut (first_part 58 piece).0 (first_part 58 piece).1 (cut_is_first 58 piece) e
  where
    cut : (front : List ℕ) (rest : Option (List ℕ)) → (piece ≡ front ++ behind_first 58 rest)
        × HasNone (is_byte 58) front → sections_of (length piece) front rest ≡ Ok line → LineStands piece line
    cut front None is e = absurd cc
    cut front (Some rest) is e = subst (LineStands piece) (same_ok (split_line front rest) line e)
        (split_stands piece front rest is.0 is.1)

sections_faulty : (piece : List ℕ) → Faulty (Stands piece) (sections piece)
unfolding sections
sections_faulty piece = cut (first_part 58 piece).0 (first_part 58 piece).1 (cut_is_first 58 piece)
  where
    cut : (front : List ℕ) (rest : Option (List ℕ)) → (piece ≡ front ++ behind_first 58 rest)
        × HasNone (is_byte 58) front → Faulty (Stands piece) (sections_of (length piece) front rest)
    cut front None is = one_faulty (Stands piece) (record { kind = kinds.NoColon; offset = length piece })
        (subst (HasNone (is_byte 58)) (sym (is.0 ∙ append-nil front)) is.1)
    cut front (Some rest) is = none_faulty (Stands piece) _

tagged_faulty : (piece : List ℕ) (tags : PartAt) → (tags.1 ≡ [])
    ⊎ (At piece tags.0 (tags.1 ++ []) × Follows 35 piece tags.0) → Faulty (Stands piece) (later_tags tags)
tagged_faulty piece tags (inl none) = subst (λ (t : List ℕ). Faulty (Stands piece) (later_tags (tags.0, t))) (sym none)
    (no_tags_faulty piece tags.0)
tagged_faulty piece tags (inr s) = later_faulty piece tags s.0 s.1

parts_faulty : (piece tail : List ℕ) (parts : PartAt) → EndsPart tail → Follows 58 piece parts.0
    → At piece parts.0 (parts.1 ++ tail) → Faulty (Stands piece) (each part_of (parts_of 58 parts))
unfolding parts_of
parts_faulty piece tail parts ends follows at =
    let here : At piece parts.0 (join_with_byte 58 (slice_split (is_byte 58) parts.1) ++ tail) =
    subst (λ (t : List ℕ). At piece parts.0 (t ++ tail)) (sym (join_with_byte-slice_split 58 parts.1)) at in
    each_faulty (Stands piece) (λ (part : PartAt). Follows 58 piece part.0 × Standing piece 58 tail part) part_of
    (λ part s. part_faulty piece part (part_stands piece tail part ends s))
    (placed parts.0 (slice_split (is_byte 58) parts.1))
    (all_stand piece 58 tail (λ i. Follows 58 piece i) (λ i f. f) parts.0 (slice_split (is_byte 58) parts.1) follows
    here (parts_none (is_byte 58) parts.1))

-- ---- the line

limited_faulty : (piece : List ℕ) (moment : ℤ) (name : List ℕ) (tags : List Tag) (said : List Said)
    → LineFound piece moment name tags said → Faulty (Stands piece) (limited (map (content_of name tags moment) said))
limited_faulty piece moment name tags said found =
    let metrics : List Content = map (content_of name tags moment) said in
    test_faulty (Stands piece) (list_any has_too_many (map (content_of name tags moment) said)) (fault kinds.TooMany 0)
    (Ok metrics)
    (λ e. one_faulty (Stands piece) (record { kind = kinds.TooMany; offset = 0 }) (record {
      written = found.w;
      said = said;
      moment = moment;
      is = found.is;
      line = found.line;
      many = subst (λ (ms : List Content). list_any has_too_many ms ≡ true) found.are e;
    }))
    (λ e. none_faulty (Stands piece) metrics)

line_faulty : (piece : List ℕ) (moment : ℤ) → Faulty (Stands piece) (line_reading piece moment)
unfolding line_reading
line_faulty piece moment =
    next_faulty (Stands piece) (sections piece) _ (sections_faulty piece)
    (λ line e. let s = line_stands piece line e in
    next_faulty (Stands piece) (head_of line.head) _ (head_faulty piece line.head s.rest s.is s.colons)
    (λ head f. next_faulty (Stands piece) (later_tags line.tags) _ (tagged_faulty piece line.tags s.tags)
    (λ later g. next_faulty (Stands piece) (each part_of (parts_of 58 line.parts)) _
    (parts_faulty piece s.tail line.parts s.ends s.follows s.parts)
    (λ said h. limited_faulty piece moment head.0 (head.1 ++ later) said
    (line_found piece line.head s.rest moment head.0 head.1 later said s.is s.colons f
    (ap later_tags (sym s.tags_are) ∙ g) (ap (λ (parts : PartAt). each part_of (parts_of 58 parts)) (sym s.parts_are)
    ∙ h))))))

text_faulty : (piece : List ℕ) (moment : ℤ) → Faulty (Stands piece) (text_reading piece moment)
unfolding text_reading
text_faulty piece moment = test_faulty (Stands piece) (is_blank piece) (Ok []) (line_reading piece moment)
    (λ e. none_faulty (Stands piece) []) (λ e. line_faulty piece moment)

pub fault_says : FaultSays
unfolding reading
fault_says piece moment f e =
    (test_faulty (Says piece) (is_utf8 piece) (text_reading piece moment) (fault kinds.NotUtf8 (utf8_valid_len piece))
    (λ u. record {
      at = λ g is. record {
        utf8 = inr (IsUtf8-from_is_utf8 piece u);
        stands = (text_faulty piece moment).at g is;
      };
    })
    (λ no. one_faulty (Says piece) (record { kind = kinds.NotUtf8; offset = utf8_valid_len piece })
    (record { utf8 = inl refl; stands = valid_up_to piece no }))).at f e
