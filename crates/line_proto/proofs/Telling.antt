-- What stands where a fault is.
use Rattle.std.proofs.Common.{◌≡◌, ◌≢◌, ℕ, ℤ, zero, suc, ◌+◌, ◌<◌, ◌≤◌, Bool, true, false, cond, List, [], ◌∷◌, ◌++◌}
use Rattle.std.proofs.Common.{length, get_or, take, drop, Result, Ok, Err, Option, Some, None, refl, sym, ap, subst}
use Rattle.std.proofs.Common.{◌∙◌, arith, inl, inr}
use Rattle.std.specs.Prelude.{◌||◌, ◌&&◌, ◌==◌, not, ◌⊎◌}
use Rattle.std.specs.List.{position_or_len}
use Rattle.std.specs.Str.{is_utf8}
use Rattle.std.specs.Str.Lossy.{utf8_valid_len}
use Rattle.std.proofs.lemmas.Bool.{eqb-true, eqb-false, or_parts}
use Rattle.std.proofs.lemmas.List.{length-drop, length-take-le, drop-drop}
use Rattle.std.proofs.lemmas.Str.{IsUtf8-from_is_utf8}
use Rattle.fixed_num.specs.declared.fixed.NumFault.{NumFault}
use Rattle.fixed_num.specs.declared.fixed.NumFault.TheVariants as numbers
use Rattle.fixed_num.specs.Decimal.{decimal_of}
use Rattle.fixed_num.specs.Fixed.{read_as}
use Rattle.fixed_num.specs.Whole.{is_numeral, behind_sign, as_uint, as_int, numeral_read_as, uint_read_as, int_read_as}
use Rattle.std.specs.Str.Parse.{digits_value}
use Rattle.text_parts.specs.Chain.{◌>>=◌}
use Rattle.text_parts.specs.Grammar.{Ends, HasNone, IsWritten}
use Rattle.text_parts.specs.Many.{Reader, many_at, items_at}
use Rattle.text_parts.specs.Pairs.{pairs_text, Meaning, AllAre}
use Rattle.text_parts.specs.Part.{Kind, part_len, len_at, text_at}
use Rattle.text_parts.specs.Offsets.{word_at, Follows, is_decimal}
use Rattle.text_parts.proofs.Faulty.{Faulty, same_err, not_both, none_faulty, one_faulty, next_faulty, test_faulty}
use Rattle.text_parts.proofs.OffsetLemmas.{no_word, byte_there, follows_byte, follows_last, IsNumeric, decimal_numeric}
use Rattle.text_parts.proofs.Spans.{unhidden_part, position_or_len_le}
use Rattle.text_parts.proofs.Splits.{before_none}
use Rattle.text_parts.proofs.Stands.{Spans, byte_spans}
use Rattle.text_parts.proofs.Takes.{At}
use Rattle.text_parts.proofs.Utf8.{either}
use Rattle.text_parts.proofs.ValidFronts.{valid_up_to}
use Rattle.metric.specs.declared.value.Value.{Value}
use Rattle.metric.specs.declared.value.Value.TheVariants as values
use Rattle.metric.specs.Draft.{has_too_many}
use Rattle.line_proto.specs.declared.fault.LineFault.{LineFault}
use Rattle.line_proto.specs.declared.fault.LineKind.{LineKind}
use Rattle.line_proto.specs.declared.fault.LineKind.TheVariants as kinds
use Rattle.line_proto.specs.Kinds.{name_part, key_part, tag_value_part, text_part, value_part}
use Rattle.line_proto.specs.Values.{last_byte, before_last_byte, typed, number_or, truth_of, number_of, value_from}
use Rattle.line_proto.specs.Values.{value_of, time_of}
use Rattle.line_proto.specs.Grammar.{ends_word, is_space, spaces, behind_name, IsTag, IsField}
use Rattle.line_proto.specs.Reading.{fault, placed, name_at, key_at, tag_value_at, keyed_at, tag_at, text_value_at}
use Rattle.line_proto.specs.Reading.{is_value_end, plain_value_at, value_at, field_at, tags_at, fields_at}
use Rattle.line_proto.specs.Reading.{behind_spaces, spaced_fields_at}
use Rattle.line_proto.specs.Reading.{time_len, written_time_at, time_at, line_at, content_of, limited, metric_at}
use Rattle.line_proto.specs.Reading.{is_blank_or_comment, text_reading, reading}
use Rattle.line_proto.specs.Faults.{is_whole, is_natural, is_number, IsHeadAlone, HasKey, HasText, StandsAt, Says}
use Rattle.line_proto.specs.Faults.{FaultSays}
use Rattle.line_proto.proofs.Takes.{Meets, key_takes, quoted_takes}
use Rattle.line_proto.proofs.Again.{ends_meet, word_split, name_again, key_again, tag_again, field_again, many_again}
use Rattle.line_proto.proofs.Again.{PairRead, SpacesRead, spaces_again, space_there, passes_one, not_all, at_end}
use Rattle.line_proto.proofs.Again.{spaced_fields_again, line_again}

abbrev Stands : List ℕ → ℤ → LineFault → Type 0
Stands piece moment f = StandsAt piece moment f.offset f.kind

-- ---- bytes

-- a part without a byte ends where it begins
ends_there : (k : Kind) (bs : List ℕ) → part_len k bs ≡ 0 → 0 < length bs → k.ends (get_or bs 0 0) ≡ true
unfolding part_len
ends_there k [] e some = absurd (omega arith)
ends_there k (b ∷ []) e some = elim (k.ends b) as (λ t. cond {A = ℕ} t 0 1 ≡ 0 → t ≡ true)
    [ true ↦ λ e. refl | false ↦ λ e. absurd (omega (arith, e)) ] e
ends_there k (b ∷ c ∷ bs) e some =
    elim (b == 92 && k.escapes c) as (λ t. cond {A = ℕ} t (2 + part_len k bs)
    (cond {A = ℕ} (k.ends b) 0 (1 + part_len k (c ∷ bs))) ≡ 0 → k.ends b ≡ true) [
      | true ↦ λ e. absurd (omega (arith, e))
      | false ↦ λ e. elim (k.ends b) as (λ t. cond {A = ℕ} t 0 (1 + part_len k (c ∷ bs)) ≡ 0 → t ≡ true)
          [ true ↦ λ e. refl | false ↦ λ e. absurd (omega (arith, e)) ] e
    ] e

-- a byte that stands at an offset passes the test that the rest meets
meets_there : (p : ℕ → Bool) (piece : List ℕ) (j : ℕ) → j < length piece → Meets p (drop j piece)
    → p (get_or piece j 0) ≡ true
meets_there p piece j lt meets = ap p (sym (byte_there piece j))
    ∙ first (drop j piece) (omega (arith, length-drop j piece)) meets
  where
    first : (bs : List ℕ) → 0 < length bs → Meets p bs → p (get_or bs 0 0) ≡ true
    first [] some meets = absurd (omega arith)
    first (b ∷ bs) some meets = meets

spaces_last : (n : ℕ) → spaces (suc n) ≡ spaces n ++ 32 ∷ []
spaces_last zero = refl
spaces_last (suc n) = ap (λ (t : List ℕ). 32 ∷ t) (spaces_last n)

spaces_follow : (piece : List ℕ) (i j : ℕ) (s : SpacesRead piece i j) → 0 < s.count → Follows 32 piece j
spaces_follow piece i j s some = counted s.count refl some
  where
    counted : (n : ℕ) → s.count ≡ n → 0 < n → Follows 32 piece j
    counted zero e some = absurd (omega arith)
    counted (suc n) e some = follows_last piece i j 32 (spaces n)
        (subst (Spans piece i j) (ap spaces e ∙ spaces_last n) s.spans)

-- ---- the measurement

name_faulty : (piece : List ℕ) (moment : ℤ) (i : ℕ) → i < length piece → HasNone (λ b. not (b == 32)) (take i piece)
    → not (get_or piece i 0 == 32) ≡ true → Faulty (Stands piece moment) (name_at piece i)
unfolding name_at
name_faulty piece moment i lt front no_space =
    test_faulty (Stands piece moment) (len_at name_part piece i == 0) (fault kinds.BadKey i)
    (Ok (text_at name_part piece i, i + len_at name_part piece i))
    (λ e. one_faulty (Stands piece moment) (record { kind = kinds.BadKey; offset = i })
    (inl (record { front = front; comma = comma e })))
    (λ e. none_faulty (Stands piece moment) _)
  where
    never : (t : Bool) → not t ≡ true → t ≡ true → ⊥
    never true e f = absurd cc
    never false e f = absurd cc

    comma : (len_at name_part piece i == 0) ≡ true → get_or piece i 0 ≡ 44
    comma e =
        let ends : name_part.ends (get_or piece i 0) ≡ true =
        ap name_part.ends (sym (byte_there piece i)) ∙ ends_there name_part (drop i piece)
        (eqb-true (len_at name_part piece i) 0 e) (omega (arith, length-drop i piece)) in
        elim (either (get_or piece i 0 == 44) (get_or piece i 0 == 32) ends) [
          | inl x ↦ eqb-true (get_or piece i 0) 44 x
          | inr y ↦ absurd (never (get_or piece i 0 == 32) no_space y)
        ]

-- ---- keys

key_faulty : (piece : List ℕ) (moment : ℤ) (i : ℕ) → i ≤ length piece → (Follows 44 piece i ⊎ Follows 32 piece i)
    → Faulty (Stands piece moment) (key_at piece i)
unfolding key_at
key_faulty piece moment i le follows =
    record {
      at = λ f e. subst (Stands piece moment) (sym (bad.at f e))
          (inr (record { follows = follows; none = λ k. no_key k f e }));
    }
  where
    bad : Faulty (λ f. f ≡ record { kind = kinds.BadKey; offset = i }) (key_at piece i)
    bad =
        test_faulty (λ f. f ≡ record { kind = kinds.BadKey; offset = i })
        (len_at key_part piece i == 0 || not (get_or piece (i + len_at key_part piece i) 0 == 61))
        (fault kinds.BadKey i) _
        (λ t. one_faulty (λ f. f ≡ record { kind = kinds.BadKey; offset = i })
        (record { kind = kinds.BadKey; offset = i }) refl) (λ t. none_faulty
        (λ f. f ≡ record { kind = kinds.BadKey; offset = i }) _)

    no_key : HasKey piece i → (f : LineFault) → key_at piece i ≡ Err f → ⊥
    no_key k f e =
        let at : At piece i (k.word ++ 61 ∷ k.rest) = record {
          is = k.is;
          within =
              omega (arith, ap length k.is, length-drop i piece);
        } in
        let took = key_takes piece i k.word k.rest k.key at k.written in
        not_both (key_at piece i) (k.key, took.0) f took.1 e

-- ---- values

-- an offset where a value begins
tag_value_faulty : (piece : List ℕ) (moment : ℤ) (i : ℕ) → Follows 61 piece i
    → Faulty (Stands piece moment) (tag_value_at piece i)
unfolding tag_value_at decimal_of
tag_value_faulty piece moment i follows =
    test_faulty (Stands piece moment) (len_at tag_value_part piece i == 0) (fault kinds.BadValue i)
    (Ok (text_at tag_value_part piece i, i + len_at tag_value_part piece i))
    (λ e. one_faulty (Stands piece moment) (record { kind = kinds.BadValue; offset = i }) (follows, inr (none e)))
    (λ e. none_faulty (Stands piece moment) _)
  where
    no_number : is_number [] ≡ false
    no_number = refl

    none : (len_at tag_value_part piece i == 0) ≡ true → is_number (word_at ends_word piece i) ≡ false
    none e = ap is_number (no_word ends_word (drop i piece) (λ some. ends_there tag_value_part (drop i piece)
        (eqb-true (len_at tag_value_part piece i) 0 e) some)) ∙ no_number

-- what a fault of a kind says of a value, and of a time: whether it is a number
abbrev ValueSays : Bool → LineKind → Type 0
ValueSays t kinds.BadValue = t ≡ false
ValueSays t kinds.NumberRange = t ≡ true
ValueSays t kind = ⊥

abbrev TimeSays : Bool → LineKind → Type 0
TimeSays t kinds.BadTime = t ≡ false
TimeSays t kinds.NumberRange = t ≡ true
TimeSays t kind = ⊥

numeral_numeric : (digits : List ℕ) → IsNumeric (is_numeral digits) (numeral_read_as digits)
unfolding numeral_read_as
numeral_numeric digits = chosen (is_numeral digits) (digits_value 10 digits)
  where
    in_range : (t : Bool) (n : ℕ) → IsNumeric true (cond {A = Result ℕ NumFault} t (Ok n) (Err numbers.NumberRange))
    in_range true n = refl
    in_range false n = refl

    chosen : (t : Bool) (n : ℕ) → IsNumeric t (cond {A = Result ℕ NumFault} t (as_uint n) (Err numbers.NotANumber))
    chosen true n = in_range _ n
    chosen false n = refl

natural_numeric : (text : List ℕ) → IsNumeric (is_natural text) (uint_read_as text)
natural_numeric text = chosen (get_or text 0 0 == 45)
  where
    chosen : (t : Bool) → IsNumeric (not t && is_whole text)
        (cond {A = Result ℕ NumFault} t (Err numbers.NotANumber) (numeral_read_as (behind_sign text)))
    chosen true = refl
    chosen false = numeral_numeric (behind_sign text)

whole_numeric : (text : List ℕ) → IsNumeric (is_whole text) (int_read_as text)
whole_numeric text = chosen (is_whole text)
  where
    in_range : (t : Bool) (z : ℤ) → IsNumeric true (cond {A = Result ℤ NumFault} t (Ok z) (Err numbers.NumberRange))
    in_range true z = refl
    in_range false z = refl

    chosen : (t : Bool) → IsNumeric t (cond {A = Result ℤ NumFault} t
        (as_int (get_or text 0 0 == 45) (digits_value 10 (behind_sign text))) (Err numbers.NotANumber))
    chosen true = in_range _ _
    chosen false = refl

typed_says : {A : Type 0} (t : Bool) (value : A → Value) (r : Result A NumFault) (kind : LineKind) → IsNumeric t r
    → typed value r ≡ Err kind → ValueSays t kind
typed_says t value (Ok n) kind is e = absurd cc
typed_says t value (Err numbers.NotANumber) kind is e = subst (ValueSays t) (same_err {A = Value} kinds.BadValue kind e)
    is
typed_says t value (Err numbers.NumberRange) kind is e = subst (ValueSays t)
    (same_err {A = Value} kinds.NumberRange kind e) is

number_says : (text : List ℕ) (kind : LineKind) → number_of text ≡ Err kind → ValueSays (is_number text) kind
unfolding number_of
number_says text kind e = by_int (last_byte text == 105) (last_byte text == 117) e
  where
    by_uint : (u : Bool) → cond u (typed values.Uint (uint_read_as (before_last_byte text)))
        (typed values.Fixed (read_as text)) ≡ Err kind
        → ValueSays (cond u (is_natural (before_last_byte text)) (is_decimal text)) kind
    by_uint true e = typed_says (is_natural (before_last_byte text)) values.Uint
        (uint_read_as (before_last_byte text)) kind (natural_numeric (before_last_byte text)) e
    by_uint false e = typed_says (is_decimal text) values.Fixed (read_as text) kind (decimal_numeric text) e

    by_int : (i u : Bool) → cond i (typed values.Int (int_read_as (before_last_byte text)))
        (cond u (typed values.Uint (uint_read_as (before_last_byte text))) (typed values.Fixed (read_as text))) ≡ Err
        kind
        → ValueSays (cond i (is_whole (before_last_byte text))
        (cond u (is_natural (before_last_byte text)) (is_decimal text))) kind
    by_int true u e = typed_says (is_whole (before_last_byte text)) values.Int
        (int_read_as (before_last_byte text)) kind (whole_numeric (before_last_byte text)) e
    by_int false u e = by_uint u e

value_says : (text : List ℕ) (kind : LineKind) → value_of text ≡ Err kind → ValueSays (is_number text) kind
unfolding value_of
value_says text kind e = by_truth (truth_of text) e
  where
    by_truth : (t : Option Bool) → value_from t (number_of text) ≡ Err kind → ValueSays (is_number text) kind
    by_truth (Some t) e = absurd cc
    by_truth None e = number_says text kind e

placed_faulty : {A : Type 0} (P : LineFault → Type 0) (i : ℕ) (r : Result A LineKind)
    → ((kind : LineKind) → r ≡ Err kind → P (record { kind = kind; offset = i })) → Faulty P (placed i r)
placed_faulty P i (Ok x) h = none_faulty P x
placed_faulty P i (Err kind) h = one_faulty P (record { kind = kind; offset = i }) (h kind refl)

value_stands : (piece : List ℕ) (moment : ℤ) (i : ℕ) (kind : LineKind) → Follows 61 piece i
    → ValueSays (is_number (word_at ends_word piece i)) kind → StandsAt piece moment i kind
value_stands piece moment i kinds.NumberRange follows h = inl (follows, h)
value_stands piece moment i kinds.BadValue follows h = (follows, inr h)
value_stands piece moment i _ follows h = absurd h

plain_faulty : (piece : List ℕ) (moment : ℤ) (i : ℕ) → Follows 61 piece i
    → Faulty (Stands piece moment) (plain_value_at piece i)
unfolding plain_value_at
plain_faulty piece moment i follows =
    let word : text_at value_part piece i ≡ word_at ends_word piece i =
    (unhidden_part value_part (λ b. refl) piece (word_at ends_word piece i) i refl).means in
    next_faulty (Stands piece moment) (placed i (value_of (text_at value_part piece i))) _
    (placed_faulty (Stands piece moment) i (value_of (text_at value_part piece i))
    (λ kind e. value_stands piece moment i kind follows (subst (λ (t : List ℕ). ValueSays (is_number t) kind) word
    (value_says (text_at value_part piece i) kind e))))
    (λ value e. none_faulty (Stands piece moment) _)

meets_end : (rest : List ℕ) → Ends value_part rest → Meets ends_word rest
meets_end [] e = tt
meets_end (b ∷ rest) e = e.0

text_faulty : (piece : List ℕ) (moment : ℤ) (i : ℕ) → i ≤ length piece → Follows 61 piece i
    → (get_or piece i 0 == 34) ≡ true → Faulty (Stands piece moment) (text_value_at piece i)
unfolding value_at text_value_at
text_faulty piece moment i le follows quote =
    record {
      at = λ f e. subst (Stands piece moment) (sym (bad.at f e))
          (follows, inl (eqb-true (get_or piece i 0) 34 quote, λ t. no_text t f e));
    }
  where
    bad : Faulty (λ f. f ≡ record { kind = kinds.BadValue; offset = i }) (text_value_at piece i)
    bad =
        test_faulty (λ f. f ≡ record { kind = kinds.BadValue; offset = i })
        (not (get_or piece (i + 1 + len_at text_part piece (i + 1)) 0 == 34)
        || not (is_value_end piece (i + 1 + len_at text_part piece (i + 1) + 1)))
        (fault kinds.BadValue i) (Ok (
          values.Text (text_at text_part piece (i + 1)),
          i + 1 + len_at text_part piece (i + 1) + 1,
        ))
        (λ t. one_faulty (λ f. f ≡ record { kind = kinds.BadValue; offset = i })
        (record { kind = kinds.BadValue; offset = i }) refl)
        (λ t. none_faulty (λ f. f ≡ record { kind = kinds.BadValue; offset = i }) _)

    as_text : value_at piece i ≡ text_value_at piece i
    as_text = rw quote refl

    no_text : HasText piece i → (f : LineFault) → text_value_at piece i ≡ Err f → ⊥
    no_text t f e =
        let at : At piece i (t.word ++ t.rest) = record {
          is = t.is;
          within =
              omega (arith, ap length t.is, length-drop i piece);
        } in
        let took = quoted_takes piece i t.word t.rest t.value at t.quoted (meets_end t.rest t.ends) in
        not_both (value_at piece i) (t.value, took.0) f took.1 (as_text ∙ e)

value_faulty : (piece : List ℕ) (moment : ℤ) (i : ℕ) → i ≤ length piece → Follows 61 piece i
    → Faulty (Stands piece moment) (value_at piece i)
unfolding value_at
value_faulty piece moment i le follows =
    test_faulty (Stands piece moment) (get_or piece i 0 == 34) (text_value_at piece i) (plain_value_at piece i)
    (λ quote. text_faulty piece moment i le follows quote) (λ other. plain_faulty piece moment i follows)

-- ---- tags and fields

-- what begins behind a comma or a space
abbrev Behind : List ℕ → ℕ → Type 0
Behind piece i = Follows 44 piece i ⊎ Follows 32 piece i

-- a key, and a value behind it
keyed_faulty : {V : Type 0} (value_at : List ℕ → ℕ → Result (V × ℕ) LineFault) (piece : List ℕ) (moment : ℤ)
    → ((k : ℕ) → k ≤ length piece → Follows 61 piece k → Faulty (Stands piece moment) (value_at piece k))
    → (i : ℕ) → i ≤ length piece → Behind piece i → Faulty (Stands piece moment) (keyed_at value_at piece i)
keyed_faulty value_at piece moment value_faulty i le follows =
    next_faulty (Stands piece moment) (key_at piece i) _ (key_faulty piece moment i le follows)
    (λ key e. let k = key_again piece i key.1 key.0 le e in
    next_faulty (Stands piece moment) (value_at piece key.1) _
    (value_faulty key.1 k.spans.within (follows_last piece i key.1 61 k.word k.spans))
    (λ value f. none_faulty (Stands piece moment) _))

tag_faulty : (piece : List ℕ) (moment : ℤ) (i : ℕ) → i ≤ length piece → Behind piece i
    → Faulty (Stands piece moment) (tag_at piece i)
unfolding tag_at
tag_faulty piece moment i le follows = keyed_faulty tag_value_at piece moment
    (λ k within follows. tag_value_faulty piece moment k follows) i le follows

field_faulty : (piece : List ℕ) (moment : ℤ) (i : ℕ) → i ≤ length piece → Behind piece i
    → Faulty (Stands piece moment) (field_at piece i)
unfolding field_at
field_faulty piece moment i le follows = keyed_faulty value_at piece moment (value_faulty piece moment) i le follows

many_faulty : {X : Type 0} (item_at : Reader X LineFault) (Is : Meaning X) (piece : List ℕ) (moment : ℤ)
    → ((i j : ℕ) (x : X) → i ≤ length piece → item_at piece i ≡ Ok (x, j) → PairRead Is piece i j x)
    → ((i : ℕ) → i ≤ length piece → Behind piece i → Faulty (Stands piece moment) (item_at piece i))
    → (n i : ℕ) → i ≤ length piece → Faulty (Stands piece moment) (many_at item_at 44 n piece i)
unfolding many_at
many_faulty item_at Is piece moment again one zero i le = none_faulty (Stands piece moment) ([], i)
many_faulty item_at Is piece moment again one (suc n) i le =
    test_faulty (Stands piece moment) (get_or piece i 0 == 44)
    (item_at piece (i + 1) >>= λ first. many_at item_at 44 n piece first.1 >>= λ others. Ok
    (first.0 ∷ others.0, others.1)) (Ok ([], i))
    (λ test.
    let comma : get_or piece i 0 ≡ 44 = eqb-true (get_or piece i 0) 44 test in
    let start = byte_spans piece i 44 (omega arith) comma in
    next_faulty (Stands piece moment) (item_at piece (i + 1)) _
    (one (i + 1) start.within (inl (follows_byte 44 piece i comma)))
    (λ first e. let f = again (i + 1) first.1 first.0 start.within e in
    next_faulty (Stands piece moment) (many_at item_at 44 n piece first.1) _
    (many_faulty item_at Is piece moment again one n first.1 f.spans.within)
    (λ others g. none_faulty (Stands piece moment) _)))
    (λ test. none_faulty (Stands piece moment) ([], i))

fields_faulty : (piece : List ℕ) (moment : ℤ) (i : ℕ) → i ≤ length piece → Follows 32 piece i
    → Faulty (Stands piece moment) (fields_at piece i)
unfolding fields_at
fields_faulty piece moment i le follows =
    next_faulty (Stands piece moment) (field_at piece i) _ (field_faulty piece moment i le (inr follows))
    (λ first e. let f = field_again piece i first.1 first.0 le e in
    next_faulty (Stands piece moment) (items_at field_at 44 piece first.1) _
    (many_faulty field_at IsField piece moment (field_again piece) (field_faulty piece moment)
    (length piece) first.1 f.spans.within) (λ others g. none_faulty (Stands piece moment) _))

-- spaces stand at an offset where a word ended with no comma, unless the piece ends
spaces_stand : (piece : List ℕ) (i : ℕ) → i ≤ length piece → Meets ends_word (drop i piece) → get_or piece i 0 ≢ 44
    → (behind_spaces piece i == length piece) ≡ false → Follows 32 piece (behind_spaces piece i)
spaces_stand piece i le ends no_comma some =
    let s = spaces_again piece i le in
    let lt : i < length piece = not_all piece i (behind_spaces piece i) s.spans.more s.spans.within
    (eqb-false (behind_spaces piece i) (length piece) some) in
    spaces_follow piece i (behind_spaces piece i) s (passes_one piece i (behind_spaces piece i)
    (space_there piece i lt ends no_comma) s)

spaced_fields_faulty : (piece : List ℕ) (moment : ℤ) (i : ℕ) → i ≤ length piece → Meets ends_word (drop i piece)
    → get_or piece i 0 ≢ 44 → ((n : ℕ) → drop i piece ≡ spaces n → IsHeadAlone piece)
    → Faulty (Stands piece moment) (spaced_fields_at piece i)
unfolding spaced_fields_at
spaced_fields_faulty piece moment i le ends no_comma alone =
    let s = spaces_again piece i le in
    test_faulty (Stands piece moment) (behind_spaces piece i == length piece) (fault kinds.NoFields (length piece))
    (fields_at piece (behind_spaces piece i))
    (λ all. one_faulty (Stands piece moment) (record { kind = kinds.NoFields; offset = length piece })
    (refl, alone s.count (at_end piece i (behind_spaces piece i) s.count s.spans all)))
    (λ some. fields_faulty piece moment (behind_spaces piece i) s.spans.within
    (spaces_stand piece i le ends no_comma some))

-- ---- the time

time_says : (text : List ℕ) (kind : LineKind) → time_of text ≡ Err kind → TimeSays (is_whole text) kind
time_says text kind e = by_number (is_whole text) (int_read_as text) (whole_numeric text) e
  where
    by_number : (t : Bool) (r : Result ℤ NumFault) → IsNumeric t r → number_or kinds.BadTime r ≡ Err kind
        → TimeSays t kind
    by_number t (Ok n) is e = absurd cc
    by_number t (Err numbers.NotANumber) is e = subst (TimeSays t) (same_err {A = ℤ} kinds.BadTime kind e) is
    by_number t (Err numbers.NumberRange) is e = subst (TimeSays t) (same_err {A = ℤ} kinds.NumberRange kind e) is

-- a time that was read is a whole number
time_whole : (text : List ℕ) (time : ℤ) (i : ℕ) → placed i (time_of text) ≡ Ok time → is_whole text ≡ true
time_whole text time i e = by_number (is_whole text) (int_read_as text) (whole_numeric text) e
  where
    by_number : (t : Bool) (r : Result ℤ NumFault) → IsNumeric t r → placed i (number_or kinds.BadTime r) ≡ Ok time
        → t ≡ true
    by_number t (Ok n) is e = is
    by_number t (Err numbers.NotANumber) is e = absurd cc
    by_number t (Err numbers.NumberRange) is e = is

time_stands : (piece : List ℕ) (moment : ℤ) (i : ℕ) (kind : LineKind) → Follows 32 piece i
    → TimeSays (is_whole (word_at is_space piece i)) kind → StandsAt piece moment i kind
time_stands piece moment i kinds.NumberRange follows h = inr (follows, h)
time_stands piece moment i kinds.BadTime follows h = (follows, inl h)
time_stands piece moment i _ follows h = absurd h

whole_some : (text : List ℕ) → is_whole text ≡ true → 0 < length text
whole_some [] e = absurd cc
whole_some (b ∷ text) e = omega arith

written_time_faulty : (piece : List ℕ) (moment : ℤ) (i : ℕ) → i ≤ length piece → Follows 32 piece i
    → Faulty (Stands piece moment) (written_time_at piece i)
unfolding written_time_at
written_time_faulty piece moment i le follows =
    let n : ℕ = time_len piece i in
    let short : time_len piece i ≤ length (drop i piece) = position_or_len_le is_space (drop i piece) in
    let within : i + time_len piece i ≤ length piece = omega (arith, short, length-drop i piece) in
    next_faulty (Stands piece moment) (placed i (time_of (take (time_len piece i) (drop i piece)))) _
    (placed_faulty (Stands piece moment) i (time_of (take (time_len piece i) (drop i piece)))
    (λ kind e. time_stands piece moment i kind follows (time_says (take (time_len piece i) (drop i piece)) kind e)))
    (λ time e. test_faulty (Stands piece moment) (behind_spaces piece (i + time_len piece i) == length piece) (Ok time)
    (fault kinds.BadTime (behind_spaces piece (i + time_len piece i)))
    (λ all. none_faulty (Stands piece moment) time)
    (λ more. one_faulty (Stands piece moment) (record {
      kind = kinds.BadTime;
      offset = behind_spaces piece (i + time_len piece i);
    }) (later within short time e more)))
  where
    later : i + time_len piece i ≤ length piece → time_len piece i ≤ length (drop i piece) → (time : ℤ)
        → placed i (time_of (take (time_len piece i) (drop i piece))) ≡ Ok time
        → (behind_spaces piece (i + time_len piece i) == length piece) ≡ false
        → StandsAt piece moment (behind_spaces piece (i + time_len piece i)) kinds.BadTime
    later within short time e more =
        let end : ℕ = i + time_len piece i in
        let s = spaces_again piece (i + time_len piece i) within in
        let lt : i + time_len piece i < length piece =
        not_all piece (i + time_len piece i) (behind_spaces piece (i + time_len piece i)) s.spans.more s.spans.within
        (eqb-false (behind_spaces piece (i + time_len piece i)) (length piece) more) in
        let whole = time_whole (take (time_len piece i) (drop i piece)) time i e in
        let some = whole_some (take (time_len piece i) (drop i piece)) whole in
        let size : length (take (time_len piece i) (drop i piece)) ≡ time_len piece i =
        length-take-le (time_len piece i) (drop i piece) short in
        let meets : Meets is_space (drop (i + time_len piece i) piece) =
        subst (Meets is_space) (drop-drop (time_len piece i) i piece) (word_split is_space (drop i piece)).1 in
        let space : get_or piece (i + time_len piece i) 0 ≡ 32 =
        eqb-true (get_or piece (i + time_len piece i) 0) 32 (meets_there is_space piece
        (i + time_len piece i) lt meets) in
        let reach = s.spans.more in (
          spaces_follow piece (i + time_len piece i) (behind_spaces piece (i + time_len piece i)) s
              (passes_one piece (i + time_len piece i) (behind_spaces piece (i + time_len piece i)) space s),
          inr (record { begins = i; before = omega arith; follows = follows; whole = whole }),
        )

time_faulty : (piece : List ℕ) (moment : ℤ) (i : ℕ) → i ≤ length piece → Meets ends_word (drop i piece)
    → get_or piece i 0 ≢ 44 → Faulty (Stands piece moment) (time_at piece i moment)
unfolding time_at
time_faulty piece moment i le ends no_comma =
    test_faulty (Stands piece moment) (behind_spaces piece i == length piece) (Ok moment)
    (written_time_at piece (behind_spaces piece i)) (λ all. none_faulty (Stands piece moment) moment)
    (λ some. written_time_faulty piece moment (behind_spaces piece i) (spaces_again piece i le).spans.within
    (spaces_stand piece i le ends no_comma some))

-- ---- the line

line_faulty : (piece : List ℕ) (moment : ℤ) (i before : ℕ) → i < length piece → piece ≡ spaces before ++ drop i piece
    → HasNone (λ b. not (b == 32)) (take i piece) → not (get_or piece i 0 == 32) ≡ true
    → Faulty (Stands piece moment) (line_at piece i moment)
unfolding line_at tags_at
line_faulty piece moment i before lt front none no_space =
    let le : i ≤ length piece = omega arith in
    next_faulty (Stands piece moment) (name_at piece i) _ (name_faulty piece moment i lt none no_space)
    (λ name e. let n = name_again piece i name.1 name.0 le e in
    let ends = ends_meet name_part n.written.marks (drop name.1 piece) n.written.part in
    next_faulty (Stands piece moment) (items_at tag_at 44 piece name.1) _
    (many_faulty tag_at IsTag piece moment (tag_again piece) (tag_faulty piece moment)
    (length piece) name.1 n.spans.within)
    (λ tags f. let t = many_again tag_at IsTag piece (tag_again piece) (length piece) name.1 tags.1 tags.0
    (omega arith) n.spans.within ends f in
    next_faulty (Stands piece moment) (spaced_fields_at piece tags.1) _
    (spaced_fields_faulty piece moment tags.1 t.spans.within t.ends t.no_comma (λ after is. record {
      before = before;
      name = n.word;
      pairs = t.pairs;
      after = after;
      named = name.0;
      tags = tags.0;
      is = front ∙ ap (λ (x : List ℕ). spaces before ++ x) (n.spans.is
          ∙ ap (λ (x : List ℕ). n.word ++ x) (t.spans.is ∙ ap (λ (x : List ℕ). pairs_text t.pairs ++ x) is));
      is_name = subst (λ (r : List ℕ). IsWritten name_part n.word r name.0)
          (t.spans.is ∙ ap (λ (x : List ℕ). pairs_text t.pairs ++ x) is) n.written;
      are_tags = subst (λ (r : List ℕ). AllAre IsTag t.pairs r tags.0) is t.are;
    }))
    (λ fields g. let s = (spaced_fields_again piece tags.1 fields.1 fields.0 t.spans.within t.ends t.no_comma
    g).fields_read in
    next_faulty (Stands piece moment) (time_at piece fields.1 moment) _
    (time_faulty piece moment fields.1 s.spans.within s.ends s.no_comma)
    (λ time h. none_faulty (Stands piece moment) _))))

metric_faulty : (piece : List ℕ) (moment : ℤ) (i before : ℕ) → i < length piece → piece ≡ spaces before ++ drop i piece
    → HasNone (λ b. not (b == 32)) (take i piece) → not (get_or piece i 0 == 32) ≡ true
    → (get_or piece i 0 == 35) ≡ false → Faulty (Stands piece moment) (metric_at piece i moment)
unfolding metric_at
metric_faulty piece moment i before lt front none no_space no_comment =
    next_faulty (Stands piece moment) (line_at piece i moment) limited
    (line_faulty piece moment i before lt front none no_space)
    (λ line e. let l = line_again piece i before line moment (omega arith) no_comment e in
    test_faulty (Stands piece moment) (has_too_many line.tags line.fields) (fault kinds.TooMany 0)
    (Ok (Some (content_of line)))
    (λ many. one_faulty (Stands piece moment) (record { kind = kinds.TooMany; offset = 0 }) (record {
      written = l.written;
      line = line;
      is = front ∙ ap (λ (t : List ℕ). spaces before ++ t) l.text
          ∙ ap (λ (n : ℕ). spaces n ++ (l.written.name ++ behind_name l.written)) (sym l.same);
      is_line = l.is;
      many = many;
    }))
    (λ few. none_faulty (Stands piece moment) (Some (content_of line))))

line_text_faulty : (piece : List ℕ) (moment : ℤ) → Faulty (Stands piece moment) (text_reading piece moment)
unfolding text_reading
line_text_faulty piece moment =
    test_faulty (Stands piece moment) (is_blank_or_comment piece) (Ok None)
    (metric_at piece (behind_spaces piece 0) moment) (λ e. none_faulty (Stands piece moment) None) (λ e. line e)
  where
    not_end : behind_spaces piece 0 ≤ length piece → behind_spaces piece 0 ≢ length piece
        → behind_spaces piece 0 < length piece
    not_end le ne = omega arith

    line : is_blank_or_comment piece ≡ false → Faulty (Stands piece moment)
        (metric_at piece (behind_spaces piece 0) moment)
    line e =
        let both = or_parts (behind_spaces piece 0 == length piece) (get_or piece (behind_spaces piece 0) 0 == 35) e in
        let s = spaces_again piece 0 (omega arith) in
        let lt : behind_spaces piece 0 < length piece = not_end s.spans.within
        (eqb-false (behind_spaces piece 0) (length piece) both.0) in
        let offset : position_or_len (λ b. not (b == 32)) piece ≡ behind_spaces piece 0 = omega arith in
        let front : HasNone (λ b. not (b == 32)) (take (behind_spaces piece 0) piece) =
        subst (λ (n : ℕ). HasNone (λ b. not (b == 32)) (take n piece)) offset
        (before_none (λ b. not (b == 32)) piece) in
        metric_faulty piece moment (behind_spaces piece 0) s.count lt s.spans.is front
        (meets_there (λ b. not (b == 32)) piece (behind_spaces piece 0) lt s.ends) both.1

pub fault_says : FaultSays
unfolding reading
fault_says piece moment f e =
    (test_faulty (Says piece moment) (is_utf8 piece) (text_reading piece moment)
    (fault kinds.NotUtf8 (utf8_valid_len piece))
    (λ u. record {
      at = λ g is. record {
        utf8 = inr (IsUtf8-from_is_utf8 piece u);
        stands = (line_text_faulty piece moment).at g is;
      };
    })
    (λ no. one_faulty (Says piece moment) (record { kind = kinds.NotUtf8; offset = utf8_valid_len piece })
    (record { utf8 = inl refl; stands = valid_up_to piece no }))).at f e
