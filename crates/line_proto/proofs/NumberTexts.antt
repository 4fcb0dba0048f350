-- The texts of values and times, read again.
use Rattle.std.proofs.Common.{◌≡◌, ◌<◌, ◌-◌, ◌^◌, ℕ, ℤ, Bool, true, false, cond, List, [], ◌∷◌, ◌++◌, length, get_or}
use Rattle.std.proofs.Common.{take, None, Ok, refl, ap, ◌∙◌, arith, length-append}
use Rattle.std.specs.Prelude.{◌==◌, codes, FitsSigned}
use Rattle.std.specs.Int.{w64}
use Rattle.std.specs.Fmt.{decimal, signed_decimal}
use Rattle.std.proofs.Math.Seq.{get_or-append_seam}
use Rattle.std.proofs.lemmas.Bool.{ne_eqb}
use Rattle.std.proofs.lemmas.List.{take_at}
use Rattle.std.proofs.lemmas.Str.{IsUtf8-from_ascii}
use Rattle.fixed_num.specs.Canonical.{canonical_text}
use Rattle.fixed_num.specs.Fixed.{read_as}
use Rattle.fixed_num.specs.Range.{InRange}
use Rattle.fixed_num.specs.Whole.{int_read_as, uint_read_as}
use Rattle.fixed_num.proofs.Again.{reads_canonical}
use Rattle.fixed_num.proofs.NumberBytes.{IsNumberByte, ascii_of}
use Rattle.fixed_num.proofs.NumberTexts.{IsNumberText, decimal_number, signed_number, canonical_number, magnitude_below}
use Rattle.fixed_num.proofs.NumberTexts.{int_read, uint_read}
use Rattle.metric.specs.declared.value.Value.{Value}
use Rattle.metric.specs.declared.value.Value.TheVariants.{Int, Uint, Fixed, «Bool» as Truth, Text}
use Rattle.text_parts.specs.Grammar.{HasNone}
use Rattle.text_parts.proofs.Lacking.{none_append, number_none}
use Rattle.line_proto.specs.Grammar.{ends_word, is_space}
use Rattle.line_proto.specs.LineText.{value_text}
use Rattle.metric.specs.Metric.{IsValue}
use Rattle.line_proto.proofs.PlainBytes.{IsNoText}
use Rattle.line_proto.specs.Values.{value_of, number_of, time_of, typed, truth_of, begins_truth, last_byte}
use Rattle.line_proto.specs.Values.{before_last_byte}
use Rattle.line_proto.proofs.PlainBytes.{none_at, is_unclean, Clean, clean-append, clean_word}
use Rattle.line_proto.proofs.Words.{no_truth}

-- ---- the bytes of numbers

no_space : (b : ℕ) → IsNumberByte b → is_space b ≡ false
no_space b is = ne_eqb b 32 (λ e. absurd (omega (arith, is)))

no_end : (b : ℕ) → IsNumberByte b → ends_word b ≡ false
no_end b is = rw (ne_eqb b 44 (λ e. absurd (omega (arith, is))), ne_eqb b 32 (λ e. absurd (omega (arith, is)))) refl

no_unclean : (b : ℕ) → IsNumberByte b → is_unclean b ≡ false
no_unclean b is = rw (
  ne_eqb b 10 (λ e. absurd (omega (arith, is))),
  ne_eqb b 13 (λ e. absurd (omega (arith, is))),
  ne_eqb b 92 (λ e. absurd (omega (arith, is))),
  ne_eqb b 34 (λ e. absurd (omega (arith, is))),
) refl

no_letter : (b : ℕ) → IsNumberByte b → begins_truth b ≡ false
no_letter b is = rw (
  ne_eqb b 116 (λ e. absurd (omega (arith, is))),
  ne_eqb b 84 (λ e. absurd (omega (arith, is))),
  ne_eqb b 102 (λ e. absurd (omega (arith, is))),
  ne_eqb b 70 (λ e. absurd (omega (arith, is))),
) refl

no_int : (b : ℕ) → IsNumberByte b → (b == 105) ≡ false
no_int b is = ne_eqb b 105 (λ e. absurd (omega (arith, is)))

no_uint : (b : ℕ) → IsNumberByte b → (b == 117) ≡ false
no_uint b is = ne_eqb b 117 (λ e. absurd (omega (arith, is)))

clean_number : (text : List ℕ) → IsNumberText text → Clean text
clean_number text is = record {
  utf8 = IsUtf8-from_ascii text (ascii_of text is.bytes);
  none = number_none is_unclean no_unclean text is.bytes;
}

-- ---- the values that texts are

int_value : (text front : List ℕ) → truth_of text ≡ None → last_byte text ≡ 105 → before_last_byte text ≡ front
    → value_of text ≡ typed Int (int_read_as front)
unfolding value_of number_of
int_value text front truth last before = rw (truth, last, before) refl

uint_value : (text front : List ℕ) → truth_of text ≡ None → last_byte text ≡ 117 → before_last_byte text ≡ front
    → value_of text ≡ typed Uint (uint_read_as front)
unfolding value_of number_of
uint_value text front truth last before = rw (truth, last, before) refl

fixed_value : (text : List ℕ) → truth_of text ≡ None → (last_byte text == 105) ≡ false → (last_byte text == 117) ≡ false
    → value_of text ≡ typed Fixed (read_as text)
unfolding value_of number_of
fixed_value text truth no_int no_uint = rw (truth, no_int, no_uint) refl

front_len : (front : List ℕ) (b : ℕ) → length (front ++ b ∷ []) - 1 ≡ length front
front_len front b = omega (arith, length-append front (b ∷ []))

last_is : (front : List ℕ) (b : ℕ) → last_byte (front ++ b ∷ []) ≡ b
last_is front b = ap (λ (k : ℕ). get_or (front ++ b ∷ []) k 0) (front_len front b) ∙ get_or-append_seam front b [] 0

before_is : (front : List ℕ) (b : ℕ) → before_last_byte (front ++ b ∷ []) ≡ front
before_is front b = ap (λ (k : ℕ). take k (front ++ b ∷ [])) (front_len front b)
    ∙ take_at front (b ∷ []) (length front) refl

number_no_truth : (front back : List ℕ) → IsNumberText front → HasNone begins_truth back
    → truth_of (front ++ back) ≡ None
number_no_truth front back h none = no_truth (front ++ back)
    (none_at begins_truth (front ++ back) 0 refl (none_append begins_truth front back
    (number_none begins_truth no_letter front h.bytes) none))

-- a text that is read as a value, and ends no word
pub record IsValueText (text : List ℕ) (value : Value) : Type 0 where
  pub none : HasNone ends_word text
  pub clean : Clean text
  pub is : value_of text ≡ Ok value

int_text : (n : ℤ) → FitsSigned w64 n → IsValueText (signed_decimal n ++ 105 ∷ []) (Int n)
int_text n h =
    let number = signed_number n (magnitude_below n h) in
    record {
      none = none_append ends_word (signed_decimal n) (105 ∷ [])
          (number_none ends_word no_end (signed_decimal n) number.bytes) (refl, tt);
      clean = clean-append (signed_decimal n) (105 ∷ []) (clean_number (signed_decimal n) number)
          (clean_word (105 ∷ []) refl refl);
      is = int_value (signed_decimal n ++ 105 ∷ []) (signed_decimal n)
          (number_no_truth (signed_decimal n) (105 ∷ []) number (refl, tt)) (last_is (signed_decimal n) 105)
          (before_is (signed_decimal n) 105) ∙ ap (typed Int) (int_read n h);
    }

uint_text : (n : ℕ) → n < 2 ^ 64 → IsValueText (decimal n ++ 117 ∷ []) (Uint n)
uint_text n h =
    let number = decimal_number n h in
    record {
      none = none_append ends_word (decimal n) (117 ∷ []) (number_none ends_word no_end (decimal n) number.bytes)
          (refl, tt);
      clean = clean-append (decimal n) (117 ∷ []) (clean_number (decimal n) number) (clean_word (117 ∷ []) refl refl);
      is = uint_value (decimal n ++ 117 ∷ []) (decimal n) (number_no_truth (decimal n) (117 ∷ []) number (refl, tt))
          (last_is (decimal n) 117) (before_is (decimal n) 117) ∙ ap (typed Uint) (uint_read n h);
    }

fixed_text : (n : ℤ) → InRange n → IsValueText (canonical_text n) (Fixed n)
fixed_text n h =
    let number = canonical_number n h in
    record {
      none = number_none ends_word no_end (canonical_text n) number.bytes;
      clean = clean_number (canonical_text n) number;
      is = fixed_value (canonical_text n) (no_truth (canonical_text n)
          (none_at begins_truth (canonical_text n) 0 refl (number_none begins_truth no_letter
          (canonical_text n) number.bytes)))
          (none_at (λ b. b == 105) (canonical_text n) (length (canonical_text n) - 1) refl
          (number_none (λ b. b == 105) no_int (canonical_text n) number.bytes))
          (none_at (λ b. b == 117) (canonical_text n) (length (canonical_text n) - 1) refl
          (number_none (λ b. b == 117) no_uint (canonical_text n) number.bytes))
          ∙ ap (typed Fixed) (reads_canonical n h);
    }

truth_text : (b : Bool) → IsValueText (cond b (codes "true") (codes "false")) (Truth b)
unfolding value_of truth_of number_of
truth_text true = record {
  none = (refl, (refl, (refl, (refl, tt))));
  clean = clean_word (codes "true") refl refl;
  is = refl;
}
truth_text false = record {
  none = (refl, (refl, (refl, (refl, (refl, tt)))));
  clean = clean_word (codes "false") refl refl;
  is = refl;
}

pub plain_value : (value : Value) → IsValue value → IsNoText value → IsValueText (value_text value) value
unfolding value_text
plain_value (Int n) typed h = int_text n typed
plain_value (Uint n) typed h = uint_text n typed
plain_value (Fixed n) typed h = fixed_text n typed
plain_value (Truth b) typed h = truth_text b
plain_value (Text text) typed h = absurd h

-- ---- times

-- a text that is read as a time, and has no space
pub record IsTimeText (text : List ℕ) (time : ℤ) : Type 0 where
  pub none : HasNone is_space text
  pub clean : Clean text
  pub is : time_of text ≡ Ok time

pub plain_time : (time : ℤ) → FitsSigned w64 time → IsTimeText (signed_decimal time) time
plain_time time h =
    let number = signed_number time (magnitude_below time h) in
    record {
      none = number_none is_space no_space (signed_decimal time) number.bytes;
      clean = clean_number (signed_decimal time) number;
      is = rw (int_read time h) refl;
    }
