-- Values that are no text, and times: what a text spells.
use Rattle.std.specs.Prelude.{ℕ, ℤ, ◌-◌, ◌==◌, ◌||◌, Bool, true, false, List, [], ◌∷◌, length, take, Option}
use Rattle.std.specs.Prelude.{Some, None, Result, Ok, Err, codes, slice_index, if◌then◌else◌}
use Rattle.std.specs.List.{list_any}
use Rattle.std.specs.Str.{bytes_eq}
use Rattle.fixed_num.specs.declared.fixed.NumFault.{NumFault}
use Rattle.fixed_num.specs.declared.fixed.NumFault.TheVariants as numbers
use Rattle.fixed_num.specs.Fixed.{read_as}
use Rattle.fixed_num.specs.Whole.{int_read_as, uint_read_as}
use Rattle.metric.specs.declared.value.Value.{Value}
use Rattle.metric.specs.declared.value.Value.TheVariants as values
use Rattle.line_proto.specs.declared.fault.LineKind.{LineKind}
use Rattle.line_proto.specs.declared.fault.LineKind.TheVariants.{BadValue, BadTime, NumberRange}

-- the words for true and for false
abbrev pub true_words : List (List ℕ)
true_words = codes "t" ∷ codes "T" ∷ codes "true" ∷ codes "True" ∷ codes "TRUE" ∷ []

abbrev pub false_words : List (List ℕ)
false_words = codes "f" ∷ codes "F" ∷ codes "false" ∷ codes "False" ∷ codes "FALSE" ∷ []

-- the text is one of the words
abbrev pub is_one_of : List (List ℕ) → List ℕ → Bool
is_one_of words text = list_any (λ (word : List ℕ). bytes_eq text word) words

-- the truth value that a text names
unfoldable pub truth_of : List ℕ → Option Bool
truth_of text =
    if is_one_of true_words text then Some true else (if is_one_of false_words text then Some false else None)

-- the words begin with a `t` or an `f`, small or capital
abbrev pub begins_truth : ℕ → Bool
begins_truth b = b == 116 || b == 84 || b == 102 || b == 70

-- a number is read, or is no number, which is a fault of the given kind, or is out of range
abbrev pub number_or : {A : Type 0} → LineKind → Result A NumFault → Result A LineKind
number_or bad (Ok number) = Ok number
number_or bad (Err numbers.NotANumber) = Err bad
number_or bad (Err numbers.NumberRange) = Err NumberRange

-- a value of its type
abbrev pub typed : {A : Type 0} → (A → Value) → Result A NumFault → Result Value LineKind
typed value (Ok number) = Ok (value number)
typed value (Err numbers.NotANumber) = Err BadValue
typed value (Err numbers.NumberRange) = Err NumberRange

-- the last byte of a text, and what stands before it
abbrev pub last_byte : List ℕ → ℕ
last_byte text = slice_index text (length text - 1)

abbrev pub before_last_byte : List ℕ → List ℕ
before_last_byte text = take (length text - 1) text

-- the number that a text is: a last `i` makes it an Int, a last `u` a Uint, else it is a Fixed
unfoldable pub number_of : List ℕ → Result Value LineKind
number_of text =
    if last_byte text == 105 then typed values.Int (int_read_as (before_last_byte text))
    else if last_byte text == 117 then typed values.Uint (uint_read_as (before_last_byte text))
    else typed values.Fixed (read_as text)

-- the value that a text is
abbrev pub value_from : Option Bool → Result Value LineKind → Result Value LineKind
value_from (Some truth) number = Ok (values.Bool truth)
value_from None number = number

unfoldable pub value_of : List ℕ → Result Value LineKind
value_of text = value_from (truth_of text) (number_of text)

-- the time that a text is
abbrev pub time_of : List ℕ → Result ℤ LineKind
time_of text = number_or BadTime (int_read_as text)
