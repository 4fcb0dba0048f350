-- What converting makes of a metric.
use Rattle.std.specs.Ordering.{int_eq}
use Rattle.std.specs.Prelude.{◌==◌, ◌^◌, neg_ℤ, negsuc, ◌&&◌, ℕ, ℤ, pos, Bool, true, false, not, nat_lt, List, [], ◌∷◌}
use Rattle.std.specs.Prelude.{length, codes, chars, find}
use Rattle.std.specs.Prelude.{Option, Some, None, option_map, option_and_then, int_div, int_lt, int_le, if◌then◌else◌}
use Rattle.std.specs.List.{fold, list_any}
use Rattle.std.specs.Result.{result_ok}
use Rattle.std.specs.Str.{bytes_eq}
use Rattle.fixed_num.specs.Fixed.{read_as}
use Rattle.metric.specs.Changing.{loses_field, without_key}
use Rattle.metric.specs.Glob.{matches}
use Rattle.metric.specs.Numbers.{billionths_of, number_text}
use Rattle.metric.specs.Pairs.{with_pair, with_sorted}
use Rattle.metric.specs.declared.glob.Element.{Element}
use Rattle.metric.specs.declared.metric.Content.{Content}
use Rattle.metric.specs.declared.value.Value.{Value}
use Rattle.metric.specs.declared.value.Value.TheVariants.{Int, Uint, Fixed, «Bool» as Truth, Text}
use Rattle.proc_edit.specs.declared.convert.ConvertRules.{ConvertRules}
use Rattle.proc_edit.specs.declared.target.Target.{Target}
use Rattle.proc_edit.specs.declared.target.Target.TheVariants.{Tag, Text as ToText, Int as ToInt, Uint as ToUint}
use Rattle.proc_edit.specs.declared.target.Target.TheVariants.{«Bool» as ToBool, Fixed as ToFixed}

-- ---- which target counts

-- the rank of a target in the order
abbrev pub rank_of : Target → ℕ
rank_of Tag = 0
rank_of ToText = 1
rank_of ToInt = 2
rank_of ToUint = 3
rank_of ToBool = 4
rank_of ToFixed = 5

-- the targets in their order
abbrev pub all_targets : List Target
all_targets = Tag ∷ ToText ∷ ToInt ∷ ToUint ∷ ToBool ∷ ToFixed ∷ []

-- does a rule ask for the target, by a glob that matches the key
abbrev pub is_asked : List (Target × List Element) → List ℕ → Target → Bool
is_asked rules key target = list_any (λ rule. rank_of rule.0 == rank_of target && matches rule.1 (chars key)) rules

-- the first target in the order for which a rule asks
abbrev pub target_of : List (Target × List Element) → List ℕ → Option Target
target_of rules key = find (is_asked rules key) all_targets

-- ---- what a value is as another one

-- a number of billionths without what is behind its point
abbrev pub cut : ℤ → ℤ
cut billionths = int_div billionths (pos 1000000000)

-- the billionths that a text spells
abbrev pub read_of : List ℕ → Option ℤ
read_of text = result_ok (read_as text)

-- a value as a whole number: a truth value is 1 or 0
unfoldable pub whole_of : Value → Option ℤ
whole_of (Int n) = Some n
whole_of (Uint n) = Some (pos n)
whole_of (Fixed n) = Some (cut n)
whole_of (Truth b) = Some (pos (if b then 1 else 0))
whole_of (Text text) = option_map cut (read_of text)

-- a whole number in the range of signed ones
abbrev pub fitting_int : ℤ → Option ℤ
fitting_int n = if int_le (neg_ℤ (pos (2 ^ 63))) n && int_lt n (pos (2 ^ 63)) then Some n else None

-- a whole number in the range of unsigned ones
abbrev pub fitting_uint : ℤ → Option ℕ
fitting_uint (pos n) = if nat_lt n (2 ^ 64) then Some n else None
fitting_uint (negsuc n) = None

-- a value as a signed whole number
abbrev pub int_of : Value → Option ℤ
int_of value = option_and_then fitting_int (whole_of value)

-- a value as an unsigned whole number
abbrev pub uint_of : Value → Option ℕ
uint_of value = option_and_then fitting_uint (whole_of value)

-- a value as billionths: numbers and truth values have them, a text may spell them
abbrev pub fixed_of : Value → Option ℤ
fixed_of (Text text) = read_of text
fixed_of value = Some (billionths_of value)

-- the texts that stand for true
abbrev pub true_words : List (List ℕ)
true_words = codes "1" ∷ codes "t" ∷ codes "T" ∷ codes "true" ∷ codes "TRUE" ∷ codes "True" ∷ []

-- the texts that stand for false
abbrev pub false_words : List (List ℕ)
false_words = codes "0" ∷ codes "f" ∷ codes "F" ∷ codes "false" ∷ codes "FALSE" ∷ codes "False" ∷ []

-- is the text one of a list
abbrev pub is_one_of : List (List ℕ) → List ℕ → Bool
is_one_of words text = list_any (bytes_eq text) words

-- the truth value for which a text stands
unfoldable pub truth_of_text : List ℕ → Option Bool
truth_of_text text =
    if is_one_of true_words text then Some true else if is_one_of false_words text then Some false else None

-- a value as a truth value: of a number, whether it isn't 0
abbrev pub truth_of : Value → Option Bool
truth_of (Text text) = truth_of_text text
truth_of (Truth b) = Some b
truth_of (Int n) = Some (not (int_eq n (pos 0)))
truth_of (Uint n) = Some (not (n == 0))
truth_of (Fixed n) = Some (not (int_eq n (pos 0)))

-- a value as a text
abbrev pub text_of : Value → List ℕ
text_of (Text text) = text
text_of (Truth b) = if b then codes "true" else codes "false"
text_of value = number_text value

-- a value as one of another type; None where it doesn't convert, and a tag is no value
abbrev pub converted : Target → Value → Option Value
converted Tag value = None
converted ToText value = Some (Text (text_of value))
converted ToInt value = option_map Int (int_of value)
converted ToUint value = option_map Uint (uint_of value)
converted ToBool value = option_map Truth (truth_of value)
converted ToFixed value = option_map Fixed (fixed_of value)

-- ---- what becomes of a metric

-- with the value of a field, where there is one
abbrev pub with_value : Content → List ℕ → Option Value → Content
with_value m key None = m
with_value m key (Some value) = record m { fields = with_pair m.fields key value }

-- with a field as a tag of its text, unless the text is empty or the field is the only one
abbrev pub as_tag : Content → List ℕ → List ℕ → Content
as_tag m key text =
    if length text == 0 then m
    else if loses_field m.fields key then record m {
      tags = with_sorted m.tags key text;
      fields = without_key m.fields key;
    }
    else m

-- with a tag as a field of its value, where there is one
abbrev pub as_field : Content → List ℕ → Option Value → Content
as_field m key None = m
as_field m key (Some value) = record m { tags = without_key m.tags key; fields = with_pair m.fields key value }

-- a field as what is asked for
abbrev pub field_as : Content → List ℕ → Value → Option Target → Content
field_as m key value None = m
field_as m key value (Some Tag) = as_tag m key (text_of value)
field_as m key value (Some target) = with_value m key (converted target value)

-- a tag as what is asked for
abbrev pub tag_as : Content → List ℕ → List ℕ → Option Target → Content
tag_as m key text None = m
tag_as m key text (Some target) = as_field m key (converted target (Text text))

-- with a field converted to the target that counts for its key
abbrev pub with_field_converted : List (Target × List Element) → Content → List ℕ × Value → Content
with_field_converted rules m field = field_as m field.0 field.1 (target_of rules field.0)

-- with a tag converted to the target that counts for its key
abbrev pub with_tag_converted : List (Target × List Element) → Content → List ℕ × List ℕ → Content
with_tag_converted rules m tag = tag_as m tag.0 tag.1 (target_of rules tag.0)

-- with fields converted, one after the other
abbrev pub fields_converted : List (Target × List Element) → Content → List (List ℕ × Value) → Content
fields_converted rules m fields = fold (with_field_converted rules) m fields

-- with tags converted, one after the other
abbrev pub tags_converted : List (Target × List Element) → Content → List (List ℕ × List ℕ) → Content
tags_converted rules m tags = fold (with_tag_converted rules) m tags

-- with the tags converted that are there
abbrev pub with_tags_behind : List (Target × List Element) → Content → Content
with_tags_behind rules m = tags_converted rules m m.tags

-- with the fields converted first, and then the tags that are there by then
abbrev pub whole_converted : ConvertRules → Content → Content
whole_converted rules m = with_tags_behind rules.tags (fields_converted rules.fields m m.fields)
