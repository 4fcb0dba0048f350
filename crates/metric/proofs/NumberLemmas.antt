-- The texts of values that are numbers.
use Rattle.std.proofs.Common.{◌≡◌, true, false, Ok, refl, sym, ap, subst, ◌∙◌, arith}
use Rattle.std.specs.Prelude.{codes}
use Rattle.std.specs.Fmt.{decimal, digits}
use Rattle.fixed_num.specs.Fixed.{read_as}
use Rattle.fixed_num.proofs.Again.{reads_canonical}
use Rattle.fixed_num.proofs.NumberTexts.{IsNumberText, magnitude_below, decimal_number, signed_number, canonical_number}
use Rattle.fixed_num.proofs.NumberTexts.{decimal_read, signed_read}
use Rattle.metric.specs.declared.value.Value.{Value}
use Rattle.metric.specs.declared.value.Value.TheVariants.{Int, Uint, Fixed, «Bool» as Truth, Text}
use Rattle.metric.specs.Metric.{IsValue}
use Rattle.metric.specs.Numbers.{is_text, number_text, billionths_of}

one_text : decimal 1 ≡ codes "1"
unfolding digits
one_text = refl

no_text : decimal 0 ≡ codes "0"
unfolding digits
no_text = refl

pub value_number : (v : Value) → IsValue v → is_text v ≡ false → IsNumberText (number_text v)
unfolding number_text
value_number (Int n) h e = signed_number n (magnitude_below n h)
value_number (Uint n) h e = decimal_number n h
value_number (Fixed n) h e = canonical_number n h
value_number (Truth true) h e = subst IsNumberText one_text (decimal_number 1 (omega arith))
value_number (Truth false) h e = subst IsNumberText no_text (decimal_number 0 (omega arith))
value_number (Text text) h e = absurd cc

pub value_read : (v : Value) → IsValue v → is_text v ≡ false → read_as (number_text v) ≡ Ok (billionths_of v)
unfolding number_text
value_read (Int n) h e = signed_read n (magnitude_below n h)
value_read (Uint n) h e = decimal_read n h
value_read (Fixed n) h e = reads_canonical n h
value_read (Truth true) h e = ap read_as (sym one_text) ∙ decimal_read 1 (omega arith)
value_read (Truth false) h e = ap read_as (sym no_text) ∙ decimal_read 0 (omega arith)
value_read (Text text) h e = absurd cc
