-- No text of a metric brings an end of a line into its line.
use Rattle.std.proofs.Common.{◌≡◌, ◌-◌, ℕ, zero, suc, Bool, true, false, cond, List, [], ◌∷◌, ◌++◌, length, take, refl}
use Rattle.std.proofs.Common.{arith}
use Rattle.std.specs.Prelude.{◌||◌, ◌==◌, codes}
use Rattle.std.specs.Fmt.{decimal, signed_decimal}
use Rattle.std.specs.List.{AllByRecursion, list_any, flat_map, join_by, suffix_len}
use Rattle.fixed_num.specs.Canonical.{canonical_text}
use Rattle.std.proofs.lemmas.Bool.{ne_eqb}
use Rattle.fixed_num.proofs.NumberBytes.{IsNumberByte}
use Rattle.fixed_num.proofs.NumberTexts.{decimal_number, signed_number, canonical_number, magnitude_below}
use Rattle.metric.specs.declared.value.Value.{Value}
use Rattle.metric.specs.declared.value.Value.TheVariants.{Int, Uint, Fixed, «Bool» as Truth, Text}
use Rattle.metric.specs.declared.metric.Content.{Content}
use Rattle.text_parts.specs.Grammar.{HasNone}
use Rattle.text_parts.proofs.Lacking.{none_append, number_none}
use Rattle.metric.specs.Draft.{Tag, Field}
use Rattle.line_proto.specs.LineText.{spaced, on_one_line, trimmed, or_underscore, without_hash, name_text, key_text}
use Rattle.line_proto.specs.LineText.{value_text, tag_text, field_text, head_text, line_text, as_written, text_escapes}
use Rattle.text_parts.specs.Escaped.{escaped_byte, escaped}
use Rattle.line_proto.specs.OneLine.{ends_line}
use Rattle.metric.specs.Metric.{IsMetric, IsValue, IsField}

-- ---- texts

spaced_none : (b : ℕ) → ends_line (spaced b) ≡ false
spaced_none b = elim (b == 10 || b == 13) as (λ t. (b == 10 || b == 13) ≡ t → ends_line (cond t 32 b) ≡ false)
    [ true ↦ λ e. refl | false ↦ λ e. e ] refl

one_line : (text : List ℕ) → HasNone ends_line (on_one_line text)
one_line [] = tt
one_line (b ∷ bs) = (spaced_none b, one_line bs)

none_take : (n : ℕ) (text : List ℕ) → HasNone ends_line text → HasNone ends_line (take n text)
none_take zero text h = tt
none_take (suc n) [] h = tt
none_take (suc n) (b ∷ bs) h = (h.0, none_take n bs h.1)

none_kept : (text : List ℕ) → HasNone ends_line (or_underscore (trimmed (on_one_line text)))
none_kept text = filled (trimmed (on_one_line text)) (none_take
    (length (on_one_line text) - suffix_len (λ b. b == 92) (on_one_line text)) (on_one_line text) (one_line text))
  where
    filled : (kept : List ℕ) → HasNone ends_line kept → HasNone ends_line (or_underscore kept)
    filled [] h = (refl, tt)
    filled (b ∷ bs) h = h

none_hash : (text : List ℕ) → HasNone ends_line text → HasNone ends_line (without_hash text)
none_hash [] h = tt
none_hash (b ∷ bs) h = (elim (b == 35) as (λ t. ends_line (cond t 95 b) ≡ false) [ true ↦ refl | false ↦ h.0 ], h.1)

none_escaped : (marks text : List ℕ) → HasNone ends_line text → HasNone ends_line (escaped (as_written marks) text)
unfolding escaped
none_escaped marks [] h = tt
none_escaped marks (b ∷ bs) h = none_append ends_line (escaped_byte (as_written marks) b)
    (escaped (as_written marks) bs) byte (none_escaped marks bs h.1)
  where
    byte : HasNone ends_line (escaped_byte (as_written marks) b)
    byte = elim (list_any (λ mark. mark == b) marks) as (λ t. HasNone ends_line (cond t (92 ∷ b ∷ []) (b ∷ [])))
        [ true ↦ (refl, (h.0, tt)) | false ↦ (h.0, tt) ]

none_name : (name : List ℕ) → HasNone ends_line (name_text name)
unfolding name_text
none_name name = none_escaped (codes ", ") (without_hash (or_underscore (trimmed (on_one_line name))))
    (none_hash (or_underscore (trimmed (on_one_line name))) (none_kept name))

none_key : (key : List ℕ) → HasNone ends_line (key_text key)
unfolding key_text
none_key key = none_escaped (codes ",= ") (or_underscore (trimmed (on_one_line key))) (none_kept key)

-- ---- values

no_line : (b : ℕ) → IsNumberByte b → ends_line b ≡ false
no_line b is = rw (ne_eqb b 10 (λ e. absurd (omega (arith, is.0))), ne_eqb b 13 (λ e. absurd (omega (arith, is.0))))
    refl

none_quoted : (text : List ℕ) → HasNone ends_line (codes "\"" ++ escaped text_escapes (on_one_line text) ++ codes "\"")
none_quoted text = none_append ends_line (34 ∷ escaped text_escapes (on_one_line text)) (34 ∷ [])
    (refl, none_escaped (codes "\"\\") (on_one_line text) (one_line text)) (refl, tt)

none_truth : (b : Bool) → HasNone ends_line (cond b (codes "true") (codes "false"))
none_truth true = (refl, (refl, (refl, (refl, tt))))
none_truth false = (refl, (refl, (refl, (refl, (refl, tt)))))

none_value : (value : Value) → IsValue value → HasNone ends_line (value_text value)
unfolding value_text
none_value (Int n) h = none_append ends_line (signed_decimal n) (105 ∷ [])
    (number_none ends_line no_line (signed_decimal n) (signed_number n (magnitude_below n h)).bytes) (refl, tt)
none_value (Uint n) h = none_append ends_line (decimal n) (117 ∷ [])
    (number_none ends_line no_line (decimal n) (decimal_number n h).bytes) (refl, tt)
none_value (Fixed n) h = number_none ends_line no_line (canonical_text n) (canonical_number n h).bytes
none_value (Truth b) h = none_truth b
none_value (Text text) h = none_quoted text

-- ---- the line

none_tag : (tag : Tag) → HasNone ends_line (tag_text tag)
unfolding tag_text
none_tag tag = none_append ends_line (44 ∷ (key_text tag.0 ++ 61 ∷ [])) (key_text tag.1)
    (refl, none_append ends_line (key_text tag.0) (61 ∷ []) (none_key tag.0) (refl, tt)) (none_key tag.1)

none_tags : (tags : List Tag) → HasNone ends_line (flat_map tag_text tags)
none_tags [] = tt
none_tags (tag ∷ tags) = none_append ends_line (tag_text tag) (flat_map tag_text tags) (none_tag tag) (none_tags tags)

none_field : (field : Field) → IsValue field.1 → HasNone ends_line (field_text field)
unfolding field_text
none_field field h = none_append ends_line (key_text field.0 ++ 61 ∷ []) (value_text field.1)
    (none_append ends_line (key_text field.0) (61 ∷ []) (none_key field.0) (refl, tt)) (none_value field.1 h)

none_others : (fields : List Field) → AllByRecursion IsField fields
    → HasNone ends_line (flat_map (λ (field : Field). codes "," ++ field_text field) fields)
none_others [] h = tt
none_others (field ∷ fields) h =
    none_append ends_line (44 ∷ field_text field) (flat_map (λ (field : Field). codes "," ++ field_text field) fields)
    (refl, none_field field (h.0).1) (none_others fields h.1)

none_fields : (fields : List Field) → AllByRecursion IsField fields
    → HasNone ends_line (join_by field_text (codes ",") fields)
none_fields [] h = tt
none_fields (field ∷ fields) h = none_append ends_line (field_text field)
    (flat_map (λ (field : Field). codes "," ++ field_text field) fields) (none_field field (h.0).1)
    (none_others fields h.1)

pub none_head : (m : Content) → IsMetric m → HasNone ends_line (head_text m)
unfolding head_text
none_head m h =
    none_append ends_line ((name_text m.name ++ flat_map tag_text m.tags) ++ 32 ∷ [])
    (join_by field_text (codes ",") m.fields)
    (none_append ends_line (name_text m.name ++ flat_map tag_text m.tags) (32 ∷ [])
    (none_append ends_line (name_text m.name) (flat_map tag_text m.tags) (none_name m.name) (none_tags m.tags))
    (refl, tt))
    (none_fields m.fields h.fields)

pub single : (m : Content) → IsMetric m → HasNone ends_line ((head_text m ++ codes " ") ++ signed_decimal m.time)
single m h = none_append ends_line (head_text m ++ 32 ∷ []) (signed_decimal m.time)
    (none_append ends_line (head_text m) (32 ∷ []) (none_head m h) (refl, tt))
    (number_none ends_line no_line (signed_decimal m.time) (signed_number m.time (magnitude_below m.time h.time)).bytes)

pub is_one_line : (m : Content) → IsMetric m → (line : List ℕ) × (line_text m ≡ line ++ codes "\n")
    × HasNone ends_line line
unfolding line_text
is_one_line m h = ((head_text m ++ codes " ") ++ signed_decimal m.time, refl, single m h)
