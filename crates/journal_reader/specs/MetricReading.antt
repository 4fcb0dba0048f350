-- The metric that a word is.
use Rattle.std.specs.Prelude.{ℕ, ◌+◌, ◌-◌, ◌*◌, ◌==◌, ◌&&◌, not, Bool, true, false, List, [], ◌∷◌, length}
use Rattle.std.specs.Prelude.{codes, nat_le, Option, Some, None, Result, Ok, Err, option_map, if◌then◌else◌}
use Rattle.std.specs.Cmp.Lexicographic.{slice_cmp}
use Rattle.std.specs.List.{slice_split, list_any}
use Rattle.std.specs.Ordering.{is_lt, nat_cmp}
use Rattle.std.specs.Str.{bytes_eq, is_utf8}
use Rattle.fixed_num.specs.declared.fixed.NumFault.{NumFault}
use Rattle.fixed_num.specs.Fixed.{read_as}
use Rattle.fixed_num.specs.Whole.{uint_read_as, int_read_as}
use Rattle.text_parts.specs.Bytes.{equals_sign, bar}
use Rattle.text_parts.specs.Split.{is_byte}
use Rattle.metric.specs.declared.metric.Content.{Content}
use Rattle.metric.specs.declared.value.Value.{Value}
use Rattle.metric.specs.declared.value.Value.TheVariants as value
use Rattle.journal_text.specs.MetricText.{metric_text}
use Rattle.journal_reader.specs.Words.{◌>>=◌, where_true, Parts, each, cut}

abbrev pub percent : ℕ
percent = 37

abbrev pub semicolon : ℕ
semicolon = 59

-- ---- a text; spellings that aren't the one of a metric are refused with the whole metric, below

-- the digit that a byte is
unfoldable pub digit_of : ℕ → ℕ
digit_of b =
    if nat_le 48 b && nat_le b 57 then b - 48
    else if nat_le 65 b && nat_le b 70 then b - 55
    else 0

-- a text without its escapes: `%` and two digits stand for a byte
unfoldable pub unescaped : List ℕ → List ℕ
unescaped [] = []
unescaped (b ∷ []) = b ∷ []
unescaped (b ∷ c ∷ []) = b ∷ c ∷ []
unescaped (b ∷ c ∷ d ∷ bs) =
    if b == percent then (digit_of c * 16 + digit_of d) ∷ unescaped bs else b ∷ unescaped (c ∷ d ∷ bs)

-- the text that is written so, where it is UTF-8
unfoldable pub text_of : List ℕ → Option (List ℕ)
text_of written = where_true (is_utf8 (unescaped written)) (Some (unescaped written))

-- ---- its parts

abbrev pub said : {A : Type 0} → Result A NumFault → Option A
said (Ok n) = Some n
said (Err fault) = None

-- a number or a truth value: the first byte tells the type
unfoldable pub plain_value_of : List ℕ → Option Value
plain_value_of [] = None
plain_value_of (b ∷ rest) =
    if b == 105 then option_map value.Int (said (int_read_as rest))
    else if b == 117 then option_map value.Uint (said (uint_read_as rest))
    else if b == 102 then option_map value.Fixed (said (read_as rest))
    else if bytes_eq (b ∷ rest) (codes "bt") then Some (value.«Bool» true)
    else if bytes_eq (b ∷ rest) (codes "bf") then Some (value.«Bool» false)
    else None

-- a value: its first byte tells the type
unfoldable pub value_of : List ℕ → Option Value
value_of [] = None
value_of (b ∷ rest) =
    if b == 115 then option_map value.Text (text_of rest) else plain_value_of (b ∷ rest)

-- a key, and what stands behind its equals sign
unfoldable pub pair_of : {A : Type 0} → (List ℕ → Option A) → List ℕ → Option (List ℕ × A)
pair_of says written = do
  parts ← cut equals_sign written
  key ← text_of parts.0
  said ← says parts.1
  Some (key, said)

-- a tag: a key and its value
unfoldable pub tag_of : List ℕ → Option (List ℕ × List ℕ)
tag_of written = pair_of text_of written

-- a field: a key and its value
unfoldable pub field_of : List ℕ → Option (List ℕ × Value)
field_of written = pair_of value_of written

-- a name with tags behind it
unfoldable pub series_of : Parts → Option (List ℕ × List (List ℕ × List ℕ))
series_of [] = None
series_of (name ∷ tags) = do
  name ← text_of name
  tags ← each tag_of tags
  Some (name, tags)

-- what a word says as a metric: a name with tags, fields and a time
unfoldable pub content_of : List ℕ → Option Content
content_of word = do
  series ← cut bar word
  parts ← cut bar series.1
  named ← series_of (slice_split (is_byte semicolon) series.0)
  fields ← each field_of (slice_split (is_byte semicolon) parts.0)
  time ← said (int_read_as parts.1)
  Some (record { name = named.0; tags = named.1; fields = fields; time = time })

-- ---- what is a metric

abbrev pub is_filled : List ℕ → Bool
is_filled text = not (length text == 0)

-- keys and values are filled, and the keys rise, from this one on
unfoldable pub are_tags : List ℕ → List (List ℕ × List ℕ) → Bool
are_tags before [] = true
are_tags before (tag ∷ tags) =
    is_filled tag.1 && is_lt (slice_cmp nat_cmp before tag.0) && are_tags tag.0 tags

-- keys are filled, and none comes twice, nor one of these
unfoldable pub are_fields : Parts → List (List ℕ × Value) → Bool
are_fields before [] = true
are_fields before (field ∷ fields) =
    is_filled field.0 && not (list_any (λ key. bytes_eq key field.0) before) && are_fields (field.0 ∷ before) fields

-- it has a name and a field, its keys and the values of its tags are filled, the keys of its tags rise, and those
-- of its fields are distinct
unfoldable pub is_metric : Content → Bool
is_metric m =
    is_filled m.name && are_tags [] m.tags && not (length m.fields == 0) && are_fields [] m.fields

-- the metric that a word is, in its one spelling
unfoldable pub metric_of : List ℕ → Option Content
metric_of word = do
  m ← content_of word
  where_true (is_metric m && bytes_eq (metric_text m) word) (Some m)
