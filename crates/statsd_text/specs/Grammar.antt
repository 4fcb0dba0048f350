-- Lines as they are written.
use Rattle.std.specs.Prelude.{◌≡◌, ◌<◌, ℕ, ℤ, ◌==◌, ◌||◌, Bool, true, false, List, [], ◌∷◌, ◌++◌, length, map}
use Rattle.std.specs.Prelude.{codes, Option, Some, None, Ok, ◌≤◌, ◌/◌, IfOk}
use Rattle.std.specs.List.{AllByRecursion, join_with_byte, list_any}
use Rattle.std.specs.Str.{IsUtf8}
use Rattle.text_parts.specs.Bytes.{hash, comma, colon, equals_sign, at_sign, bar}
use Rattle.text_parts.specs.Grammar.{HasNone}
use Rattle.text_parts.specs.Pairs.{pairs_text}
use Rattle.fixed_num.specs.Fixed.{read_as}
use Rattle.metric.specs.declared.value.Value.{Value}
use Rattle.metric.specs.declared.metric.Content.{Content}
use Rattle.metric.specs.Draft.{Tag}
use Rattle.statsd_text.specs.declared.said.Said.{Said}
use Rattle.statsd_text.specs.Said.{type_of, value_of, field_of, is_positive, counted}
use Rattle.statsd_text.specs.Reading.{content_of, has_too_many, is_blank, reading}

-- ---- the bytes that a text may not hold

-- a name and the value of a tag in it; the key of such a tag; the value of a part
abbrev pub ends_name : ℕ → Bool
ends_name b = b == colon || b == comma

abbrev pub ends_key : ℕ → Bool
ends_key b = b == colon || b == comma || b == equals_sign

abbrev pub ends_value : ℕ → Bool
ends_value b = b == colon || b == bar

-- the key and the value of a tag behind `|#`
abbrev pub ends_later_key : ℕ → Bool
ends_later_key b = b == colon || b == comma || b == bar

abbrev pub ends_later_value : ℕ → Bool
ends_later_value b = b == comma || b == bar

-- ---- what is written

-- a part: a value, a type, perhaps a rate
pub record WrittenPart : Type 0 where
  pub value : List ℕ
  pub type_text : List ℕ
  pub rate : Option (List ℕ)

abbrev pub rate_spelling : Option (List ℕ) → List ℕ
rate_spelling None = []
rate_spelling (Some rate) = bar ∷ at_sign ∷ rate

abbrev pub part_spelling : WrittenPart → List ℕ
part_spelling w = w.value ++ bar ∷ (w.type_text ++ rate_spelling w.rate)

-- a tag behind `|#`: nothing, a key alone, or a key with a value
pub data LaterTag : Type 0 where
  Nothing : LaterTag
  Flag : List ℕ → LaterTag
  Pair : List ℕ → List ℕ → LaterTag

abbrev pub later_spelling : LaterTag → List ℕ
later_spelling Nothing = []
later_spelling (Flag key) = key
later_spelling (Pair key value) = key ++ colon ∷ value

-- a line: a name, tags, parts, perhaps `|#` and tags; of the parts and of those tags there is at least one
pub record Written : Type 0 where
  pub name : List ℕ
  pub tags : List Tag
  pub first : WrittenPart
  pub others : List WrittenPart
  pub later : Option (LaterTag × List LaterTag)

abbrev pub head_spelling : Written → List ℕ
head_spelling w = w.name ++ pairs_text w.tags

abbrev pub parts_spelling : Written → List ℕ
parts_spelling w = join_with_byte colon (map part_spelling (w.first ∷ w.others))

abbrev pub end_spelling : Option (LaterTag × List LaterTag) → List ℕ
end_spelling None = []
end_spelling (Some later) = bar ∷ hash ∷ join_with_byte comma (map later_spelling (later.0 ∷ later.1))

-- the text of a line is the concatenation of its parts
abbrev pub line_spelling : Written → List ℕ
line_spelling w = head_spelling w ++ colon ∷ (parts_spelling w ++ end_spelling w.later)

-- ---- what is said

-- a tag in the name
pub record IsHeadTag (tag : Tag) : Type 0 where
  pub filled : 0 < length tag.0
  pub key : HasNone ends_key tag.0
  pub value : HasNone ends_name tag.1

-- a rate, where one is written, is a decimal above 0
abbrev pub IsRate : Option (List ℕ) → Option ℤ → Type 0
IsRate None rate = rate ≡ None
IsRate (Some text) rate = (n : ℤ) × (read_as text ≡ Ok n) × (is_positive n ≡ true) × (rate ≡ Some n)

-- a written part says this
pub record IsPart (w : WrittenPart) (said : Said) : Type 0 where
  pub none : HasNone ends_value w.value
  pub named : type_of w.type_text ≡ Some said.metric_type
  pub number : Value
  pub is_value : value_of said.metric_type w.value ≡ Ok number
  pub rate : Option ℤ
  pub is_rate : IsRate w.rate rate
  pub counts : counted said.metric_type number rate ≡ Ok said.value
  pub field : said.field ≡ field_of said.metric_type w.value

abbrev pub AreParts : List WrittenPart → List Said → Type 0
AreParts [] [] = Unit {0}
AreParts [] (said ∷ rest) = ⊥
AreParts (w ∷ ws) [] = ⊥
AreParts (w ∷ ws) (said ∷ rest) = IsPart w said × AreParts ws rest

-- a tag behind `|#`, and the tags that it gives
abbrev pub IsLaterTag : LaterTag → Type 0
IsLaterTag Nothing = Unit {0}
IsLaterTag (Flag key) = (0 < length key) × HasNone ends_later_key key
IsLaterTag (Pair key value) = (0 < length key) × HasNone ends_later_key key × HasNone ends_later_value value

abbrev pub given_later : List LaterTag → List Tag
given_later [] = []
given_later (Nothing ∷ tags) = given_later tags
given_later (Flag key ∷ tags) = (key, codes "true") ∷ given_later tags
given_later (Pair key value ∷ tags) = (key, value) ∷ given_later tags

abbrev pub AreLater : Option (LaterTag × List LaterTag) → Type 0
AreLater None = Unit {0}
AreLater (Some later) = AllByRecursion IsLaterTag (later.0 ∷ later.1)

abbrev pub given_end : Option (LaterTag × List LaterTag) → List Tag
given_end None = []
given_end (Some later) = given_later (later.0 ∷ later.1)

-- the line that is written
pub record IsLine (w : Written) (said : List Said) : Type 0 where
  pub filled : 0 < length w.name
  pub name : HasNone ends_name w.name
  pub tags : AllByRecursion IsHeadTag w.tags
  pub parts : AreParts (w.first ∷ w.others) said
  pub later : AreLater w.later

-- the metrics of a line, one for each part, with the tags of both places
abbrev pub metrics_of : Written → List Said → ℤ → List Content
metrics_of w said moment = map (content_of w.name (w.tags ++ given_end w.later) moment) said

-- a written line whose metrics have at most 64 tags is read as its metrics
abbrev pub WrittenIsRead : Type 0
WrittenIsRead = (w : Written) (said : List Said) (moment : ℤ) → IsLine w said → IsUtf8 (line_spelling w)
    → list_any has_too_many (metrics_of w said moment) ≡ false
    → reading (line_spelling w) moment ≡ Ok (metrics_of w said moment)

-- a piece that isn't blank and is read as metrics is a written line whose metrics have at most 64 tags
abbrev pub ReadIsWritten : Type 0
ReadIsWritten = (piece : List ℕ) (moment : ℤ) (metrics : List Content) → is_blank piece ≡ false
    → reading piece moment ≡ Ok metrics
    → (w : Written) × (said : List Said) × (piece ≡ line_spelling w) × IsUtf8 piece × IsLine w said
    × (list_any has_too_many metrics ≡ false) × (metrics ≡ metrics_of w said moment)

-- ---- how many metrics are said

-- in so many bytes: one for each three, since a part has its colon, a bar and a type
abbrev pub most_said : ℕ → ℕ
most_said size = size / 3

-- no piece says more
abbrev pub SaysAtMost : Type 0
SaysAtMost = (piece : List ℕ) (moment : ℤ)
    → IfOk (reading piece moment) (λ metrics. length metrics ≤ most_said (length piece))
