-- Segments, pairs and templates as they are written.
use Rattle.std.specs.Prelude.{◌≡◌, ◌<◌, ◌||◌, ℕ, Bool, false, List, [], ◌∷◌, ◌++◌, length, map}
use Rattle.std.specs.Prelude.{codes, Option, Some, None, Ok}
use Rattle.std.specs.List.{AllByRecursion, join_with_byte, list_any}
use Rattle.std.specs.Str.{bytes_eq}
use Rattle.text_parts.specs.Bytes.{space, comma, equals_sign}
use Rattle.text_parts.specs.Grammar.{HasNone}
use Rattle.text_parts.specs.Pairs.{pair_text}
use Rattle.text_parts.specs.Split.{is_byte, AllLack}
use Rattle.metric.specs.Draft.{Tag}
use Rattle.format_words.specs.declared.template.TemplatePart.{TemplatePart}
use Rattle.format_words.specs.declared.template.TemplatePart.TheVariants as parts
use Rattle.format_words.specs.Bytes.{star, dot}
use Rattle.format_words.specs.Segments.{AreFilled}
use Rattle.format_words.specs.Template.{Shape, has_equals, has_early_star, template_of}

-- ---- segments and pairs

-- segments, of which there is at least one: none is empty and none has a dot
pub record AreSegments (texts : List (List ℕ)) : Type 0 where
  pub some : 0 < length texts
  pub filled : AreFilled texts
  pub dots : AllLack dot texts

abbrev pub segments_text : List (List ℕ) → List ℕ
segments_text texts = join_with_byte dot texts

-- a key without `=` and a value, neither of them empty
pub record IsPair (tag : Tag) : Type 0 where
  pub key_filled : 0 < length tag.0
  pub key : HasNone (is_byte equals_sign) tag.0
  pub value_filled : 0 < length tag.1

-- ---- templates

abbrev pub part_text : TemplatePart → List ℕ
part_text parts.Measurement = codes "measurement"
part_text parts.AllMeasurement = codes "measurement*"
part_text parts.Field = codes "field"
part_text parts.AllField = codes "field*"
part_text (parts.Tag name) = name
part_text parts.Skipped = []

-- a word of templates
abbrev pub is_word : List ℕ → Bool
is_word text =
    bytes_eq text (codes "measurement") || (bytes_eq text (codes "measurement*")
    || (bytes_eq text (codes "field") || bytes_eq text (codes "field*")))

-- the name of a tag isn't empty, has no `*`, and is no word of templates
abbrev pub IsPartText : TemplatePart → Type 0
IsPartText parts.Measurement = Unit {0}
IsPartText parts.AllMeasurement = Unit {0}
IsPartText parts.Field = Unit {0}
IsPartText parts.AllField = Unit {0}
IsPartText (parts.Tag name) =
    (0 < length name) × (list_any (is_byte star) name ≡ false) × (is_word name ≡ false)
IsPartText parts.Skipped = Unit {0}

abbrev pub parts_text : List TemplatePart → List ℕ
parts_text all = join_with_byte dot (map part_text all)

-- the filter stands before the template, the tags behind it, each with one space between
abbrev pub filter_text : Option (List (List ℕ)) → List ℕ
filter_text None = []
filter_text (Some segments) = segments_text segments ++ space ∷ []

abbrev pub pairs_line : List Tag → List ℕ
pairs_line tags = join_with_byte comma (map pair_text tags)

abbrev pub tags_text : List Tag → List ℕ
tags_text [] = []
tags_text (tag ∷ tags) = space ∷ pairs_line (tag ∷ tags)

-- the text of a template is the concatenation of its parts
abbrev pub template_spelling : Shape → List ℕ
template_spelling shape = filter_text shape.filter ++ (parts_text shape.parts ++ tags_text shape.tags)

abbrev pub IsFilter : Option (List (List ℕ)) → Type 0
IsFilter None = Unit {0}
IsFilter (Some segments) = AreSegments segments × HasNone (is_byte space) (segments_text segments)

-- without tags the template has no `=`, since it is the last word
abbrev pub IsLast : List Tag → List ℕ → Type 0
IsLast [] text = has_equals text ≡ false
IsLast (tag ∷ tags) text = Unit {0}

pub record IsTemplateText (shape : Shape) : Type 0 where
  pub filter : IsFilter shape.filter
  pub some : 0 < length shape.parts
  pub parts : AllByRecursion IsPartText shape.parts
  pub dots : AllLack dot (map part_text shape.parts)
  pub spaces : HasNone (is_byte space) (parts_text shape.parts)
  pub star : has_early_star shape.parts ≡ false
  pub last : IsLast shape.tags (parts_text shape.parts)
  pub pairs : AllByRecursion IsPair shape.tags
  pub commas : AllLack comma (map pair_text shape.tags)
  pub tag_spaces : HasNone (is_byte space) (pairs_line shape.tags)

-- a text is read as a template exactly where it is its text
abbrev pub SpelledIsTemplate : Type 0
SpelledIsTemplate = (shape : Shape) → IsTemplateText shape → template_of (template_spelling shape) ≡ Ok shape

abbrev pub TemplateIsSpelled : Type 0
TemplateIsSpelled = (text : List ℕ) (shape : Shape) → template_of text ≡ Ok shape
    → (text ≡ template_spelling shape) × IsTemplateText shape
