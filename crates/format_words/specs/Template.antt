-- Templates, and the texts that are templates.
use Rattle.std.specs.Prelude.{◌<◌, ◌-◌, ◌==◌, ℕ, Bool, true, false, List, [], ◌∷◌, length, take, codes}
use Rattle.std.specs.Prelude.{Option}
use Rattle.std.specs.Prelude.{Some, None, Result, Ok, Err, if◌then◌else◌}
use Rattle.std.specs.List.{list_any, AllByRecursion}
use Rattle.std.specs.Str.{bytes_eq}
use Rattle.text_parts.specs.Bytes.{space, comma, equals_sign}
use Rattle.text_parts.specs.Chain.{◌>>=◌}
use Rattle.text_parts.specs.Split.{PartAt, is_byte, parts_of, each}
use Rattle.metric.specs.Draft.{Tag}
use Rattle.format_words.specs.declared.fault.ShapeFault.{ShapeFault}
use Rattle.format_words.specs.declared.fault.ShapeFault.TheVariants.{Malformed}
use Rattle.format_words.specs.declared.template.TemplatePart.{TemplatePart}
use Rattle.format_words.specs.declared.template.TemplatePart.TheVariants as parts
use Rattle.format_words.specs.Bytes.{star, dot}
use Rattle.format_words.specs.Segments.{segments_of, pairs_of, AreKeyed}

-- a template: the segments of its filter, where it has one, its parts, and its own tags
pub record Shape : Type 0 where
  pub filter : Option (List (List ℕ))
  pub parts : List TemplatePart
  pub tags : List Tag

-- ---- its parts

-- a part that is no word of templates: the name of a tag, which has no `*`; where it is empty it skips a
-- segment
abbrev pub tag_part : List ℕ → Result TemplatePart ShapeFault
tag_part text =
    if length text == 0 then Ok parts.Skipped
    else if list_any (is_byte star) text then Err Malformed
    else Ok (parts.Tag text)

unfoldable pub template_part : PartAt → Result TemplatePart ShapeFault
template_part part =
    if bytes_eq part.1 (codes "measurement") then Ok parts.Measurement
    else if bytes_eq part.1 (codes "measurement*") then Ok parts.AllMeasurement
    else if bytes_eq part.1 (codes "field") then Ok parts.Field
    else if bytes_eq part.1 (codes "field*") then Ok parts.AllField
    else tag_part part.1

-- a part with a star
abbrev pub is_starred : TemplatePart → Bool
is_starred parts.Measurement = false
is_starred parts.AllMeasurement = true
is_starred parts.Field = false
is_starred parts.AllField = true
is_starred (parts.Tag name) = false
is_starred parts.Skipped = false

-- a starred part stands last
abbrev pub has_early_star : List TemplatePart → Bool
has_early_star all = list_any is_starred (take (length all - 1) all)

abbrev pub starred_last : List TemplatePart → Result (List TemplatePart) ShapeFault
starred_last all = if has_early_star all then Err Malformed else Ok all

-- the parts of a text, which is cut at each dot
abbrev pub each_part : List ℕ → Result (List TemplatePart) ShapeFault
each_part text = each template_part (parts_of dot (0, text))

unfoldable pub template_parts : List ℕ → Result (List TemplatePart) ShapeFault
template_parts text = do
  all ← each_part text
  starred_last all

-- ---- the text

-- the words of a template's text: perhaps a filter, a template, perhaps tags
pub record TemplateWords : Type 0 where
  pub filter : Option (List ℕ)
  pub template : List ℕ
  pub tags : Option (List ℕ)

abbrev pub has_equals : List ℕ → Bool
has_equals text = list_any (is_byte equals_sign) text

-- the last word is tags where it holds `=`; one or two words are left
abbrev pub one_word : List ℕ → Result TemplateWords ShapeFault
one_word only =
    if has_equals only then Err Malformed else Ok (record { filter = None; template = only; tags = None })

abbrev pub two_words : List ℕ → List ℕ → Result TemplateWords ShapeFault
two_words first last =
    if has_equals last then Ok (record { filter = None; template = first; tags = Some last })
    else Ok (record { filter = Some first; template = last; tags = None })

abbrev pub three_words : List ℕ → List ℕ → List ℕ → Result TemplateWords ShapeFault
three_words first second last =
    if has_equals last then Ok (record { filter = Some first; template = second; tags = Some last })
    else Err Malformed

unfoldable pub words_as : List PartAt → Result TemplateWords ShapeFault
words_as [] = Err Malformed
words_as (first ∷ []) = one_word first.1
words_as (first ∷ second ∷ []) = two_words first.1 second.1
words_as (first ∷ second ∷ third ∷ []) = three_words first.1 second.1 third.1
words_as (first ∷ second ∷ third ∷ fourth ∷ words) = Err Malformed

-- the segments of the filter, where there is one
abbrev pub filter_of : Option (List ℕ) → Result (Option (List (List ℕ))) ShapeFault
filter_of None = Ok None
filter_of (Some text) = do
  segments ← segments_of text
  Ok (Some segments)

-- the template that words are
unfoldable pub shape_of : TemplateWords → Result Shape ShapeFault
shape_of words = do
  filter ← filter_of words.filter
  all ← template_parts words.template
  tags ← pairs_of comma words.tags
  Ok (record { filter = filter; parts = all; tags = tags })

-- the template that a text is: its words stand between single spaces
unfoldable pub template_of : List ℕ → Result Shape ShapeFault
template_of text = do
  words ← words_as (parts_of space (0, text))
  shape_of words

-- ---- what is true of each template

-- the name of a tag isn't empty
abbrev pub IsNamed : TemplatePart → Type 0
IsNamed parts.Measurement = Unit {0}
IsNamed parts.AllMeasurement = Unit {0}
IsNamed parts.Field = Unit {0}
IsNamed parts.AllField = Unit {0}
IsNamed (parts.Tag name) = 0 < length name
IsNamed parts.Skipped = Unit {0}

pub record IsTemplate (shape : Shape) : Type 0 where
  pub named : AllByRecursion IsNamed shape.parts
  pub keyed : AreKeyed shape.tags
