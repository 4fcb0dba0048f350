-- What a template takes from the segments of a path.
use Rattle.std.specs.Prelude.{◌++◌, ℕ, List, [], ◌∷◌, length, take, codes}
use Rattle.std.specs.Prelude.{flat_map, Option, Some, None, if◌then◌else◌}
use Rattle.std.specs.List.{find, join_by}
use Rattle.std.specs.Str.{bytes_eq}
use Rattle.metric.specs.Draft.{Tag}
use Rattle.format_words.specs.declared.template.TemplatePart.{TemplatePart}
use Rattle.format_words.specs.declared.template.TemplatePart.TheVariants as parts
use Rattle.graphite_text.specs.declared.collected.Share.{Share}
use Rattle.graphite_text.specs.declared.collected.Share.TheVariants.{Nothing, One, Rest}
use Rattle.format_words.specs.Serving.{serves}
use Rattle.graphite_text.specs.Path.{Path}
use Rattle.format_words.specs.Template.{Shape}

-- ---- the template that is used

-- where no template serves, all segments are the measurement
abbrev pub default : Shape
default = record { filter = None; parts = parts.AllMeasurement ∷ []; tags = [] }

abbrev pub or_default : Option Shape → Shape
or_default None = default
or_default (Some shape) = shape

-- the first template of the list that serves
abbrev pub used : List Shape → List (List ℕ) → Shape
used templates segments = or_default (find (serves segments) templates)

-- ---- what it collects

-- what a part gives to a thing: its segment, that and all behind it, or nothing
abbrev pub name_share : TemplatePart → Share
name_share parts.Measurement = One
name_share parts.AllMeasurement = Rest
name_share parts.Field = Nothing
name_share parts.AllField = Nothing
name_share (parts.Tag name) = Nothing
name_share parts.Skipped = Nothing

abbrev pub key_share : TemplatePart → Share
key_share parts.Measurement = Nothing
key_share parts.AllMeasurement = Nothing
key_share parts.Field = One
key_share parts.AllField = Rest
key_share (parts.Tag name) = Nothing
key_share parts.Skipped = Nothing

abbrev pub tag_share : List ℕ → TemplatePart → Share
tag_share wanted parts.Measurement = Nothing
tag_share wanted parts.AllMeasurement = Nothing
tag_share wanted parts.Field = Nothing
tag_share wanted parts.AllField = Nothing
tag_share wanted (parts.Tag name) = if bytes_eq name wanted then One else Nothing
tag_share wanted parts.Skipped = Nothing

abbrev pub with_share : Share → List ℕ → List (List ℕ) → List (List ℕ) → List (List ℕ)
with_share Nothing text behind others = others
with_share One text behind others = text ∷ others
with_share Rest text behind others = text ∷ behind

-- the segments that the parts give to a thing: part i gives of segment i
unfoldable pub collected : (TemplatePart → Share) → List TemplatePart → List (List ℕ) → List (List ℕ)
collected share [] segments = []
collected share (part ∷ all) [] = []
collected share (part ∷ all) (text ∷ segments) =
    with_share (share part) text segments (collected share all segments)

-- texts joined by the separator
unfoldable pub joined : List ℕ → List (List ℕ) → List ℕ
joined separator texts = join_by (λ text. text) separator texts

-- ---- the metric's name, its field's key, its tags

-- where no segment is the measurement, all are
abbrev pub or_all : List (List ℕ) → List (List ℕ) → List (List ℕ)
or_all [] segments = segments
or_all (text ∷ texts) segments = text ∷ texts

unfoldable pub name_of : List ℕ → List TemplatePart → List (List ℕ) → List ℕ
name_of separator all segments = joined separator (or_all (collected name_share all segments) segments)

-- where no segment is the field, it is `value`
abbrev pub key_from : List ℕ → List (List ℕ) → List ℕ
key_from separator [] = codes "value"
key_from separator (text ∷ texts) = joined separator (text ∷ texts)

unfoldable pub key_of : List ℕ → List TemplatePart → List (List ℕ) → List ℕ
key_of separator all segments = key_from separator (collected key_share all segments)

-- the tag of a part: all segments at the parts of its name
abbrev pub tags_at : List ℕ → List TemplatePart → List (List ℕ) → TemplatePart → List Tag
tags_at separator all segments parts.Measurement = []
tags_at separator all segments parts.AllMeasurement = []
tags_at separator all segments parts.Field = []
tags_at separator all segments parts.AllField = []
tags_at separator all segments (parts.Tag name) =
    (name, joined separator (collected (tag_share name) all segments)) ∷ []
tags_at separator all segments parts.Skipped = []

-- the tags that are collected: those of the parts that have a segment
abbrev pub collected_tags : List ℕ → List TemplatePart → List (List ℕ) → List Tag
collected_tags separator all segments = flat_map (tags_at separator all segments) (take (length segments) all)

-- the tags in the order in which they count: the template's own, the collected ones, those of the path
abbrev pub tags_of : List ℕ → Shape → Path → List Tag
tags_of separator shape path =
    (shape.tags ++ collected_tags separator shape.parts path.segments) ++ path.tags
