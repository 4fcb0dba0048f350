-- The name and the tags of a line.
use Rattle.std.specs.Prelude.{ℕ, ◌==◌, ◌||◌, not, Bool, List, [], ◌∷◌, length, filter, codes, Option, Some}
use Rattle.std.specs.Prelude.{None, Result, Ok, if◌then◌else◌}
use Rattle.std.specs.List.{list_any}
use Rattle.text_parts.specs.Bytes.{comma, colon, equals_sign, bar}
use Rattle.text_parts.specs.Chain.{◌>>=◌}
use Rattle.text_parts.specs.Split.{PartAt, is_byte, first_part, parts_of, each}
use Rattle.metric.specs.Draft.{Tag}
use Rattle.statsd_text.specs.declared.fault.StatsdFault.{StatsdFault}
use Rattle.statsd_text.specs.declared.fault.StatsdKind.TheVariants.{BadTag, BadName}
use Rattle.statsd_text.specs.Sections.{fault}

-- ---- the head

-- the name, which isn't empty, is the first part of the head; the others are left
abbrev pub name_of : List PartAt → Result (List ℕ × List PartAt) StatsdFault
name_of [] = fault BadName 0
name_of (first ∷ others) = if length first.1 == 0 then fault BadName 0 else Ok (first.1, others)

-- a key that isn't empty, and its value behind an equals sign
abbrev pub valued : ℕ → List ℕ → Option (List ℕ) → Result Tag StatsdFault
valued offset key None = fault BadTag offset
valued offset key (Some value) = if length key == 0 then fault BadTag offset else Ok (key, value)

-- a tag in the name: `key=value`, split at its first `=`
unfoldable pub head_tag : PartAt → Result Tag StatsdFault
head_tag part = valued part.0 (first_part equals_sign part.1).0 (first_part equals_sign part.1).1

-- a head is split at its commas
unfoldable pub head_of : List ℕ → Result (List ℕ × List Tag) StatsdFault
head_of text = do
  name ← name_of (parts_of comma (0, text))
  tags ← each head_tag name.1
  Ok (name.0, tags)

-- ---- behind `|#`

-- the value behind a colon; without one it is `true`
abbrev pub value_or_true : Option (List ℕ) → List ℕ
value_or_true None = codes "true"
value_or_true (Some value) = value

-- a tag behind `|#`: `key:value`, split at its first `:`; its key isn't empty, and no `|` is in it
unfoldable pub later_tag : PartAt → Result Tag StatsdFault
later_tag part =
    if list_any (is_byte bar) part.1 || length (first_part colon part.1).0 == 0 then fault BadTag part.0
    else Ok ((first_part colon part.1).0, value_or_true (first_part colon part.1).1)

-- the parts that aren't empty
abbrev pub is_filled : PartAt → Bool
is_filled part = not (length part.1 == 0)

-- these tags are split at commas; empty parts say nothing
unfoldable pub later_tags : PartAt → Result (List Tag) StatsdFault
later_tags text = each later_tag (filter is_filled (parts_of comma text))
