-- Segments between dots, and pairs of a key and a value.
use Rattle.std.specs.Prelude.{◌<◌, ◌==◌, ◌||◌, ℕ, List, [], length, Option, Some, None, Result, Ok, Err}
use Rattle.std.specs.Prelude.{if◌then◌else◌}
use Rattle.std.specs.List.{AllByRecursion}
use Rattle.text_parts.specs.Bytes.{equals_sign}
use Rattle.text_parts.specs.Split.{PartAt, first_part, parts_of, each}
use Rattle.metric.specs.Draft.{Tag}
use Rattle.format_words.specs.declared.fault.ShapeFault.{ShapeFault}
use Rattle.format_words.specs.declared.fault.ShapeFault.TheVariants.{Malformed}
use Rattle.format_words.specs.Bytes.{dot}

-- a segment, which isn't empty
unfoldable pub segment : PartAt → Result (List ℕ) ShapeFault
segment part = if length part.1 == 0 then Err Malformed else Ok part.1

-- the segments of a text, which is cut at each dot
abbrev pub segments_of : List ℕ → Result (List (List ℕ)) ShapeFault
segments_of text = each segment (parts_of dot (0, text))

-- a key and its value, neither of them empty
abbrev pub valued : List ℕ → Option (List ℕ) → Result Tag ShapeFault
valued key None = Err Malformed
valued key (Some value) = if length key == 0 || length value == 0 then Err Malformed else Ok (key, value)

-- `key=value`, split at its first `=`
unfoldable pub pair : PartAt → Result Tag ShapeFault
pair part = valued (first_part equals_sign part.1).0 (first_part equals_sign part.1).1

-- the pairs of a text, which is cut at each separator; of no text there are none
abbrev pub pairs_of : ℕ → Option (List ℕ) → Result (List Tag) ShapeFault
pairs_of separator None = Ok []
pairs_of separator (Some text) = each pair (parts_of separator (0, text))

-- ---- what is true of all of them

abbrev pub AreFilled : List (List ℕ) → Type 0
AreFilled texts = AllByRecursion (λ (text : List ℕ). 0 < length text) texts

abbrev pub AreKeyed : List Tag → Type 0
AreKeyed tags = AllByRecursion (λ (tag : Tag). 0 < length tag.0) tags
