-- Names of samples and of labels.
use Rattle.std.specs.Prelude.{ℕ, ◌==◌, ◌&&◌, ◌||◌, not, Bool, List, length, slice_index, if◌then◌else◌}
use Rattle.std.specs.Char.{is_ascii_alphabetic, is_ascii_digit}
use Rattle.std.specs.List.{position_or_len, list_all}
use Rattle.text_parts.specs.Bytes.{underscore}
use Rattle.metric.specs.Draft.{Tag}
use Rattle.openmetrics_text.specs.declared.names.Alphabet.{Alphabet}
use Rattle.openmetrics_text.specs.declared.names.Alphabet.TheVariants.{Labels, Samples}
use Rattle.openmetrics_text.specs.Bytes.{colon}

-- letters, digits and underscores are of the alphabet of labels; a colon is of that of samples too
abbrev pub is_label_byte : ℕ → Bool
is_label_byte b = is_ascii_alphabetic b || is_ascii_digit b || b == underscore

abbrev pub is_name_byte : ℕ → Bool
is_name_byte b = is_label_byte b || b == colon

abbrev pub is_of : Alphabet → ℕ → Bool
is_of Labels b = is_label_byte b
is_of Samples b = is_name_byte b

-- what ends a name in an alphabet: that of a label, and of a sample
abbrev pub ends : Alphabet → ℕ → Bool
ends alphabet b = not (is_of alphabet b)

abbrev pub ends_label : ℕ → Bool
ends_label b = ends Labels b

abbrev pub ends_name : ℕ → Bool
ends_name b = ends Samples b

-- how many bytes the name has that a text begins with: all before the first one that isn't of the alphabet,
-- and none where the first is a digit
unfoldable pub name_len : (ℕ → Bool) → List ℕ → ℕ
name_len ends text = if is_ascii_digit (slice_index text 0) then 0 else position_or_len ends text

-- a whole text is the name of a label, or empty
abbrev pub is_label : List ℕ → Bool
is_label text = name_len ends_label text == length text

abbrev pub are_labels : List Tag → Bool
are_labels tags = list_all (λ (tag : Tag). is_label tag.0) tags

-- a whole text is the name of a sample
abbrev pub is_name : List ℕ → Bool
is_name text = name_len ends_name text == length text && not (length text == 0)
