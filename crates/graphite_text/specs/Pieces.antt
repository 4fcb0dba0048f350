-- The pieces that a path is appended by.
use Rattle.std.specs.Prelude.{ℕ, List, [], ◌++◌, codes, if◌then◌else◌}
use Rattle.std.specs.Str.{bytes_eq}
use Rattle.metric.specs.Draft.{Tag}
use Rattle.graphite_text.specs.Writing.{value_part, name_part, is_host}

-- the value of a tag and a dot
abbrev pub dotted_value : Tag → List ℕ
dotted_value tag = value_part tag.1 ++ codes "."

abbrev pub host_text : Tag → List ℕ
host_text tag = if is_host tag then dotted_value tag else []

abbrev pub other_text : Tag → List ℕ
other_text tag = if is_host tag then [] else dotted_value tag

-- a dot and a key, unless it is `value`
abbrev pub key_text : List ℕ → List ℕ
key_text key = if bytes_eq key (codes "value") then [] else codes "." ++ name_part key
