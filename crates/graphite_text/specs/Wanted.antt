-- The things that segments are collected for, as the code has them.
use Rattle.std.specs.Prelude.{ℕ, List, [], codes}
use Rattle.graphite_text.specs.declared.collected.Wanted.{Wanted}
use Rattle.graphite_text.specs.declared.collected.Wanted.TheVariants.{Name, Key, TagOf}
use Rattle.graphite_text.specs.declared.collected.Share.{Share}
use Rattle.format_words.specs.declared.template.TemplatePart.{TemplatePart}
use Rattle.graphite_text.specs.Applied.{name_share, key_share, tag_share, collected, joined, name_of, key_of}

abbrev pub share_of : Wanted → TemplatePart → Share
share_of Name = name_share
share_of Key = key_share
share_of (TagOf key) = tag_share key.now

-- the text of a thing
abbrev pub text_of : Wanted → List ℕ → List TemplatePart → List (List ℕ) → List ℕ
text_of Name separator all segments = name_of separator all segments
text_of Key separator all segments = key_of separator all segments
text_of (TagOf key) separator all segments = joined separator (collected (tag_share key.now) all segments)

-- the text of one to which no part gives a segment
abbrev pub text_without : Wanted → List ℕ → List (List ℕ) → List ℕ
text_without Name separator segments = joined separator segments
text_without Key separator segments = codes "value"
text_without (TagOf key) separator segments = []
