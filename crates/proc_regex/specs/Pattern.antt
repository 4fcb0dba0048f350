-- What a text stands for as a pattern: what it matches in a text, and what a replacement writes there.
use Rattle.std.specs.Prelude.{ℕ, Bool, false, List, [], chars, nat_le, is_some, Option, Some, None}
use Rattle.regex.specs.Patterns.{default_config, find_all_str, find_str, Match, Re}
use Rattle.regex.specs.Replace.{group_bytes, replaced_by}
use Rattle.regex.specs.Templates.{written_after}
use Rattle.regex_syntax.specs.Brackets.{Nested}
use Rattle.regex_syntax.specs.Grammar.{read, Names}

-- ---- which texts are patterns

-- what a text is read as: a pattern, how deep it is nested, and the names of its groups
abbrev pub Reading : Type 0
Reading = Nested Re × Names

-- what a text is read as, where no flag is set but by the text; None where no pattern is spelled so
abbrev pub reading_of : List ℕ → Option Reading
reading_of text = read default_config (chars text)

-- was a pattern read, that is nested at most 250 deep
abbrev pub is_within : Option Reading → Bool
is_within None = false
is_within (Some reading) = nat_le reading.0.depth 250

-- is a text a pattern
unfoldable pub is_pattern : List ℕ → Bool
is_pattern text = is_within (reading_of text)

-- ---- what a pattern matches

-- the leftmost match of what was read, in a text
abbrev pub first_match : Option Reading → List ℕ → Option Match
first_match None text = None
first_match (Some reading) text = find_str reading.0.value text 0

-- its matches in a text, from the left, of which none overlaps another
abbrev pub all_matches : Option Reading → List ℕ → List Match
all_matches None text = []
all_matches (Some reading) text = find_all_str reading.0.value text

-- the names of its groups, from that of the whole match on
abbrev pub names_of : Option Reading → Names
names_of None = []
names_of (Some reading) = reading.1

-- does a pattern match somewhere in a text
unfoldable pub has_match : List ℕ → List ℕ → Bool
has_match pattern text = is_some (first_match (reading_of pattern) text)

-- the matches of a pattern in a text
unfoldable pub matches_of : List ℕ → List ℕ → List Match
matches_of pattern text = all_matches (reading_of pattern) text

-- the names of a pattern's groups
unfoldable pub group_names : List ℕ → Names
group_names pattern = names_of (reading_of pattern)

-- ---- what is written in the place of a match

-- what a replacement writes there: `$1`, `$name` and `${name}` are what a group matched, `$$` is a dollar sign
abbrev pub written_at : List ℕ → List ℕ → List ℕ → Match → List ℕ
written_at pattern replacement text m = written_after (group_names pattern) (group_bytes text m) replacement 0

-- a text with each match of a pattern replaced
unfoldable pub replaced : List ℕ → List ℕ → List ℕ → List ℕ
replaced pattern replacement text =
    replaced_by (written_at pattern replacement text) text 0 (matches_of pattern text)
