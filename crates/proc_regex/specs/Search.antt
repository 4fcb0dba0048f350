-- What a matcher searches for.
use Rattle.std.specs.Prelude.{◌≡◌, ℕ, List, IsSomeAnd}
use Rattle.regex.specs.Patterns.{SameCaptures}
use Rattle.regex.specs.Strings.{matcher_pattern, regex_names, regex_pattern}
use Rattle.regex.specs.declared.string.matcher.Matcher.{Matcher}
use Rattle.regex.specs.declared.string.regex.Regex.{Regex}
use Rattle.proc_regex.specs.Pattern.{reading_of}

-- a matcher searches for a pattern: in each text it finds the matches of the pattern, with the same groups
abbrev pub SearchesFor : List ℕ → Matcher → Type 0
SearchesFor pattern matcher =
    IsSomeAnd (reading_of pattern) (λ reading. SameCaptures (matcher_pattern matcher) reading.0.value)

-- a regex is what a pattern is read as: it has the same matches, and the same names of groups
abbrev pub IsOf : List ℕ → Regex → Type 0
IsOf pattern regex = IsSomeAnd (reading_of pattern)
    (λ reading. SameCaptures (regex_pattern regex) reading.0.value × (regex_names regex ≡ reading.1))
