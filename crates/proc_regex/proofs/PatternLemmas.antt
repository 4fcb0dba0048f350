-- From what a regex and a matcher say of themselves to what the text of a pattern stands for.
use Rattle.std.proofs.Common.{◌≡◌, ◌≢◌, ◌≤◌, ◌<◌, ◌⊎◌, ℕ, true, false, List, [], ◌∷◌, ◌++◌, map, length, get_or}
use Rattle.std.proofs.Common.{Option, IsSomeAnd, Some, None, inl, inr, ⊎_elim, is_some, slice_range}
use Rattle.std.proofs.Common.{refl, sym, ap, ap₂, ◌∙◌, subst, arith}
use Rattle.std.specs.Prelude.{IfSome, if◌then◌else◌, ◌==◌, ◌*◌, ◌+◌}
use Rattle.regex.specs.Patterns.{default_config, find_str, find_all_str, Match, Re, Reads, Refuses, SameCaptures}
use Rattle.regex.specs.Replace.{bytes_of, group_bytes, replaced_by}
use Rattle.regex.specs.Strings.{matcher_pattern, regex_config, regex_names, regex_pattern, regex_source}
use Rattle.regex.specs.Strings.{IsReadFromSource}
use Rattle.regex.specs.Templates.{written_after}
use Rattle.regex.specs.Writes.{both}
use Rattle.regex.specs.declared.string.matcher.Matcher.{Matcher}
use Rattle.regex.specs.declared.string.regex.Regex.{Regex}
use Rattle.regex.proofs.ForCallers.{find_all_alike, is_match_alike, spans}
use Rattle.regex_syntax.specs.Grammar.{Names}
use Rattle.regex_syntax.specs.declared.error.ErrorKind.{ErrorKind}
use Rattle.regex_syntax.specs.declared.error.ErrorKind.TheVariants.{NestLimitExceeded, OutOfMemory}
use Rattle.proc_regex.specs.Pattern.{all_matches, first_match, group_names, has_match, is_pattern, is_within}
use Rattle.proc_regex.specs.Pattern.{matches_of, names_of, reading_of, replaced, written_at, Reading}
use Rattle.proc_regex.specs.Search.{IsOf, SearchesFor}

-- ---- what a search finds

abbrev AreBytes : List ℕ → Type 0
AreBytes text = (k : ℕ) → get_or text k 0 < 256

-- a pattern has the matches of what was read, with the same groups
abbrev MatchesAs : Option Reading → Re → Type 0
MatchesAs reading re = IsSomeAnd reading (λ r. SameCaptures re r.0.value)

first_by : (reading : Option Reading) (re : Re) (text : List ℕ) → MatchesAs reading re → AreBytes text
    → is_some (find_str re text 0) ≡ is_some (first_match reading text)
first_by None re text h bytes = absurd h
first_by (Some r) re text h bytes = is_match_alike h text bytes true 0

pub searched : (pattern : List ℕ) (matcher : Matcher) (text : List ℕ) → SearchesFor pattern matcher → AreBytes text
    → is_some (find_str (matcher_pattern matcher) text 0) ≡ has_match pattern text
unfolding has_match
searched pattern matcher text h bytes = first_by (reading_of pattern) (matcher_pattern matcher) text h bytes

all_by : (reading : Option Reading) (re : Re) (text : List ℕ) → MatchesAs reading re → AreBytes text
    → map spans (find_all_str re text) ≡ map spans (all_matches reading text)
all_by None re text h bytes = absurd h
all_by (Some r) re text h bytes = find_all_alike h text bytes true

-- a matcher that searches for the same searches for the pattern
pub still_searches : (pattern : List ℕ) (old new : Matcher) → SearchesFor pattern old
    → matcher_pattern new ≡ matcher_pattern old → SearchesFor pattern new
still_searches pattern old new h e = subst (λ (re : Re). MatchesAs (reading_of pattern) re) (sym e) h

-- ---- what is written in the place of matches that are seen alike

abbrev Seen : Type 0
Seen = ℕ × ℕ × (ℕ → Option ℕ)

-- what a group matched, by what is seen of a match
abbrev bytes_at : List ℕ → Seen → ℕ → List ℕ
bytes_at text seen n =
    bytes_of text (if n == 0 then Some (seen.0, seen.1) else both (seen.2 (2 * n)) (seen.2 (2 * n + 1)))

same_written : (names : Names) (replacement text : List ℕ) (x y : Match) → spans x ≡ spans y
    → written_after names (group_bytes text x) replacement 0 ≡ written_after names (group_bytes text y) replacement 0
same_written names replacement text x y e =
    ap (λ (s : Seen). written_after names (bytes_at text s) replacement 0) e

module _ (written : Match → List ℕ) (text : List ℕ)
    (same : (x y : Match) → spans x ≡ spans y → written x ≡ written y) where
  replaced_alike : (xs ys : List Match) → map spans xs ≡ map spans ys → (at : ℕ)
      → replaced_by written text at xs ≡ replaced_by written text at ys
  unfolding replaced_by
  replaced_alike [] [] e at = refl
  replaced_alike [] (y ∷ ys) e at = absurd cc
  replaced_alike (x ∷ xs) [] e at = absurd cc
  replaced_alike (x ∷ xs) (y ∷ ys) e at =
      let head : spans x ≡ spans y = cc in
      let tail : map spans xs ≡ map spans ys = cc in
      ap₂ ◌++◌ (ap₂ (λ (s : Seen) bytes. slice_range text at s.0 ++ bytes) head (same x y head))
      (replaced_alike xs ys tail x.trace.end ∙ ap (λ (s : Seen). replaced_by written text s.1 ys) head)

names_by : (reading : Option Reading) (re : Re) (names : Names)
    → IsSomeAnd reading (λ r. SameCaptures re r.0.value × (names ≡ r.1)) → names ≡ names_of reading
names_by None re names h = absurd h
names_by (Some r) re names h = h.1

-- what is written by some names, in the place of each of some matches
abbrev by_names : List ℕ → List ℕ → List Match → Names → List ℕ
by_names replacement text found names =
    replaced_by (λ m. written_after names (group_bytes text m) replacement 0) text 0 found

-- what is written by the names of the regex, in the place of what the matcher finds
pub written : (pattern replacement : List ℕ) (regex : Regex) (matcher : Matcher) (text out : List ℕ)
    → IsOf pattern regex → SearchesFor pattern matcher → AreBytes text
    → out ≡ by_names replacement text (find_all_str (matcher_pattern matcher) text) (regex_names regex)
    → out ≡ replaced pattern replacement text
unfolding replaced matches_of group_names
written pattern replacement regex matcher text out of h bytes e =
    let reading = reading_of pattern in
    let names : regex_names regex ≡ group_names pattern =
    names_by reading (regex_pattern regex) (regex_names regex) of in
    e ∙ ap (by_names replacement text (find_all_str (matcher_pattern matcher) text)) names
    ∙ replaced_alike (written_at pattern replacement text) text
    (same_written (group_names pattern) replacement text) _ _ (all_by reading (matcher_pattern matcher) text h bytes) 0

-- ---- what is read in a text

within : (reading : Option Reading) (re : Re) (names : Names) (count : ℕ)
    → IsSomeAnd reading (λ r. (r.0.depth ≤ 250) × SameCaptures re r.0.value × (names ≡ r.1) × (count ≤ length names))
    → IsSomeAnd reading (λ r. SameCaptures re r.0.value × (names ≡ r.1)) × (is_within reading ≡ true)
within None re names count h = absurd h
within (Some r) re names count h = ((h.1, h.2), grind (arith, h.0))

pub read_from : (pattern : List ℕ) (regex : Regex) → regex_source regex ≡ pattern
    → regex_config regex ≡ default_config → IsReadFromSource regex
    → IsOf pattern regex × (is_pattern pattern ≡ true)
unfolding Reads is_pattern
read_from pattern regex source config h =
    within (reading_of pattern) (regex_pattern regex) (regex_names regex) _ (rw (source, config) at h)

beyond : (reading : Option Reading) (kind : ErrorKind)
    → (reading ≡ None) ⊎ ((kind ≡ NestLimitExceeded) × IfSome reading (λ r. 250 < r.0.depth))
    → is_within reading ≡ false
beyond None kind h = refl
beyond (Some r) kind (inl e) = absurd cc
beyond (Some r) kind (inr h) = grind (arith, h.1)

pub refused : (pattern : List ℕ) (kind : ErrorKind) → Refuses default_config pattern kind → kind ≢ OutOfMemory
    → is_pattern pattern ≡ false
unfolding Refuses is_pattern
refused pattern kind h some = ⊎_elim (λ none. absurd (some none)) (beyond (reading_of pattern) kind) h
