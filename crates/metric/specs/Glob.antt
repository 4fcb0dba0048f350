-- Globs: which texts a glob matches, and which glob a text spells. Texts are their characters here.
use Rattle.std.specs.Prelude.{◌≡◌, ◌==◌, ◌&&◌, ◌||◌, ℕ, Bool, true, false, not, nat_le, nat_lt, List, [], ◌∷◌}
use Rattle.std.specs.Prelude.{length, flat_map, Option, Some, None, option_map, option_and_then, IsTrue}
use Rattle.std.specs.Prelude.{Result, Ok, Err}
use Rattle.std.specs.Prelude.{if◌then◌else◌, drop}
use Rattle.std.specs.List.{list_any}
use Rattle.metric.specs.declared.glob.Element.{Element}
use Rattle.metric.specs.declared.glob.Element.TheVariants.{Run, One, Exactly, OneOf, NoneOf}
use Rattle.metric.specs.declared.glob.GlobFault.{GlobFault}
use Rattle.metric.specs.declared.glob.GlobFault.TheVariants.{OutOfMemory, BadGlob}
use Rattle.metric.specs.declared.glob_text.Mark.{Mark}
use Rattle.metric.specs.declared.glob_text.Mark.TheVariants.{Bare, Escaped}

-- ---- which texts match

-- is the character in one of the ranges, each from its low end to its high end
abbrev pub is_in : List (ℕ × ℕ) → ℕ → Bool
is_in ranges c = list_any (λ range. nat_le range.0 c && nat_le c range.1) ranges

-- does the element stand for this one character
abbrev pub stands_for : Element → ℕ → Bool
stands_for Run c = false
stands_for One c = true
stands_for (Exactly d) c = c == d
stands_for (OneOf ranges) c = is_in ranges c
stands_for (NoneOf ranges) c = not (is_in ranges c)

-- a run admits each piece of a text; another element admits one character that it stands for
abbrev pub Admits : Element → List ℕ → Type 0
Admits Run piece = Unit {0}
Admits element piece = (c : ℕ) × (piece ≡ c ∷ []) × IsTrue (stands_for element c)

-- there is one piece for each element, admitted by it
abbrev pub AdmitEach : List Element → List (List ℕ) → Type 0
AdmitEach [] [] = Unit {0}
AdmitEach (element ∷ elements) (piece ∷ pieces) = Admits element piece × AdmitEach elements pieces
AdmitEach elements pieces = ⊥

-- the text is a concatenation of pieces, one for each element, admitted by it
pub record Matches (elements : List Element) (text : List ℕ) : Type 0 where
  pub pieces : List (List ℕ)
  pub joined : flat_map (λ piece. piece) pieces ≡ text
  pub admitted : AdmitEach elements pieces

-- does a test hold of a text behind some front of it, perhaps an empty one
abbrev pub holds_behind : (List ℕ → Bool) → List ℕ → Bool
holds_behind test [] = test []
holds_behind test (c ∷ text) = test (c ∷ text) || holds_behind test text

-- the same as a test
unfoldable pub matches : List Element → List ℕ → Bool
matches [] text = length text == 0
matches (Run ∷ elements) text = holds_behind (matches elements) text
matches (element ∷ elements) [] = false
matches (element ∷ elements) (c ∷ text) = stands_for element c && matches elements text

-- the test says of each text whether it matches
abbrev pub TestsMatches : Type 0
TestsMatches = (elements : List Element) (text : List ℕ)
    → (IsTrue (matches elements text) → Matches elements text)
    × (Matches elements text → IsTrue (matches elements text))

-- ---- which glob a text spells

abbrev pub backslash : ℕ
backslash = 92

-- is it one of the braces, which no glob has unescaped
abbrev pub is_brace : ℕ → Bool
is_brace c = c == 123 || c == 125

-- one more mark in front
abbrev pub with_mark : Mark → Option (List Mark) → Option (List Mark)
with_mark mark marks = option_map (λ others. mark ∷ others) marks

-- the marks that characters spell: a backslash makes the next character stand for itself. None where a
-- backslash stands last, or a brace unescaped
unfoldable pub marks_of : List ℕ → Option (List Mark)
marks_of [] = Some []
marks_of (c ∷ []) = if c == backslash || is_brace c then None else Some (Bare c ∷ [])
marks_of (c ∷ d ∷ text) =
    if c == backslash then with_mark (Escaped d) (marks_of text)
    else if is_brace c then None
    else with_mark (Bare c) (marks_of (d ∷ text))

-- the character of a mark, escaped or not
abbrev pub character : Mark → ℕ
character (Bare c) = c
character (Escaped c) = c

-- is the mark this character, unescaped
abbrev pub is_bare : ℕ → Mark → Bool
is_bare c (Bare d) = d == c
is_bare c (Escaped d) = false

-- is it an unescaped `[`, or an unescaped `]`
abbrev pub opens : Mark → Bool
opens mark = is_bare 91 mark

abbrev pub closes : Mark → Bool
closes mark = is_bare 93 mark

-- one more range in front
abbrev pub with_range : ℕ × ℕ → Option (List (ℕ × ℕ)) → Option (List (ℕ × ℕ))
with_range range ranges = option_map (λ others. range ∷ others) ranges

-- the ranges that the marks of a set spell; a single member is a range from itself to itself. None where the
-- low end of a range is above its high end
unfoldable pub ranges_of : List Mark → Option (List (ℕ × ℕ))
ranges_of [] = Some []
ranges_of (m ∷ []) = Some ((character m, character m) ∷ [])
ranges_of (m ∷ n ∷ []) = Some ((character m, character m) ∷ (character n, character n) ∷ [])
ranges_of (m ∷ n ∷ o ∷ marks) =
    if is_bare 45 n then (
    if nat_lt (character o) (character m) then None
    else with_range (character m, character o) (ranges_of marks)
    )
    else with_range (character m, character m) (ranges_of (n ∷ o ∷ marks))

-- the set of ranges, which isn't empty
abbrev pub set_of_ranges : (List (ℕ × ℕ) → Element) → List (ℕ × ℕ) → Option Element
set_of_ranges made [] = None
set_of_ranges made (range ∷ ranges) = Some (made (range ∷ ranges))

-- the set that the marks between its brackets spell: those of its members, or with `!` in front those that
-- are none
abbrev pub set_of : List Mark → Option Element
set_of [] = None
set_of (mark ∷ marks) =
    if is_bare 33 mark then option_and_then (set_of_ranges NoneOf) (ranges_of marks)
    else option_and_then (set_of_ranges OneOf) (ranges_of (mark ∷ marks))

-- the element that one mark spells outside of a set
abbrev pub element_of : Mark → Element
element_of mark =
    if is_bare 42 mark then Run
    else if is_bare 63 mark then One
    else Exactly (character mark)

-- one more element in front
abbrev pub with_element : Element → Option (List Element) → Option (List Element)
with_element element elements = option_map (λ others. element ∷ others) elements

-- a set and what is behind it
abbrev pub with_set : List Mark × List Element → Option (List Element)
with_set inside = option_map (λ set. set ∷ inside.1) (set_of inside.0)

unfoldable mutual
  -- the elements that marks spell; None where they spell no glob
  pub elements_of : List Mark → Option (List Element)
  elements_of [] = Some []
  elements_of (mark ∷ marks) =
      if opens mark then option_and_then with_set (set_and_rest marks)
      else with_element (element_of mark) (elements_of marks)

  -- the marks up to the end of a set, its first unescaped `]`, and the elements behind it; None where it has
  -- no end, or what is behind it spells no glob
  pub set_and_rest : List Mark → Option (List Mark × List Element)
  set_and_rest [] = None
  set_and_rest (mark ∷ marks) =
      if closes mark then option_map (λ elements. ([], elements)) (elements_of marks)
      else option_map (λ inside. (mark ∷ inside.0, inside.1)) (set_and_rest marks)

-- the glob that a text spells, or None
abbrev pub glob_of : List ℕ → Option (List Element)
glob_of text = option_and_then elements_of (marks_of text)

-- BadGlob exactly where no glob is spelled, but that memory may be wanting
abbrev pub Reads : {X : Type 0} → Result X GlobFault → Option X → Type 0
Reads (Ok x) wanted = wanted ≡ Some x
Reads (Err OutOfMemory) wanted = Unit {0}
Reads (Err BadGlob) wanted = wanted ≡ None

-- what is read of marks: an element, so many of the marks behind the first, and what the others spell; or no
-- glob
abbrev pub Begins : Option (Element × ℕ) → List Mark → Option (List Element) → Type 0
Begins None inside wanted = wanted ≡ None
Begins (Some read) inside wanted = wanted ≡ with_element read.0 (elements_of (drop read.1 inside))
