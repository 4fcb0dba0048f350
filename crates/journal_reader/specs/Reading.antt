-- The journal that a text is, or the first place where it is none.
use Rattle.std.specs.Prelude.{ℕ, ◌+◌, ◌==◌, Bool, true, false, List, [], ◌∷◌, length, codes, Option, Some}
use Rattle.std.specs.Prelude.{None, Result, Ok, Err, if◌then◌else◌}
use Rattle.std.specs.List.{slice_split}
use Rattle.std.specs.Str.{bytes_eq}
use Rattle.text_parts.specs.Bytes.{newline}
use Rattle.text_parts.specs.Chain.{◌>>=◌}
use Rattle.text_parts.specs.Split.{is_byte}
use Rattle.journal_reader.specs.declared.fault.JournalFault.{JournalFault}
use Rattle.journal_reader.specs.declared.fault.JournalKind.{JournalKind}
use Rattle.journal_reader.specs.declared.fault.JournalKind.TheVariants.{BadHeader, BadEntry, Torn}
use Rattle.journal_reader.specs.declared.read.Journal.{Journal}
use Rattle.journal_reader.specs.declared.state.State.{State}
use Rattle.journal_reader.specs.declared.state.Stage.{Stage}
use Rattle.journal_reader.specs.declared.state.Stage.TheVariants.{Starting, Setting, Telling, Counting, Over}
use Rattle.journal_reader.specs.States.{beginning}
use Rattle.journal_reader.specs.Steps.{after}

abbrev pub fault : {A : Type 0} → JournalKind → ℕ → Result A JournalFault
fault kind place = Err (record { kind = kind; place = place })

-- the first line
abbrev pub version : List ℕ
version = codes "journal 1"

-- what a line made of what was read, or that no journal has it there
abbrev pub taken_at : ℕ → Option State → Result State JournalFault
taken_at place None = fault BadEntry place
taken_at place (Some s) = Ok s

abbrev pub is_over : Stage → Bool
is_over Over = true
is_over Starting = false
is_over Setting = false
is_over Telling = false
is_over Counting = false

-- what was read, where it is whole and nothing follows it
unfoldable pub answer_of : ℕ → ℕ → State → List ℕ → Result Journal JournalFault
answer_of size place s rest =
    if is_over s.stage then
    (if length rest == 0 then Ok (record { setup = s.setup; entries = s.entries; account = s.account })
    else fault BadEntry place)
    else fault Torn size

-- lines from a place on, the last of which has no newline: each goes on from what was read before it
unfoldable pub lines_read : ℕ → ℕ → State → List (List ℕ) → Result Journal JournalFault
lines_read size place s [] = answer_of size place s []
lines_read size place s (line ∷ []) = answer_of size place s line
lines_read size place s (line ∷ next ∷ lines) = do
  s ← taken_at place (after s line)
  lines_read size (place + length line + 1) s (next ∷ lines)

-- the version stands first, and a newline behind it
abbrev pub version_read : ℕ → List (List ℕ) → Result Journal JournalFault
version_read size [] = fault BadHeader 0
version_read size (line ∷ []) = fault BadHeader 0
version_read size (line ∷ next ∷ lines) =
    if bytes_eq line version then lines_read size (length line + 1) beginning (next ∷ lines)
    else fault BadHeader 0

-- what a text is
unfoldable pub reading : List ℕ → Result Journal JournalFault
reading text = version_read (length text) (slice_split (is_byte newline) text)

-- what a text is that begins at a place, behind the version
abbrev pub lines_left : ℕ → ℕ → List ℕ → Result Journal JournalFault
lines_left size place text = lines_read size place beginning (slice_split (is_byte newline) text)
