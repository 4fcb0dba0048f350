-- Where faults are, and what stands there.
use Rattle.std.specs.Prelude.{◌≡◌, ◌≢◌, ◌≤◌, ◌⊎◌, ℕ, ℤ, Bool, true, false, List, [], ◌∷◌, length, Err}
use Rattle.std.specs.Str.{IsUtf8, IsValidUpTo}
use Rattle.text_parts.specs.Offsets.{is_decimal}
use Rattle.text_parts.specs.Split.{PartAt}
use Rattle.text_parts.specs.Words.{words_of}
use Rattle.format_words.specs.Template.{Shape}
use Rattle.graphite_text.specs.declared.fault.GraphiteFault.{GraphiteFault}
use Rattle.graphite_text.specs.declared.fault.GraphiteKind.{GraphiteKind}
use Rattle.graphite_text.specs.declared.fault.GraphiteKind.TheVariants.{OutOfMemory, FieldCount, BadPath, BadValue}
use Rattle.graphite_text.specs.declared.fault.GraphiteKind.TheVariants.{BadTime, NumberRange, NotUtf8, TooMany}
use Rattle.graphite_text.specs.Path.{Path}
use Rattle.graphite_text.specs.Grammar.{path_spelling, IsPathText, Written, line_spelling, IsLine, said_in}
use Rattle.graphite_text.specs.Grammar.{has_too_many}
use Rattle.graphite_text.specs.Reading.{reading}

-- a fault is at a byte of the piece, or behind its last one
abbrev pub FaultIsWithin : Type 0
FaultIsWithin = (templates : List Shape) (separator piece : List ℕ) (moment : ℤ) (fault : GraphiteFault)
    → reading templates separator piece moment ≡ Err fault → fault.offset ≤ length piece

-- ---- what stands there

-- the words of a piece: a path, a value and perhaps a time
pub record HasWords (piece : List ℕ) (path value : PartAt) (others : List PartAt) : Type 0 where
  pub are : words_of (0, piece) ≡ path ∷ value ∷ others
  pub few : length others ≤ 1

-- a text that is a path
abbrev pub IsPath : List ℕ → Type 0
IsPath text = (path : Path) × IsPathText path × (text ≡ path_spelling path)

-- the first word is no path
pub record HasNoPath (piece : List ℕ) : Type 0 where
  pub path : PartAt
  pub value : PartAt
  pub others : List PartAt
  pub words : HasWords piece path value others
  pub none : IsPath path.1 → ⊥

-- the second word stands at the offset; it is a decimal, or it is none
pub record HasValue (piece : List ℕ) (offset : ℕ) (decimal : Bool) : Type 0 where
  pub path : PartAt
  pub value : PartAt
  pub others : List PartAt
  pub words : HasWords piece path value others
  pub stands : value.0 ≡ offset
  pub is : is_decimal value.1 ≡ decimal

-- the third word stands at the offset; it is a decimal, or it is none
pub record HasTime (piece : List ℕ) (offset : ℕ) (decimal : Bool) : Type 0 where
  pub path : PartAt
  pub value : PartAt
  pub time : PartAt
  pub words : HasWords piece path value (time ∷ [])
  pub stands : time.0 ≡ offset
  pub is : is_decimal time.1 ≡ decimal

-- the piece is a written line whose metric has more than 64 tags
pub record HasTooMany (templates : List Shape) (separator piece : List ℕ) (moment : ℤ) : Type 0 where
  pub written : Written
  pub value : ℤ
  pub time : ℤ
  pub is : piece ≡ line_spelling written
  pub line : IsLine written moment value time
  pub many : has_too_many (said_in templates separator written value time) ≡ true

-- what stands in the piece, where a fault of a kind is at an offset
abbrev pub StandsAt : List Shape → List ℕ → List ℕ → ℤ → ℕ → GraphiteKind → Type 0
-- no reading runs out of memory
StandsAt templates separator piece moment offset OutOfMemory = ⊥
-- the piece has neither two nor three words
StandsAt templates separator piece moment offset FieldCount =
    (length (words_of (0, piece)) ≢ 2) × (length (words_of (0, piece)) ≢ 3)
-- it has, and the first is no path
StandsAt templates separator piece moment offset BadPath = HasNoPath piece
-- the second word is no decimal
StandsAt templates separator piece moment offset BadValue = HasValue piece offset false
-- the third word is no decimal
StandsAt templates separator piece moment offset BadTime = HasTime piece offset false
-- the second word is a decimal, or the third is
StandsAt templates separator piece moment offset NumberRange = HasValue piece offset true ⊎ HasTime piece offset true
-- the bytes before the offset are UTF-8, and those of no longer front are
StandsAt templates separator piece moment offset NotUtf8 = IsValidUpTo piece offset
-- a line is written that makes too many tags
StandsAt templates separator piece moment offset TooMany = HasTooMany templates separator piece moment

-- a piece with a fault is UTF-8, unless that is the fault
pub record Says (templates : List Shape) (separator piece : List ℕ) (moment : ℤ) (fault : GraphiteFault) : Type 0 where
  pub utf8 : (fault.kind ≡ NotUtf8) ⊎ IsUtf8 piece
  pub stands : StandsAt templates separator piece moment fault.offset fault.kind

-- each fault's kind says what stands in the piece
abbrev pub FaultSays : Type 0
FaultSays = (templates : List Shape) (separator piece : List ℕ) (moment : ℤ) (fault : GraphiteFault)
    → reading templates separator piece moment ≡ Err fault → Says templates separator piece moment fault
