-- Where faults are, and what stands there.
use Rattle.std.specs.Prelude.{◌≡◌, ◌≤◌, ◌+◌, ◌⊎◌, ℕ, ℤ, true, false, List, [], ◌∷◌, ◌++◌, length}
use Rattle.std.specs.Prelude.{drop, slice_index, None, Ok, Err}
use Rattle.std.specs.List.{list_any}
use Rattle.std.specs.Str.{IsUtf8, IsValidUpTo}
use Rattle.text_parts.specs.Bytes.{colon, at_sign, bar, hash, comma}
use Rattle.text_parts.specs.Grammar.{HasNone}
use Rattle.text_parts.specs.Pairs.{pair_text}
use Rattle.text_parts.specs.Offsets.{word_at, Follows, is_decimal}
use Rattle.text_parts.specs.Split.{is_byte}
use Rattle.fixed_num.specs.Fixed.{read_as}
use Rattle.metric.specs.Draft.{Tag}
use Rattle.statsd_text.specs.declared.fault.StatsdFault.{StatsdFault}
use Rattle.statsd_text.specs.declared.fault.StatsdKind.{StatsdKind}
use Rattle.statsd_text.specs.declared.fault.StatsdKind.TheVariants.{OutOfMemory, NoColon, BadType, BadValue}
use Rattle.statsd_text.specs.declared.fault.StatsdKind.TheVariants.{BadRate, BadTag, NumberRange, NotUtf8, BadName}
use Rattle.statsd_text.specs.declared.fault.StatsdKind.TheVariants.{TooMany}
use Rattle.statsd_text.specs.Said.{type_of, is_positive}
use Rattle.statsd_text.specs.Sections.{is_marker}
use Rattle.statsd_text.specs.declared.said.Said.{Said}
use Rattle.statsd_text.specs.Grammar.{ends_name, ends_value, LaterTag, later_spelling, IsHeadTag, IsLaterTag, IsLine}
use Rattle.statsd_text.specs.Grammar.{Written, line_spelling, metrics_of}
use Rattle.statsd_text.specs.Reading.{has_too_many, reading}

-- a fault is at a byte of the piece, or behind its last one
abbrev pub FaultIsWithin : Type 0
FaultIsWithin = (piece : List ℕ) (moment : ℤ) (fault : StatsdFault)
    → reading piece moment ≡ Err fault → fault.offset ≤ length piece

-- ---- what stands there

-- what stands behind a part: nothing, a colon, or the `|#` before tags
abbrev pub EndsPart : List ℕ → Type 0
EndsPart [] = Unit {0}
EndsPart (b ∷ bs) = (b ≡ colon) ⊎ (is_marker (b ∷ bs) ≡ true)

-- a part without a `|`, behind a colon, ends at the offset
pub record HasNoType (piece : List ℕ) (offset : ℕ) : Type 0 where
  pub begins : ℕ
  pub text : List ℕ
  pub rest : List ℕ
  pub follows : Follows colon piece begins
  pub is : drop begins piece ≡ text ++ rest
  pub stands : begins + length text ≡ offset
  pub none : HasNone ends_value text
  pub ends : EndsPart rest

-- an `@` and a decimal above 0
abbrev pub IsRateText : List ℕ → Type 0
IsRateText text =
    (digits : List ℕ) × (n : ℤ) × (text ≡ at_sign ∷ digits) × (read_as digits ≡ Ok n) × (is_positive n ≡ true)

-- what stands between the `|` at the offset and the end of the part is no rate
pub record HasNoRate (piece : List ℕ) (offset : ℕ) : Type 0 where
  pub text : List ℕ
  pub rest : List ℕ
  pub is : drop offset piece ≡ bar ∷ (text ++ rest)
  pub ends : EndsPart rest
  pub none : IsRateText text → ⊥

-- behind the value at the offset and its type an `@` and a decimal stand
pub record HasRate (piece : List ℕ) (offset : ℕ) : Type 0 where
  pub name : List ℕ
  pub digits : List ℕ
  pub rest : List ℕ
  pub is : drop offset piece ≡ word_at ends_value piece offset ++ bar ∷ (name ++ bar ∷ at_sign ∷ (digits ++ rest))
  pub no_bar : HasNone ends_value name
  pub decimal : is_decimal digits ≡ true
  pub ends : EndsPart rest

-- what a tag in the name is, and what one behind `|#` is
abbrev pub IsHeadText : List ℕ → Type 0
IsHeadText text = (tag : Tag) × IsHeadTag tag × (text ≡ pair_text tag)

abbrev pub IsLaterText : List ℕ → Type 0
IsLaterText text = (tag : LaterTag) × IsLaterTag tag × (text ≡ later_spelling tag)

-- behind a comma no tag of the name stands, up to the next comma or colon
pub record HasNoHeadTag (piece : List ℕ) (offset : ℕ) : Type 0 where
  pub follows : Follows comma piece offset
  pub none : IsHeadText (word_at ends_name piece offset) → ⊥

-- behind a comma, or behind `|#`, no tag stands, up to the next comma or the end
pub record HasNoLaterTag (piece : List ℕ) (offset : ℕ) : Type 0 where
  pub follows : Follows comma piece offset ⊎ Follows hash piece offset
  pub none : IsLaterText (word_at (is_byte comma) piece offset) → ⊥

-- the piece is a written line of which a metric has more than 64 tags
pub record HasTooMany (piece : List ℕ) : Type 0 where
  pub written : Written
  pub said : List Said
  pub moment : ℤ
  pub is : piece ≡ line_spelling written
  pub line : IsLine written said
  pub many : list_any has_too_many (metrics_of written said moment) ≡ true

-- what stands in the piece, where a fault of a kind is at an offset
abbrev pub StandsAt : List ℕ → ℕ → StatsdKind → Type 0
-- no reading runs out of memory
StandsAt piece offset OutOfMemory = ⊥
-- the piece has no colon
StandsAt piece offset NoColon = HasNone (is_byte colon) piece
-- a part without a `|` ends there, or behind a `|` no type stands, up to the next colon or `|`
StandsAt piece offset BadType =
    HasNoType piece offset ⊎ (Follows bar piece offset × (type_of (word_at ends_value piece offset) ≡ None))
-- behind a colon no decimal stands, up to the next colon or `|`
StandsAt piece offset BadValue = Follows colon piece offset × (is_decimal (word_at ends_value piece offset) ≡ false)
-- a `|` stands there, and no rate behind it
StandsAt piece offset BadRate = HasNoRate piece offset
-- no tag stands where one is written
StandsAt piece offset BadTag = HasNoHeadTag piece offset ⊎ HasNoLaterTag piece offset
-- behind a colon a decimal stands, or a value whose rate is one
StandsAt piece offset NumberRange =
    Follows colon piece offset × ((is_decimal (word_at ends_value piece offset) ≡ true) ⊎ HasRate piece offset)
-- the bytes before the offset are UTF-8, and those of no longer front are
StandsAt piece offset NotUtf8 = IsValidUpTo piece offset
-- the piece begins with a comma or a colon
StandsAt piece offset BadName = (slice_index piece 0 ≡ comma) ⊎ (slice_index piece 0 ≡ colon)
-- a line is written that makes too many tags
StandsAt piece offset TooMany = HasTooMany piece

-- a piece with a fault is UTF-8, unless that is the fault
pub record Says (piece : List ℕ) (fault : StatsdFault) : Type 0 where
  pub utf8 : (fault.kind ≡ NotUtf8) ⊎ IsUtf8 piece
  pub stands : StandsAt piece fault.offset fault.kind

-- each fault's kind says what stands in the piece
abbrev pub FaultSays : Type 0
FaultSays = (piece : List ℕ) (moment : ℤ) (fault : StatsdFault)
    → reading piece moment ≡ Err fault → Says piece fault
