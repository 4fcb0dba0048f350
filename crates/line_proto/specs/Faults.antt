-- Where faults are, and what stands there.
use Rattle.std.specs.Prelude.{◌≡◌, ◌<◌, ◌≤◌, ◌==◌, ◌&&◌, ◌⊎◌, not, ℕ, ℤ, Bool, true, false, List, ◌∷◌, ◌++◌}
use Rattle.std.specs.Prelude.{length, take, drop, slice_index, Err, if◌then◌else◌}
use Rattle.std.specs.Str.{IsUtf8, IsValidUpTo}
use Rattle.text_parts.specs.Bytes.{space, double_quote, comma, equals_sign}
use Rattle.text_parts.specs.Grammar.{Ends, HasNone, IsWritten}
use Rattle.text_parts.specs.Pairs.{pairs_text, AllAre}
use Rattle.text_parts.specs.Offsets.{word_at, Follows, is_decimal}
use Rattle.fixed_num.specs.Whole.{is_numeral, behind_sign}
use Rattle.metric.specs.declared.value.Value.{Value}
use Rattle.metric.specs.Draft.{Tag, has_too_many}
use Rattle.line_proto.specs.declared.fault.LineFault.{LineFault}
use Rattle.line_proto.specs.declared.fault.LineKind.{LineKind}
use Rattle.line_proto.specs.declared.fault.LineKind.TheVariants.{OutOfMemory, NoFields, BadKey, BadValue, BadTime}
use Rattle.line_proto.specs.declared.fault.LineKind.TheVariants.{NumberRange, NotUtf8, TooMany}
use Rattle.line_proto.specs.Kinds.{name_part, key_part, value_part}
use Rattle.line_proto.specs.Values.{last_byte, before_last_byte}
use Rattle.line_proto.specs.Grammar.{ends_word, is_space, spaces, Written, line_spelling, IsTag, IsQuoted, IsLine}
use Rattle.line_proto.specs.Reading.{Line, reading}

-- a fault is at a byte of the piece, or behind its last one
abbrev pub FaultIsWithin : Type 0
FaultIsWithin = (piece : List ℕ) (moment : ℤ) (fault : LineFault)
    → reading piece moment ≡ Err fault → fault.offset ≤ length piece

-- ---- what stands there

-- a whole number, of any size: a sign or none, and digits; one without a minus
abbrev pub is_whole : List ℕ → Bool
is_whole text = is_numeral (behind_sign text)

abbrev pub is_natural : List ℕ → Bool
is_natural text = not (slice_index text 0 == 45) && is_whole text

-- a number of a field, of any size: a whole one with an `i` behind it, one without a minus with a `u`, or a
-- decimal
abbrev pub is_number : List ℕ → Bool
is_number text =
    if last_byte text == 105 then is_whole (before_last_byte text)
    else if last_byte text == 117 then is_natural (before_last_byte text)
    else is_decimal text

-- a measurement with its tags, and spaces around them, are the whole piece
pub record IsHeadAlone (piece : List ℕ) : Type 0 where
  pub before : ℕ
  pub name : List ℕ
  pub pairs : List (List ℕ × List ℕ)
  pub after : ℕ
  pub named : List ℕ
  pub tags : List Tag
  pub is : piece ≡ spaces before ++ (name ++ (pairs_text pairs ++ spaces after))
  pub is_name : IsWritten name_part name (pairs_text pairs ++ spaces after) named
  pub are_tags : AllAre IsTag pairs (spaces after) tags

-- behind the spaces at the front a comma stands, where the measurement would begin
pub record HasNoName (piece : List ℕ) (offset : ℕ) : Type 0 where
  pub front : HasNone (λ b. not (b == space)) (take offset piece)
  pub comma : slice_index piece offset ≡ comma

-- a key stands at the offset, with an equals sign behind it
pub record HasKey (piece : List ℕ) (offset : ℕ) : Type 0 where
  pub word : List ℕ
  pub rest : List ℕ
  pub key : List ℕ
  pub is : drop offset piece ≡ word ++ equals_sign ∷ rest
  pub written : IsWritten key_part word (equals_sign ∷ rest) key

-- a comma or a space stands before the offset, and no key at it
pub record HasNoKey (piece : List ℕ) (offset : ℕ) : Type 0 where
  pub follows : Follows comma piece offset ⊎ Follows space piece offset
  pub none : HasKey piece offset → ⊥

-- a text between double quotes stands at the offset, in front of the value's end
pub record HasText (piece : List ℕ) (offset : ℕ) : Type 0 where
  pub word : List ℕ
  pub rest : List ℕ
  pub value : Value
  pub is : drop offset piece ≡ word ++ rest
  pub quoted : IsQuoted word rest value
  pub ends : Ends value_part rest

-- a double quote stands at the offset, and no text between double quotes; or no number up to the value's end
abbrev pub HasNoValue : List ℕ → ℕ → Type 0
HasNoValue piece offset =
    ((slice_index piece offset ≡ double_quote) × (HasText piece offset → ⊥))
    ⊎ (is_number (word_at ends_word piece offset) ≡ false)

-- a whole number stands before the offset, behind a space
pub record HasTimeBefore (piece : List ℕ) (offset : ℕ) : Type 0 where
  pub begins : ℕ
  pub before : begins < offset
  pub follows : Follows space piece begins
  pub whole : is_whole (word_at is_space piece begins) ≡ true

-- the piece is a written line of more than 64 tags or 256 fields
pub record HasTooMany (piece : List ℕ) (moment : ℤ) : Type 0 where
  pub written : Written
  pub line : Line
  pub is : piece ≡ line_spelling written
  pub is_line : IsLine written line moment
  pub many : has_too_many line.tags line.fields ≡ true

-- what stands in the piece, where a fault of a kind is at an offset
abbrev pub StandsAt : List ℕ → ℤ → ℕ → LineKind → Type 0
-- no reading runs out of memory
StandsAt piece moment offset OutOfMemory = ⊥
-- nothing but spaces stands behind the measurement and its tags, up to the offset, where the piece ends
StandsAt piece moment offset NoFields = (offset ≡ length piece) × IsHeadAlone piece
-- no measurement stands there at the front, or no key behind a comma or a space
StandsAt piece moment offset BadKey = HasNoName piece offset ⊎ HasNoKey piece offset
-- no value stands behind an equals sign
StandsAt piece moment offset BadValue = Follows equals_sign piece offset × HasNoValue piece offset
-- behind a space no whole number stands, up to the next space; or one stands before, and this is one word more
StandsAt piece moment offset BadTime =
    Follows space piece offset × ((is_whole (word_at is_space piece offset) ≡ false) ⊎ HasTimeBefore piece offset)
-- a number stands behind an equals sign, or a whole number behind a space
StandsAt piece moment offset NumberRange =
    (Follows equals_sign piece offset × (is_number (word_at ends_word piece offset) ≡ true))
    ⊎ (Follows space piece offset × (is_whole (word_at is_space piece offset) ≡ true))
-- the bytes before the offset are UTF-8, and those of no longer front are
StandsAt piece moment offset NotUtf8 = IsValidUpTo piece offset
-- a line is written that has too many parts
StandsAt piece moment offset TooMany = HasTooMany piece moment

-- a piece with a fault is UTF-8, unless that is the fault
pub record Says (piece : List ℕ) (moment : ℤ) (fault : LineFault) : Type 0 where
  pub utf8 : (fault.kind ≡ NotUtf8) ⊎ IsUtf8 piece
  pub stands : StandsAt piece moment fault.offset fault.kind

-- each fault's kind says what stands in the piece
abbrev pub FaultSays : Type 0
FaultSays = (piece : List ℕ) (moment : ℤ) (fault : LineFault)
    → reading piece moment ≡ Err fault → Says piece moment fault
