-- The words of a line, and what one word says.
use Rattle.std.specs.Prelude.{ℕ, ℤ, ◌^◌, Bool, true, false, List, [], ◌∷◌, nat_lt, Option, Some, None, Result}
use Rattle.std.specs.Prelude.{Ok, Err, if◌then◌else◌}
use Rattle.std.specs.Fmt.{decimal, signed_decimal}
use Rattle.std.specs.List.{slice_split}
use Rattle.std.specs.Str.{bytes_eq}
use Rattle.fixed_num.specs.declared.fixed.NumFault.{NumFault}
use Rattle.fixed_num.specs.Whole.{uint_read_as, int_read_as}
use Rattle.text_parts.specs.Bytes.{space}
use Rattle.text_parts.specs.Split.{is_byte, first_part}

-- what follows, where something is there
infixl 10 ◌>>=◌
abbrev pub ◌>>=◌ : {A B : Type 0} → Option A → (A → Option B) → Option B
(Some x) >>= next = next x
None >>= next = None

-- the first of two that is there
abbrev pub first_of : {A : Type 0} → Option A → Option A → Option A
first_of (Some x) other = Some x
first_of None other = other

-- what is there, where the test holds
abbrev pub where_true : {A : Type 0} → Bool → Option A → Option A
where_true holds x = if holds then x else None

-- parts of a text, in order
abbrev pub Parts : Type 0
Parts = List (List ℕ)

-- the words of a line: what stands between its spaces
abbrev pub words_of : List ℕ → Parts
words_of line = slice_split (is_byte space) line

-- what the first of the words says, and the words behind it
abbrev pub taken : {A : Type 0} → (List ℕ → Option A) → Parts → Option (A × Parts)
taken says [] = None
taken says (word ∷ words) = do
  x ← says word
  Some (x, words)

-- the words behind the first one, where that is this text
unfoldable pub behind : List ℕ → Parts → Option Parts
behind text [] = None
behind text (word ∷ words) = where_true (bytes_eq word text) (Some words)

-- whether a word is the first of two texts, where it is one of them
unfoldable pub either_of : List ℕ → List ℕ → List ℕ → Option Bool
either_of first second word =
    if bytes_eq word first then Some true
    else if bytes_eq word second then Some false
    else None

abbrev pub is_none_left : Parts → Bool
is_none_left [] = true
is_none_left (word ∷ words) = false

-- this, where no word is left
abbrev pub at_end : {A : Type 0} → A → Parts → Option A
at_end x words = where_true (is_none_left words) (Some x)

-- what each part says, where all say something
unfoldable pub each : {A : Type 0} → (List ℕ → Option A) → Parts → Option (List A)
each says [] = Some []
each says (part ∷ parts) = do
  first ← says part
  others ← each says parts
  Some (first ∷ others)

abbrev pub none_behind : {A : Type 0} → A → Option (List ℕ) → Option (A × List ℕ)
none_behind front None = None
none_behind front (Some rest) = Some (front, rest)

-- what stands before the first such byte and behind it, where there is one
unfoldable pub cut : ℕ → List ℕ → Option (List ℕ × List ℕ)
cut byte text = none_behind (first_part byte text).0 (first_part byte text).1

-- ---- numbers, each in its one spelling

-- the number that was read of a word, where the word is its spelling
abbrev pub spelled : {A : Type 0} → (A → List ℕ) → List ℕ → Result A NumFault → Option A
spelled spelling word (Ok n) = where_true (bytes_eq (spelling n) word) (Some n)
spelled spelling word (Err fault) = None

-- the number below 2^64 whose decimal the word is
unfoldable pub number : List ℕ → Option ℕ
number word = spelled decimal word (uint_read_as word)

-- the number below 2^32 whose decimal the word is
unfoldable pub small_number : List ℕ → Option ℕ
small_number word = do
  n ← number word
  where_true (nat_lt n (2 ^ 32)) (Some n)

-- the number from -2^63 on and below 2^63 whose decimal the word is
unfoldable pub signed_number : List ℕ → Option ℤ
signed_number word = spelled signed_decimal word (int_read_as word)

-- the parts of what is left of a text; where nothing is left there are none
abbrev pub parts_left : ℕ → Option (List ℕ) → Parts
parts_left separator None = []
parts_left separator (Some text) = slice_split (is_byte separator) text
