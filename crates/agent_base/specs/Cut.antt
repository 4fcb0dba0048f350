-- A text cut into pieces: lines, or expositions.
use Rattle.std.specs.Prelude.{◌≡◌, ℕ, ◌+◌, ◌-◌, ◌<◌, Bool, true, false, ◌||◌, ◌==◌, nat_lt, List, [], ◌∷◌}
use Rattle.std.specs.Prelude.{◌++◌, length, take, drop, slice_index, codes, if◌then◌else◌}
use Rattle.std.specs.List.{list_any}
use Rattle.std.specs.Str.{bytes_eq}
use Rattle.agent_base.specs.declared.piece.CutKind.{CutKind}
use Rattle.agent_base.specs.declared.piece.CutKind.TheVariants.{Lines, Expositions}

-- a piece of a text: its content, or that it is too long
pub data Cut : Type 0 where
  TooLong : Cut
  Whole : List ℕ → Cut

-- whether a line ends a piece: each line does, or the line `# EOF` alone
unfoldable pub ends_piece : CutKind → List ℕ → Bool
ends_piece Lines line = true
ends_piece Expositions line = bytes_eq line (codes "# EOF")

-- how many bytes a piece has at most before the newline that ends it: of an exposition that newline counts
abbrev pub most_before : CutKind → ℕ
most_before Lines = 65536
most_before Expositions = 4194303

-- how many bytes a piece has at most that no newline ends
abbrev pub most_bytes : CutKind → ℕ
most_bytes Lines = 65536
most_bytes Expositions = 4194304

-- a line without the carriage return at its end
abbrev pub without_return : List ℕ → List ℕ
without_return line = if slice_index line (length line - 1) == 13 then take (length line - 1) line else line

-- the content of a piece, by the bytes before the newline that ends it: a line without the carriage return at
-- its end, or an exposition with its newline
abbrev pub content : CutKind → List ℕ → List ℕ
content Lines front = without_return front
content Expositions front = front ++ 10 ∷ []

-- the piece of the bytes before the newline that ends it
abbrev pub ended : CutKind → List ℕ → Cut
ended kind front = if nat_lt (most_before kind) (length front) then TooLong else Whole (content kind front)

-- the piece of the bytes behind the last end of a piece, as they stand; none where there are no bytes
abbrev pub unended : CutKind → List ℕ → List Cut
unended kind rest = if length rest == 0 then [] else
    ((if nat_lt (most_bytes kind) (length rest) then TooLong else Whole rest) ∷ [])

-- the pieces of a text, where a piece has begun with some bytes, and its last line with some of these
unfoldable pub cut_from : CutKind → List ℕ → List ℕ → List ℕ → List Cut
cut_from kind piece line [] = unended kind piece
cut_from kind piece line (b ∷ bs) =
    if b == 10 then (if ends_piece kind line then ended kind piece ∷ cut_from kind [] [] bs else
    cut_from kind (piece ++ b ∷ []) [] bs)
    else cut_from kind (piece ++ b ∷ []) (line ++ b ∷ []) bs

-- the pieces of a text
abbrev pub cut : CutKind → List ℕ → List Cut
cut kind bytes = cut_from kind [] [] bytes

-- the pieces behind the next line that ends a piece, where a line has begun with some bytes
unfoldable pub passed_from : CutKind → List ℕ → List ℕ → List Cut
passed_from kind line [] = []
passed_from kind line (b ∷ bs) =
    if b == 10 then (if ends_piece kind line then cut kind bs else passed_from kind [] bs)
    else passed_from kind (line ++ b ∷ []) bs

-- the pieces behind the next line that ends a piece
abbrev pub passed : CutKind → List ℕ → List Cut
passed kind bytes = passed_from kind [] bytes

-- whether a newline is among the bytes
abbrev pub has_newline : List ℕ → Bool
has_newline bytes = list_any (λ b. b == 10) bytes

-- no newline is among the bytes
abbrev pub NoNewline : List ℕ → Type 0
NoNewline bytes = has_newline bytes ≡ false

-- the first newline of the bytes stands behind i of them
pub record FirstNewline (bytes : List ℕ) (i : ℕ) : Type 0 where
  pub within : i < length bytes
  pub clean : NoNewline (take i bytes)
  pub stops : drop i bytes ≡ 10 ∷ drop (i + 1) bytes

-- whether a line that ends a piece stands among the bytes, with its newline, where a line has begun with some
-- bytes
unfoldable pub has_end : CutKind → List ℕ → List ℕ → Bool
has_end kind line [] = false
has_end kind line (b ∷ bs) = if b == 10 then ends_piece kind line || has_end kind [] bs else
    has_end kind (line ++ b ∷ []) bs

-- a line that ends a piece is among the bytes, with its newline
abbrev pub HasEnd : CutKind → List ℕ → Type 0
HasEnd kind bytes = has_end kind [] bytes ≡ true

-- no such line is among the bytes
abbrev pub NoEnd : CutKind → List ℕ → Type 0
NoEnd kind bytes = has_end kind [] bytes ≡ false

-- the last line, which no newline ends, of the bytes behind some of a line
unfoldable pub last_line : List ℕ → List ℕ → List ℕ
last_line line [] = line
last_line line (b ∷ bs) = if b == 10 then last_line [] bs else last_line (line ++ b ∷ []) bs

-- the newline of the first line that ends a piece stands behind i bytes
pub record FirstEnd (kind : CutKind) (bytes : List ℕ) (i : ℕ) : Type 0 where
  pub within : i < length bytes
  pub clean : NoEnd kind (take i bytes)
  pub stops : drop i bytes ≡ 10 ∷ drop (i + 1) bytes
  pub ends : ends_piece kind (last_line [] (take i bytes)) ≡ true

-- no end of a piece is among some bytes, and this is their last line, which no newline ends
pub record Scanned (kind : CutKind) (bytes line : List ℕ) : Type 0 where
  pub clean : NoEnd kind bytes
  pub begun : last_line [] bytes ≡ line
