-- Kinds of parts, as the code gives them.
use Rattle.std.specs.Prelude.{ℕ, ◌<◌, ◌==◌, ◌&&◌, ◌||◌, Bool, slice_index, if◌then◌else◌}
use Rattle.text_parts.specs.declared.part.Part.{Part}
use Rattle.text_parts.specs.Bytes.{newline, small_n}
use Rattle.text_parts.specs.Part.{Kind}

abbrev pub ends_of : Part → ℕ → Bool
ends_of p b = b == slice_index p.ends 0 || b == slice_index p.ends 1 || b == slice_index p.ends 2

abbrev pub escapes_of : Part → ℕ → Bool
escapes_of p b = b == slice_index p.escapes 0 || b == slice_index p.escapes 1 || b == slice_index p.escapes 2

-- a hidden `n` may mean a newline
abbrev pub meaning_of : Part → ℕ → ℕ
meaning_of p b = if p.newlines && b == small_n then newline else b

abbrev pub kind_of : Part → Kind
kind_of p = record { ends = ends_of p; escapes = escapes_of p; means = meaning_of p }

-- all bytes that end the part or are hidden in it are ASCII
pub record IsAsciiPart (p : Part) : Type 0 where
  pub end_0 : slice_index p.ends 0 < 128
  pub end_1 : slice_index p.ends 1 < 128
  pub end_2 : slice_index p.ends 2 < 128
  pub escape_0 : slice_index p.escapes 0 < 128
  pub escape_1 : slice_index p.escapes 1 < 128
  pub escape_2 : slice_index p.escapes 2 < 128
