-- The marks of a text that is written, as the code gives them.
use Rattle.std.specs.Prelude.{ℕ, ◌==◌, ◌||◌, Bool, slice_index, if◌then◌else◌}
use Rattle.text_parts.specs.declared.escapes.Marks.{Marks}
use Rattle.text_parts.specs.Escaped.{Escapes}

abbrev pub is_mark_of : Marks → ℕ → Bool
is_mark_of m b = b == slice_index m.bytes 0 || b == slice_index m.bytes 1 || b == slice_index m.bytes 2

abbrev pub written_of : Marks → ℕ → ℕ
written_of m b =
    if b == slice_index m.bytes 0 then slice_index m.written 0
    else if b == slice_index m.bytes 1 then slice_index m.written 1
    else slice_index m.written 2

abbrev pub escapes_of : Marks → Escapes
escapes_of m = record { is_mark = is_mark_of m; written = written_of m }
