-- Where a part stands in a piece.
use Rattle.std.specs.Prelude.{◌≡◌, ◌+◌, ℕ, false, List, slice_range}
use Rattle.std.specs.Str.{IsCharBoundary}
use Rattle.text_parts.specs.Part.{Kind, len_at, text_at}
use Rattle.text_parts.specs.declared.span.Span.{Span}

-- the span is that of the part of this kind that begins where the span does; its text is what stands there,
-- unless it says that it has a backslash
pub record IsSpan (k : Kind) (piece : List ℕ) (span : Span) : Type 0 where
  pub behind : span.end ≡ span.start + len_at k piece span.start
  pub plain : span.escaped ≡ false → text_at k piece span.start ≡ slice_range piece span.start span.end
  pub first : IsCharBoundary piece span.start
  pub last : IsCharBoundary piece span.end
