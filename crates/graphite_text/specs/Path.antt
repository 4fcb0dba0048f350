-- Paths: the segments of a bucket, and tags.
use Rattle.std.specs.Prelude.{◌<◌, ℕ, List, length, Result, Ok}
use Rattle.text_parts.specs.Chain.{◌>>=◌}
use Rattle.text_parts.specs.Split.{first_part}
use Rattle.metric.specs.Draft.{Tag}
use Rattle.format_words.specs.declared.fault.ShapeFault.{ShapeFault}
use Rattle.format_words.specs.Segments.{segments_of, pairs_of, AreFilled, AreKeyed}
use Rattle.graphite_text.specs.Bytes.{semicolon}

-- a path: the segments of its bucket, and its tags
pub record Path : Type 0 where
  pub segments : List (List ℕ)
  pub tags : List Tag

-- a path is cut at each `;`: first the bucket, then tags
unfoldable pub path_of : List ℕ → Result Path ShapeFault
path_of text = do
  segments ← segments_of (first_part semicolon text).0
  tags ← pairs_of semicolon (first_part semicolon text).1
  Ok (record { segments = segments; tags = tags })

-- there is a segment, and no segment and no key is empty
pub record IsPath (path : Path) : Type 0 where
  pub some : 0 < length path.segments
  pub filled : AreFilled path.segments
  pub keyed : AreKeyed path.tags
