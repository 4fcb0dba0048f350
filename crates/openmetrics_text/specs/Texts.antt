-- The texts of samples among others, by their extents.
use Rattle.std.specs.Prelude.{◌≡◌, ◌≤◌, ◌-◌, ℕ, List, ◌++◌, length, take}
use Rattle.std.specs.List.{AllZip, between}
use Rattle.openmetrics_text.specs.Groups.{Written, written_of}
use Rattle.openmetrics_text.specs.Writing.{Point}
use Rattle.openmetrics_text.specs.declared.texts.Extent.{Extent}
use Rattle.openmetrics_text.specs.declared.texts.Row.{Row}
use Rattle.openmetrics_text.specs.declared.texts.Texts.{Texts}

-- the bytes at an extent
abbrev pub text_in : List ℕ → Extent → List ℕ
text_in bytes extent = between extent.from extent.to bytes

abbrev pub written_in : List ℕ → Row → Written
written_in bytes row = record {
  family = take row.family (text_in bytes row.line);
  series = text_in bytes row.series;
  time = row.time;
  text = text_in bytes row.line;
}

-- an extent is one of these bytes
pub record IsExtentIn (bytes : List ℕ) (extent : Extent) : Type 0 where
  pub ordered : extent.from ≤ extent.to
  pub within : extent.to ≤ length bytes

pub record IsWithin (bytes : List ℕ) (row : Row) : Type 0 where
  pub line : IsExtentIn bytes row.line
  pub series : IsExtentIn bytes row.series
  pub family : row.family ≤ row.line.to - row.line.from

-- a text stands at an extent
pub record IsAt (bytes : List ℕ) (extent : Extent) (text : List ℕ) : Type 0 where
  pub extent_in : IsExtentIn bytes extent
  pub is : text_in bytes extent ≡ text

-- the texts of a sample stand at the extents of a row
pub record IsIn (bytes : List ℕ) (row : Row) (point : Point) : Type 0 where
  pub within : IsWithin bytes row
  pub is : written_in bytes row ≡ written_of point

-- the texts are those of these samples
abbrev pub AreIn : Texts → List Point → Type 0
AreIn texts points = AllZip (IsIn texts.bytes.items) texts.rows.items points

-- texts were put behind others, and the samples are put behind those that were there
pub record Puts (old new : Texts) (points : List Point) : Type 0 where
  pub more : List ℕ
  pub grown : new.bytes.items ≡ old.bytes.items ++ more
  pub put : (before : List Point) → AreIn old before → AreIn new (before ++ points)
