-- Samples that are gathered by family, series and time, as the code has them.
use Rattle.std.specs.Prelude.{ℕ, ℤ, List, [], ◌∷◌, ◌++◌, map, filter, flat_map, if◌then◌else◌}
use Rattle.std.specs.BTreeMap.{insert_entry}
use Rattle.std.specs.Ordering.{int_cmp}
use Rattle.std.specs.Str.{bytes_eq}
use Rattle.metric.specs.Draft.{Tag}
use Rattle.metric.specs.Pairs.{in_key_order, first_of_each}
use Rattle.openmetrics_text.specs.Writing.{Point, quoted, point_text, type_text}

-- what stands for a set of labels: the names and the values in the order of the names
abbrev pub quoted_label : Tag → List ℕ
quoted_label label = quoted label.0 ++ quoted label.1

unfoldable pub series_key : List Tag → List ℕ
series_key labels = flat_map quoted_label (in_key_order labels)

-- a sample as it is written: its family, what stands for its labels, its time and its line
pub record Written : Type 0 where
  pub family : List ℕ
  pub series : List ℕ
  pub time : ℤ
  pub text : List ℕ

abbrev pub written_of : Point → Written
written_of point = record {
  family = point.family;
  series = series_key point.labels;
  time = point.time;
  text = point_text point;
}

-- ---- by keys

-- samples with their key
abbrev pub Grouped : Type 0
Grouped = List ℕ × List Written

-- each key where it came first, with all its samples, in order
unfoldable pub grouped : (Written → List ℕ) → List Written → List Grouped
grouped key samples =
    map (λ k. (k, filter (λ sample. bytes_eq k (key sample)) samples)) (first_of_each (map key samples))

abbrev pub by_family : List Written → List Grouped
by_family samples = grouped (λ sample. sample.family) samples

abbrev pub by_series : List Written → List Grouped
by_series samples = grouped (λ sample. sample.series) samples

abbrev pub with_last : Written → List Written → List Written
with_last sample samples = samples ++ sample ∷ []

-- ---- by time

-- lines with their times
abbrev pub Lines : Type 0
Lines = List (ℤ × List ℕ)

abbrev pub put_line : ℤ → List ℕ → Lines → Lines
put_line time line lines = insert_entry int_cmp lines time line

unfoldable pub by_time_on : Lines → List Written → Lines
by_time_on lines [] = lines
by_time_on lines (sample ∷ samples) = by_time_on (put_line sample.time sample.text lines) samples

-- the lines of samples by their times, of two with one time the last
abbrev pub by_time : List Written → Lines
by_time samples = by_time_on [] samples

-- ---- the text

unfoldable pub lines_text : Lines → List ℕ
lines_text lines = flat_map (λ (line : ℤ × List ℕ). line.1) lines

-- the lines of a series
unfoldable pub series_text : List Written → List ℕ
series_text samples = lines_text (by_time samples)

abbrev pub series_group : Grouped → List ℕ
series_group group = series_text group.1

-- the lines of a family
unfoldable pub samples_text : List Written → List ℕ
samples_text samples = flat_map series_group (by_series samples)

abbrev pub family_group : Grouped → List ℕ
family_group group = type_text group.0 ++ samples_text group.1

unfoldable pub families_text : List Written → List ℕ
families_text samples = flat_map family_group (by_family samples)
