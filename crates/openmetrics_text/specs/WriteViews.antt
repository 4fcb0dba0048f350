-- What the writer has in its maps and groups, as lists.
use Rattle.std.specs.Prelude.{◌≡◌, ℕ, suc, ℤ, List, [], ◌∷◌, ◌++◌, map, slice_set, slice_index_or, Vec}
use Rattle.std.specs.Prelude.{Option, Some, None, option_map, if◌then◌else◌}
use Rattle.std.specs.Borrow.{Bor}
use Rattle.std.specs.BTreeMap.{BTreeMap, get_by}
use Rattle.std.specs.Cmp.Lexicographic.{slice_cmp}
use Rattle.std.specs.Ordering.{nat_cmp}
use Rattle.std.specs.Str.{bytes_eq}
use Rattle.std.specs.declared.alloc.Global.{Global}
use Rattle.metric.specs.Draft.{Tag}
use Rattle.openmetrics_text.specs.Bytes.{left_brace, right_brace}
use Rattle.openmetrics_text.specs.Groups.{Grouped, Lines, Written, with_last}
use Rattle.openmetrics_text.specs.declared.groups.Group.{Group}
use Rattle.openmetrics_text.specs.declared.groups.Groups.{Groups}
use Rattle.openmetrics_text.specs.declared.groups.SampleLine.{SampleLine}

-- ---- labels

abbrev pub label_entry : Vec ℕ Global × Bor (List ℕ) → Tag
label_entry label = (label.0.items, label.1.now)

abbrev pub sorted_entry : Bor (List ℕ) × Bor (List ℕ) → Tag
sorted_entry label = (label.0.now, label.1.now)

abbrev pub labels_view : Vec (Vec ℕ Global × Bor (List ℕ)) Global → List Tag
labels_view labels = map label_entry labels.items

abbrev pub sorted_view : BTreeMap (Bor (List ℕ)) (Bor (List ℕ)) → List Tag
sorted_view labels = map sorted_entry labels.entries

-- a text between braces, the first of which stands for its first byte
abbrev pub braced : List ℕ → List ℕ
braced [] = []
braced (b ∷ text) = left_brace ∷ (text ++ right_brace ∷ [])

-- ---- samples

abbrev pub line_view : SampleLine → Written
line_view line = record {
  family = line.family.now;
  series = line.series.now;
  time = line.time;
  text = line.text.now;
}

abbrev pub line_entry : ℤ × Bor (List ℕ) → ℤ × List ℕ
line_entry line = (line.0, line.1.now)

abbrev pub lines_view : BTreeMap ℤ (Bor (List ℕ)) → Lines
lines_view lines = map line_entry lines.entries

abbrev pub group_view : Group → Grouped
group_view group = (group.key.now, map line_view group.samples)

abbrev pub groups_view : Groups → List Grouped
groups_view groups = map group_view groups.groups.items

-- the index of the first group of a key
abbrev pub index_in : List ℕ → List Grouped → Option ℕ
index_in key [] = None
index_in key (group ∷ groups) =
    if bytes_eq key group.0 then Some 0 else option_map suc (index_in key groups)

-- each key has the index of its group
abbrev pub IsIndexed : Groups → Type 0
IsIndexed groups = (key : List ℕ)
    → get_by (λ k. slice_cmp nat_cmp key k.now) groups.indices ≡ index_in key (groups_view groups)

-- the group at an index has one sample more
abbrev pub HasMore : List Grouped → ℕ → Written → List Grouped → Type 0
HasMore old index sample new = (d : Grouped)
    → new ≡ slice_set old index ((slice_index_or old index d).0, with_last sample (slice_index_or old index d).1)
