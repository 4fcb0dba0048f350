-- What renaming makes of a metric.
use Rattle.std.specs.Prelude.{◌==◌, ℕ, Bool, not, length, List, Option, Some, None, map, if◌then◌else◌}
use Rattle.std.specs.List.{fold}
use Rattle.std.specs.Str.{bytes_eq}
use Rattle.metric.specs.Changing.{without_key}
use Rattle.metric.specs.Metric.{IsFilled}
use Rattle.metric.specs.Pairs.{has_key, value_at, with_sorted}
use Rattle.metric.specs.declared.metric.Content.{Content}
use Rattle.metric.specs.declared.part.Part.{Part}
use Rattle.metric.specs.declared.part.Part.TheVariants.{Measurement, Tag, Field}
use Rattle.metric.specs.declared.value.Value.{Value}
use Rattle.proc_edit.specs.declared.rename.RenameRule.{RenameRule}

-- what a rule puts in the place of a name or key isn't empty
abbrev pub HasDest : RenameRule → Type 0
HasDest rule = IsFilled rule.dest

-- the same as a test
abbrev pub has_dest : RenameRule → Bool
has_dest rule = not (length rule.dest == 0)

-- a name or key that is the old one becomes the new one
abbrev pub renamed_key : List ℕ → List ℕ → List ℕ → List ℕ
renamed_key from dest key = if bytes_eq key from then dest else key

-- a tag that is there goes, and its value stands under the new key: one that stood there gives way
abbrev pub with_value_moved : List (List ℕ × List ℕ) → List ℕ → List ℕ → Option (List ℕ) → List (List ℕ × List ℕ)
with_value_moved tags from dest None = tags
with_value_moved tags from dest (Some value) = with_sorted (without_key tags from) dest value

-- the tags, that of the old key under the new one
abbrev pub moved_tags : List (List ℕ × List ℕ) → List ℕ → List ℕ → List (List ℕ × List ℕ)
moved_tags tags from dest = with_value_moved tags from dest (value_at tags from)

-- the fields but the one that has the new key, and that of the old key with the new one, where it stood
abbrev pub with_key_renamed : List (List ℕ × Value) → List ℕ → List ℕ → List (List ℕ × Value)
with_key_renamed fields from dest =
    map (λ (field : List ℕ × Value). (renamed_key from dest field.0, field.1)) (without_key fields dest)

-- the fields, that of the old key renamed where there is one
abbrev pub moved_fields : List (List ℕ × Value) → List ℕ → List ℕ → List (List ℕ × Value)
moved_fields fields from dest = if has_key fields from then with_key_renamed fields from dest else fields

-- the metric with a part renamed
abbrev pub part_renamed : Part → List ℕ → List ℕ → Content → Content
part_renamed Measurement from dest m = record m { name = renamed_key from dest m.name }
part_renamed Tag from dest m = record m { tags = moved_tags m.tags from dest }
part_renamed Field from dest m = record m { fields = moved_fields m.fields from dest }

-- what one rule makes of a metric: nothing changes where the new name is the old one
abbrev pub renamed_by : Content → RenameRule → Content
renamed_by m rule = if bytes_eq rule.from rule.dest then m else part_renamed rule.part rule.from rule.dest m

-- what the rules make of it, one after the other
abbrev pub renamed : List RenameRule → Content → Content
renamed rules m = fold renamed_by m rules
