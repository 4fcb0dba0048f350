-- A metric in the making that keeps limits.
use Rattle.std.specs.Prelude.{◌≡◌, ◌<◌, ◌||◌, ℕ, ℤ, Bool, false, List, length, nat_lt, Result, Ok, Err, IsOk}
use Rattle.std.specs.Prelude.{if◌then◌else◌}
use Rattle.metric.specs.Building.{Parts}
use Rattle.metric.specs.Pairs.{in_key_order, in_first_order, with_values, has_empty_key}
use Rattle.metric.specs.declared.value.Value.{Value}
use Rattle.metric.specs.declared.metric.Content.{Content}
use Rattle.metric.specs.declared.draft.DraftFault.{DraftFault}
use Rattle.metric.specs.declared.draft.DraftFault.TheVariants.{OutOfMemory, TooMany}

-- a tag is a key and its value; so is a field
abbrev pub Tag : Type 0
Tag = List ℕ × List ℕ

abbrev pub Field : Type 0
Field = List ℕ × Value

-- what a draft keeps: the parts of a metric, and whether there were too many of them
pub record Drafted : Type 0 where
  pub parts : Parts
  pub too_many : Bool

-- at most 64 tags and 256 fields make a metric, a repeated key counted once
abbrev pub has_too_many : List Tag → List Field → Bool
has_too_many tags fields =
    nat_lt 64 (length (in_key_order tags)) || nat_lt 256 (length (in_first_order fields))

-- the draft has these tags and fields, as they were given, or says that they are too many
pub record StandsFor (draft : Drafted) (tags : List Tag) (fields : List Field) : Type 0 where
  pub many : draft.too_many ≡ has_too_many tags fields
  pub tags_kept : draft.too_many ≡ false → draft.parts.tags ≡ in_key_order tags
  pub fields_kept : draft.too_many ≡ false → draft.parts.fields ≡ in_first_order fields
  pub tag_keys : draft.too_many ≡ false → has_empty_key draft.parts.tags ≡ false
  pub field_keys : draft.too_many ≡ false → has_empty_key draft.parts.fields ≡ false

-- the draft has a name, a field and no empty key, so that it makes a metric
pub record IsReady (draft : Drafted) : Type 0 where
  pub named : 0 < length draft.parts.name
  pub tag_keys : draft.too_many ≡ false → has_empty_key draft.parts.tags ≡ false
  pub field_keys : draft.too_many ≡ false → has_empty_key draft.parts.fields ≡ false
  pub some : draft.too_many ≡ false → 0 < length draft.parts.fields

-- the metric of tags and fields that were given one after the other: a repeated key keeps its place and takes
-- the last value; no tag's value is empty
abbrev pub drafted : List ℕ → List Tag → List Field → ℤ → Result Content DraftFault
drafted name tags fields time =
    if has_too_many tags fields then Err TooMany
    else Ok (record {
      name = name;
      tags = with_values (in_key_order tags);
      fields = in_first_order fields;
      time = time;
    })

-- the result is the wanted one, but that memory may be wanting where a metric is wanted
abbrev pub Drafts : Result Content DraftFault → Result Content DraftFault → Type 0
Drafts (Ok metric) wanted = wanted ≡ Ok metric
Drafts (Err OutOfMemory) wanted = IsOk wanted
Drafts (Err TooMany) wanted = wanted ≡ Err TooMany
