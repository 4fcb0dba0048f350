-- How a metric is made of parts.
use Rattle.std.specs.Prelude.{◌≡◌, ◌<◌, ◌==◌, ◌||◌, ℕ, ℤ, false, List, length, Result, Ok, Err, IsOk, nat_eq}
use Rattle.std.specs.Prelude.{if◌then◌else◌}
use Rattle.std.specs.List.{AllByRecursion, IsDistinct}
use Rattle.std.specs.Str.{IsUtf8}
use Rattle.std.specs.Map.{keys_of}
use Rattle.std.specs.Cmp.Lexicographic.{pointwise}
use Rattle.metric.specs.Metric.{IsValue}
use Rattle.metric.specs.Pairs.{has_empty_key, with_values, IsInKeyOrder}
use Rattle.metric.specs.declared.value.Value.{Value}
use Rattle.metric.specs.declared.metric.Content.{Content}
use Rattle.metric.specs.declared.builder.BuildFault.{BuildFault}
use Rattle.metric.specs.declared.builder.BuildFault.TheVariants.{OutOfMemory, EmptyName, EmptyKey, NoFields}

-- what a metric in the making has so far: tags in the order of their keys, fields in the order in which they
-- came
pub record Parts : Type 0 where
  pub name : List ℕ
  pub tags : List (List ℕ × List ℕ)
  pub fields : List (List ℕ × Value)

-- the parts of a content
abbrev pub parts_of : Content → Parts
parts_of content = record { name = content.name; tags = content.tags; fields = content.fields }

-- what is true of the parts at each time: keys and values may be empty so far
pub record IsBuilt (p : Parts) : Type 0 where
  pub name : IsUtf8 p.name
  pub tags : AllByRecursion (λ (tag : List ℕ × List ℕ). IsUtf8 tag.0 × IsUtf8 tag.1) p.tags
  pub fields : AllByRecursion (λ (field : List ℕ × Value). IsUtf8 field.0 × IsValue field.1) p.fields
  pub sorted : IsInKeyOrder p.tags
  pub distinct : IsDistinct (pointwise nat_eq) (keys_of p.fields)

-- nothing is wrong with the parts: there is a name, a field and no empty key
pub record IsWhole (p : Parts) : Type 0 where
  pub named : 0 < length p.name
  pub tag_keys : has_empty_key p.tags ≡ false
  pub field_keys : has_empty_key p.fields ≡ false
  pub some : 0 < length p.fields

-- the metric that the parts make at a time, or the first thing that is wrong with them
abbrev pub finished : Parts → ℤ → Result Content BuildFault
finished parts time =
    if length parts.name == 0 then Err EmptyName
    else if has_empty_key parts.tags || has_empty_key parts.fields then Err EmptyKey
    else if length parts.fields == 0 then Err NoFields
    else Ok (record { name = parts.name; tags = with_values parts.tags; fields = parts.fields; time = time })

-- the content is now the wanted one, but that memory may be wanting where one is wanted
abbrev pub Completes : Result (Unit {0}) BuildFault → Content → Result Content BuildFault → Type 0
Completes (Ok done) content wanted = wanted ≡ Ok content
Completes (Err OutOfMemory) content wanted = IsOk wanted
Completes (Err fault) content wanted = wanted ≡ Err fault

-- the result is the wanted one, but that memory may be wanting where a metric is wanted
abbrev pub Finishes : Result Content BuildFault → Result Content BuildFault → Type 0
Finishes (Ok metric) wanted = wanted ≡ Ok metric
Finishes (Err OutOfMemory) wanted = IsOk wanted
Finishes (Err fault) wanted = wanted ≡ Err fault
