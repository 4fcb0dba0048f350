-- The keys of tables that stand inside the values of keys, and what each takes.
use Rattle.std.specs.Prelude.{◌+◌, ℕ, List, [], ◌∷◌, codes, Option, Some, None, is_some, if◌then◌else◌}
use Rattle.std.specs.Str.{bytes_eq}
use Rattle.toml.specs.Data.{Members, get_member}
use Rattle.agent_config.specs.Keys.{is_one_of}
use Rattle.agent_config.specs.declared.inner.Inner.{Inner}
use Rattle.agent_config.specs.declared.inner.Inner.TheVariants.{Replacement, FieldTargets, TagTargets, Rewriting}
use Rattle.agent_config.specs.declared.inner.InnerShape.{InnerShape}
use Rattle.agent_config.specs.declared.inner.InnerShape.TheVariants.{FilledText, AnyText, Pattern, Globs}

-- what a key takes that says what is renamed, or what to
abbrev pub replacement_key : List ℕ → Option InnerShape
replacement_key key =
    if is_one_of (codes "measurement" ∷ codes "tag" ∷ codes "field" ∷ codes "dest" ∷ []) key
    then Some FilledText else None

-- what a key takes that is a type of fields
abbrev pub target_key : List ℕ → Option InnerShape
target_key key =
    if is_one_of (codes "string" ∷ codes "integer" ∷ codes "unsigned" ∷ codes "boolean" ∷ codes "float" ∷ []) key
    then Some Globs else None

-- what a key takes that says how a text is rewritten
abbrev pub rewrite_key : List ℕ → Option InnerShape
rewrite_key key =
    if bytes_eq key (codes "key") then Some FilledText
    else if bytes_eq key (codes "pattern") then Some Pattern
    else if is_one_of (codes "replacement" ∷ codes "result_key" ∷ []) key then Some AnyText
    else None

-- what a key of such a table takes; None where it isn't known. A field can be made a tag too
abbrev pub inner_key : Inner → List ℕ → Option InnerShape
inner_key Replacement key = replacement_key key
inner_key FieldTargets key = if bytes_eq key (codes "tag") then Some Globs else target_key key
inner_key TagTargets key = target_key key
inner_key Rewriting key = rewrite_key key

-- the keys that it needs
abbrev pub inner_needs : Inner → List (List ℕ)
inner_needs Replacement = codes "dest" ∷ []
inner_needs Rewriting = codes "key" ∷ codes "pattern" ∷ codes "replacement" ∷ []
inner_needs inner = []

-- the keys of which just one says what is renamed
abbrev pub sources : List (List ℕ)
sources = codes "measurement" ∷ codes "tag" ∷ codes "field" ∷ []

-- how many of some keys a table has
abbrev pub count_of : List (List ℕ) → Members → ℕ
count_of [] _ = 0
count_of (key ∷ keys) members = (if is_some (get_member key members) then 1 else 0) + count_of keys members
