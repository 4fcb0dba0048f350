-- What the filters of plugins are.
use Rattle.std.specs.Prelude.{◌++◌, ℕ, List, [], ◌∷◌, chars, codes, Option, Some, None, option_and_then}
use Rattle.std.specs.Prelude.{option_to_list}
use Rattle.toml.specs.Data.{Members, no_members, member, get_member, as_table}
use Rattle.metric.specs.Glob.{glob_of}
use Rattle.metric.specs.declared.glob.Element.{Element}
use Rattle.metric_filter.specs.declared.rules.FilterRules.{FilterRules}
use Rattle.agent_config.specs.Faults.{Plugin, texts_in}
use Rattle.agent_config.specs.Rows.{members_in, table_at}

-- the keys of a plugin and what stands at them; none where it is no table
abbrev pub plugin_members : Plugin → Members
plugin_members plugin = members_in (as_table plugin.value)

-- the globs that texts spell; a text that spells none is left out
abbrev pub globs_of : List (List ℕ) → List (List Element)
globs_of [] = []
globs_of (text ∷ texts) = option_to_list (glob_of (chars text)) ++ globs_of texts

-- the globs of a value that is a list of texts; another has none
abbrev pub globs_in : Option (List (List ℕ)) → List (List Element)
globs_in None = []
globs_in (Some texts) = globs_of texts

-- the globs at a key
unfoldable pub globs_at : List ℕ → Members → List (List Element)
globs_at key members = globs_in (option_and_then texts_in (get_member key members))

-- the globs of each key of a table
abbrev pub tag_globs_of : Members → List (List ℕ × List (List Element))
tag_globs_of no_members = []
tag_globs_of (member key value members) = (key, globs_in (texts_in value)) ∷ tag_globs_of members

unfoldable pub tag_globs_at : List ℕ → Members → List (List ℕ × List (List Element))
tag_globs_at key members = tag_globs_of (table_at key members)

-- the filter of a plugin: the older names of two lists are added behind the newer ones
unfoldable pub filter_of : Members → FilterRules
filter_of members = record {
  namepass = globs_at (codes "namepass") members;
  namedrop = globs_at (codes "namedrop") members;
  fieldinclude = globs_at (codes "fieldinclude") members ++ globs_at (codes "fieldpass") members;
  fieldexclude = globs_at (codes "fieldexclude") members ++ globs_at (codes "fielddrop") members;
  taginclude = globs_at (codes "taginclude") members;
  tagexclude = globs_at (codes "tagexclude") members;
  tagpass = tag_globs_at (codes "tagpass") members;
  tagdrop = tag_globs_at (codes "tagdrop") members;
}
