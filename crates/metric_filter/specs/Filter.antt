-- What a filter lets pass, and what it leaves of it.
use Rattle.std.specs.Prelude.{◌==◌, ◌&&◌, ◌||◌, ℕ, Bool, false, not, List, [], length, filter, chars}
use Rattle.std.specs.Prelude.{Option, Some, None, if◌then◌else◌}
use Rattle.std.specs.List.{list_any, list_all}
use Rattle.metric.specs.Glob.{matches}
use Rattle.metric.specs.Pairs.{value_at}
use Rattle.metric.specs.declared.glob.Element.{Element}
use Rattle.metric.specs.declared.metric.Content.{Content}
use Rattle.metric_filter.specs.declared.rules.FilterRules.{FilterRules}

-- does some glob match the text
abbrev pub some_matches : List (List Element) → List ℕ → Bool
some_matches globs text = list_any (λ glob. matches glob (chars text)) globs

-- an empty list tests nothing; of another one some glob matches
abbrev pub passes : List (List Element) → List ℕ → Bool
passes globs text = length globs == 0 || some_matches globs text

-- is there a value that some glob matches
abbrev pub value_matches : List (List Element) → Option (List ℕ) → Bool
value_matches globs None = false
value_matches globs (Some value) = some_matches globs value

-- is some listed key a tag whose value one of its globs matches
abbrev pub some_tag : List (List ℕ × List (List Element)) → List (List ℕ × List ℕ) → Bool
some_tag listed tags = list_any (λ rule. value_matches rule.1 (value_at tags rule.0)) listed

-- an empty list tests nothing; of another one some key is such a tag
abbrev pub tags_pass : List (List ℕ × List (List Element)) → List (List ℕ × List ℕ) → Bool
tags_pass listed tags = length listed == 0 || some_tag listed tags

-- the four tests of a whole metric: its name passes and isn't dropped, and so do its tags
abbrev pub selects : FilterRules → Content → Bool
selects rules m =
    passes rules.namepass m.name
    && not (some_matches rules.namedrop m.name)
    && tags_pass rules.tagpass m.tags
    && not (some_tag rules.tagdrop m.tags)

-- is a key included, and not excluded
abbrev pub keeps : List (List Element) → List (List Element) → List ℕ → Bool
keeps include exclude key = passes include key && not (some_matches exclude key)

-- is each key kept
abbrev pub keeps_each : {X : Type 0} → List (List Element) → List (List Element) → List (List ℕ × X) → Bool
keeps_each include exclude pairs = list_all (λ pair. keeps include exclude pair.0) pairs

-- the pairs whose keys are kept, in their order
abbrev pub kept : {X : Type 0}
    → List (List Element) → List (List Element) → List (List ℕ × X) → List (List ℕ × X)
kept include exclude pairs = filter (λ pair. keeps include exclude pair.0) pairs

-- is each field and each tag of a metric kept
abbrev pub keeps_all : FilterRules → Content → Bool
keeps_all rules m =
    keeps_each rules.fieldinclude rules.fieldexclude m.fields && keeps_each rules.taginclude rules.tagexclude m.tags

-- the metric with the fields and the tags that are kept
abbrev pub left : FilterRules → Content → Content
left rules m = record m {
  tags = kept rules.taginclude rules.tagexclude m.tags;
  fields = kept rules.fieldinclude rules.fieldexclude m.fields;
}

-- a metric with a field is one
abbrev pub with_fields : Content → Option Content
with_fields m = if length m.fields == 0 then None else Some m

-- what a filter makes of a metric: nothing where it doesn't select it or leaves no field
abbrev pub applied : FilterRules → Content → Option Content
applied rules m = if selects rules m then with_fields (left rules m) else None

-- the rules of a filter that has none
abbrev pub no_rules : FilterRules
no_rules = record {
  namepass = [];
  namedrop = [];
  fieldinclude = [];
  fieldexclude = [];
  taginclude = [];
  tagexclude = [];
  tagpass = [];
  tagdrop = [];
}

-- has a filter no rule
abbrev pub has_no_rule : FilterRules → Bool
has_no_rule rules =
    length rules.namepass == 0 && length rules.namedrop == 0
    && length rules.tagpass == 0 && length rules.tagdrop == 0
    && length rules.fieldinclude == 0 && length rules.fieldexclude == 0
    && length rules.taginclude == 0 && length rules.tagexclude == 0
