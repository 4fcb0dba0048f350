-- What rewriting by patterns makes of a metric.
use Rattle.std.specs.Prelude.{◌==◌, ℕ, Bool, true, false, List, length, Option, Some, None}
use Rattle.std.specs.Prelude.{option_and_then, if◌then◌else◌}
use Rattle.std.specs.List.{fold}
use Rattle.metric.specs.Changing.{without_key}
use Rattle.metric.specs.Pairs.{value_at, with_pair, with_sorted}
use Rattle.metric.specs.declared.metric.Content.{Content}
use Rattle.metric.specs.declared.part.Part.{Part}
use Rattle.metric.specs.declared.part.Part.TheVariants.{Measurement, Tag, Field}
use Rattle.metric.specs.declared.value.Value.{Value}
use Rattle.metric.specs.declared.value.Value.TheVariants.{Text}
use Rattle.proc_regex.specs.Pattern.{has_match, replaced}

-- what is rewritten: the tag or the field of a key, by a pattern and a replacement; the result stands under another
-- key, or under the same where that is empty
pub record Rule : Type 0 where
  pub part : Part
  pub key : List ℕ
  pub pattern : List ℕ
  pub replacement : List ℕ
  pub result_key : List ℕ

-- a tag or a field has a key and a value; the name has none
abbrev pub has_keys : Part → Bool
has_keys Measurement = false
has_keys part = true

-- a text that is a field's value
abbrev pub text_in : Value → Option (List ℕ)
text_in (Text text) = Some text
text_in value = None

-- the text that a rule looks at: the value of a tag, or of a field that is a text
abbrev pub text_at : Part → Content → List ℕ → Option (List ℕ)
text_at Measurement m key = None
text_at Tag m key = value_at m.tags key
text_at Field m key = option_and_then text_in (value_at m.fields key)

-- the key under which the result stands
abbrev pub dest_of : Rule → List ℕ
dest_of rule = if length rule.result_key == 0 then rule.key else rule.result_key

-- with a text under a key: no tag is empty, so that an empty text removes it
abbrev pub with_text : Part → Content → List ℕ → List ℕ → Content
with_text Measurement m key text = m
with_text Tag m key text =
    record m { tags = if length text == 0 then without_key m.tags key else with_sorted m.tags key text }
with_text Field m key text = record m { fields = with_pair m.fields key (Text text) }

-- a text with the matches of a rule replaced; None where it has none
abbrev pub replaced_by_rule : Rule → List ℕ → Option (List ℕ)
replaced_by_rule rule text =
    if has_match rule.pattern text then Some (replaced rule.pattern rule.replacement text) else None

-- what a rule makes of the text that it looks at: None where there is none, or it has no match
abbrev pub text_made : Rule → Content → Option (List ℕ)
text_made rule m = option_and_then (replaced_by_rule rule) (text_at rule.part m rule.key)

-- with the text that was made, if there is one, under the rule's key for it
abbrev pub with_result : Rule → Content → Option (List ℕ) → Content
with_result rule m None = m
with_result rule m (Some text) = with_text rule.part m (dest_of rule) text

-- what a rule makes of a metric
abbrev pub rewritten : Rule → Content → Content
rewritten rule m = with_result rule m (text_made rule m)

-- what the rules make of it, one after the other
abbrev pub all_rewritten : List Rule → Content → Content
all_rewritten rules m = fold (λ m rule. rewritten rule m) m rules
