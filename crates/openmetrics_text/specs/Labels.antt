-- The labels of a sample.
use Rattle.std.specs.Prelude.{◌≡◌, ℕ, ◌+◌, ◌==◌, ◌&&◌, ◌||◌, not, Bool, false, List, [], ◌∷◌, ◌++◌, take, drop}
use Rattle.std.specs.Prelude.{map, Result, Ok, Err, slice_index, if◌then◌else◌}
use Rattle.std.specs.List.{list_any}
use Rattle.std.specs.Str.{bytes_eq}
use Rattle.text_parts.specs.Bytes.{newline, double_quote, comma, equals_sign, backslash, small_n}
use Rattle.text_parts.specs.Chain.{◌>>=◌}
use Rattle.text_parts.specs.Part.{Kind, len_at, text_at}
use Rattle.text_parts.specs.Many.{some_items_at}
use Rattle.metric.specs.Draft.{Tag}
use Rattle.metric.specs.Pairs.{has_empty_key}
use Rattle.openmetrics_text.specs.declared.fault.ExpositionKind.{ExpositionKind}
use Rattle.openmetrics_text.specs.declared.fault.ExpositionKind.TheVariants.{BadLabel}
use Rattle.openmetrics_text.specs.Bytes.{right_brace}
use Rattle.openmetrics_text.specs.Names.{ends_label, name_len}

-- the value of a label, between double quotes: a backslash hides a backslash, a double quote and an `n`, which
-- means a newline
abbrev pub value_part : Kind
value_part = record {
  ends = λ b. b == double_quote;
  escapes = λ b. b == backslash || b == double_quote || b == small_n;
  means = λ b. if b == small_n then newline else b;
}

-- how many bytes the name of a label has that begins at an offset
abbrev pub label_len : List ℕ → ℕ → ℕ
label_len line i = name_len ends_label (drop i line)

-- an equals sign and a double quote stand at an offset
abbrev pub is_opened_at : List ℕ → ℕ → Bool
is_opened_at line i = (slice_index line i == equals_sign) && (slice_index line (i + 1) == double_quote)

-- the name of a label, and the offset behind the equals sign and the double quote that follow it; each of these
-- gives what begins at an offset, and the offset behind it
unfoldable pub label_name_at : List ℕ → ℕ → Result (List ℕ × ℕ) ExpositionKind
label_name_at line i =
    if label_len line i == 0 || not (is_opened_at line (i + label_len line i)) then Err BadLabel
    else Ok (take (label_len line i) (drop i line), i + label_len line i + 2)

-- the value of a label behind its double quote, up to the next one
unfoldable pub label_value_at : List ℕ → ℕ → Result (List ℕ × ℕ) ExpositionKind
label_value_at line i =
    if slice_index line (i + len_at value_part line i) == double_quote
    then Ok (text_at value_part line i, i + len_at value_part line i + 1) else Err BadLabel

-- a label
unfoldable pub label_at : List ℕ → ℕ → Result (Tag × ℕ) ExpositionKind
label_at line i = do
  name ← label_name_at line i
  value ← label_value_at line name.1
  Ok ((name.0, value.0), value.1)

-- labels with commas between them, at least one
unfoldable pub some_labels_at : List ℕ → ℕ → Result (List Tag × ℕ) ExpositionKind
some_labels_at line i = some_items_at label_at comma line i

-- a text is among others, or occurs twice
unfoldable pub has_twice : List (List ℕ) → List (List ℕ) → Bool
has_twice before [] = false
has_twice before (text ∷ texts) = list_any (λ other. bytes_eq other text) before
    || has_twice (before ++ text ∷ []) texts

abbrev pub names_of : List Tag → List (List ℕ)
names_of labels = map (λ (label : Tag). label.0) labels

-- labels of different names, where a closing brace stands behind them
abbrev pub closed_at : List ℕ → List Tag × ℕ → Result (List Tag × ℕ) ExpositionKind
closed_at line labels =
    if not (slice_index line labels.1 == right_brace) || has_twice [] (names_of labels.0) then Err BadLabel
    else Ok (labels.0, labels.1 + 1)

-- the labels behind an opening brace, and the offset behind the closing one
unfoldable pub labels_at : List ℕ → ℕ → Result (List Tag × ℕ) ExpositionKind
labels_at line i =
    if slice_index line i == right_brace then Ok ([], i + 1) else (do
      labels ← some_labels_at line i
      closed_at line labels)

-- no label has an empty name
abbrev pub AreNamed : List Tag → Type 0
AreNamed labels = has_empty_key labels ≡ false
