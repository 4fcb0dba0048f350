-- The kinds of parts of a line.
use Rattle.std.specs.Prelude.{false, ◌==◌, ◌||◌}
use Rattle.text_parts.specs.Bytes.{space, double_quote, comma, equals_sign, backslash}
use Rattle.text_parts.specs.Part.{Kind}

-- a measurement ends before a comma or a space; a backslash hides these
abbrev pub name_part : Kind
name_part = record {
  ends = λ b. b == comma || b == space;
  escapes = λ b. b == comma || b == space;
  means = λ b. b;
}

-- a key ends before an equals sign, a comma or a space; a backslash hides these
abbrev pub key_part : Kind
key_part = record {
  ends = λ b. b == equals_sign || b == comma || b == space;
  escapes = λ b. b == comma || b == equals_sign || b == space;
  means = λ b. b;
}

-- a tag's value ends before a comma or a space; a backslash hides these and an equals sign
abbrev pub tag_value_part : Kind
tag_value_part = record {
  ends = λ b. b == comma || b == space;
  escapes = λ b. b == comma || b == equals_sign || b == space;
  means = λ b. b;
}

-- a text between double quotes; a backslash hides a double quote and a backslash
abbrev pub text_part : Kind
text_part = record {
  ends = λ b. b == double_quote;
  escapes = λ b. b == double_quote || b == backslash;
  means = λ b. b;
}

-- a value that is no text ends before a comma or a space, and has no escapes
abbrev pub value_part : Kind
value_part = record { ends = λ b. b == comma || b == space; escapes = λ b. false; means = λ b. b }
