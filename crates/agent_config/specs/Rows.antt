-- What stands at a key, by the key's row.
use Rattle.std.specs.Prelude.{◌&&◌, ℕ, ℤ, pos, negsuc, Bool, false, not, List, [], nat_le, int_le, Option, Some, None}
use Rattle.std.specs.Prelude.{is_some, option_and_then, option_map, unwrap_or, if◌then◌else◌}
use Rattle.toml.specs.Data.{Data, Members, no_members, get_member, as_bool, as_integer, as_str, as_table}
use Rattle.agent_config.specs.Durations.{time_of_text, time_of_seconds}
use Rattle.agent_config.specs.Keys.{text_of, usual_name}
use Rattle.agent_config.specs.declared.shapes.CountRow.{CountRow}
use Rattle.agent_config.specs.declared.shapes.Shape.{Shape}
use Rattle.agent_config.specs.declared.shapes.Shape.TheVariants.{AnyText, Count, OneOf, Place, Time, Truth}
use Rattle.agent_config.specs.declared.shapes.TimeRow.{TimeRow}

-- ---- numbers

-- the row of a key that takes a whole number
abbrev pub count_row : Option Shape → Option CountRow
count_row (Some (Count row)) = Some row
count_row row = None

-- is it a whole number from 1 to a greatest one
abbrev pub is_counted : ℕ → ℤ → Bool
is_counted most (pos n) = nat_le 1 n && nat_le n most
is_counted most (negsuc n) = false

-- a number from 1 to a greatest one, or another
abbrev pub counted_or : ℕ → ℕ → Option ℤ → ℕ
counted_or most other (Some (pos n)) = if is_counted most (pos n) then n else other
counted_or most other number = other

-- a number that its row allows, or another
abbrev pub number_by : Option CountRow → ℕ → Option ℤ → ℕ
number_by None other number = other
number_by (Some row) other number = counted_or row.most other number

-- the number at a key of a row, or another where there is none that the row allows
abbrev pub row_number : Option Shape → List ℕ → ℕ → Members → ℕ
row_number row key other members =
    number_by (count_row row) other (option_and_then as_integer (get_member key members))

-- is there a whole number, from 1 to a greatest one
abbrev pub is_number : ℕ → Option ℤ → Bool
is_number most None = false
is_number most (Some n) = is_counted most n

-- is a value none that a row of a number takes; where there is no value, another answer
abbrev pub faulty_or : ℕ → Bool → Option Data → Bool
faulty_or most other None = other
faulty_or most other (Some value) = not (is_number most (as_integer value))

abbrev pub faulty_by : Option CountRow → Bool → Option Data → Bool
faulty_by None other value = other
faulty_by (Some row) other value = faulty_or row.most other value

-- what a number is where nothing is said
abbrev pub usual_of : Option CountRow → ℕ
usual_of row = unwrap_or (option_map (λ r. r.usual) row) 0

-- ---- truth values

-- what a truth value is where nothing is said
abbrev pub usual_truth : Option Shape → Bool
usual_truth (Some (Truth usual)) = usual
usual_truth row = false

-- the truth value at a key of a row
abbrev pub row_truth : Option Shape → List ℕ → Members → Bool
row_truth row key members = unwrap_or (option_and_then as_bool (get_member key members)) (usual_truth row)

-- ---- times

-- the row of a key that takes a time
abbrev pub time_row : Option Shape → Option TimeRow
time_row (Some (Time row)) = Some row
time_row row = None

-- the nanoseconds that a whole number of seconds, or a text, gives
abbrev pub time_in : Data → Option ℤ
time_in value =
    option_map (λ time. pos time) (if is_some (as_integer value) then option_and_then time_of_seconds
    (as_integer value) else option_and_then time_of_text (as_str value))

-- is it a time, and no shorter than the least
abbrev pub is_long_enough : ℤ → Option ℤ → Bool
is_long_enough least None = false
is_long_enough least (Some time) = int_le least time

-- a time that its row allows, or the one where nothing is said
abbrev pub timed_or : TimeRow → Option ℤ → ℤ
timed_or row None = row.usual
timed_or row (Some time) = if int_le row.least time then time else row.usual

-- a time by its row; no time at a key that takes none
abbrev pub time_by : Option TimeRow → Option ℤ → ℤ
time_by None time = pos 0
time_by (Some row) time = timed_or row time

-- the time at a key of a row
abbrev pub row_time : Option Shape → List ℕ → Members → ℤ
row_time row key members = time_by (time_row row) (option_and_then time_in (get_member key members))

-- ---- texts and tables

-- what a text is where nothing is said
abbrev pub usual_text : Option Shape → List ℕ
usual_text (Some (Place usual)) = text_of usual
usual_text (Some (AnyText usual)) = text_of usual
usual_text (Some (OneOf names)) = usual_name names
usual_text row = []

-- the text at a key, or another where there is none
abbrev pub text_or : List ℕ → List ℕ → Members → List ℕ
text_or key other members = unwrap_or (option_and_then as_str (get_member key members)) other

-- the text at a key of a row
abbrev pub row_text : Option Shape → List ℕ → Members → List ℕ
row_text row key members = text_or key (usual_text row) members

-- is a value no text
abbrev pub is_no_text : Option Data → Bool
is_no_text None = false
is_no_text (Some value) = not (is_some (as_str value))

-- the members of a value that is a table; no others have any
abbrev pub members_in : Option Members → Members
members_in None = no_members
members_in (Some members) = members

-- the members of a table of the root
abbrev pub table_at : List ℕ → Members → Members
table_at key root = members_in (option_and_then as_table (get_member key root))
