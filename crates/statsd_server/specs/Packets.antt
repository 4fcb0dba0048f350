-- The lines of packets, and what is read of them.
use Rattle.std.specs.Prelude.{ℕ, ◌-◌, ◌==◌, pos, List, [], ◌∷◌, ◌++◌, length, take, slice_index, Result, Ok, Err}
use Rattle.std.specs.Prelude.{is_err, count_by, if◌then◌else◌}
use Rattle.std.specs.List.{flat_map}
use Rattle.metric.specs.declared.metric.Content.{Content}
use Rattle.statsd_text.specs.declared.fault.StatsdFault.{StatsdFault}
use Rattle.statsd_text.specs.Reading.{reading}

-- a packet is its bytes
abbrev pub Packet : Type 0
Packet = List ℕ

-- a line without the carriage return at its end
abbrev pub without_return : List ℕ → List ℕ
without_return line = if slice_index line (length line - 1) == 13 then take (length line - 1) line else line

-- what stands behind the last newline is a line as it stands, where there is something
abbrev pub rest_lines : List ℕ → List (List ℕ)
rest_lines rest = if length rest == 0 then [] else rest ∷ []

-- the lines of a text, where a line has begun with some bytes: each newline ends one
unfoldable pub lines_from : List ℕ → List ℕ → List (List ℕ)
lines_from begun [] = rest_lines begun
lines_from begun (b ∷ bs) =
    if b == 10 then without_return begun ∷ lines_from [] bs else lines_from (begun ++ b ∷ []) bs

-- the lines of a packet
abbrev pub lines_of : Packet → List (List ℕ)
lines_of packet = lines_from [] packet

-- what is read of a line, with the time 0
abbrev pub line_read : List ℕ → Result (List Content) StatsdFault
line_read line = reading line (pos 0)

-- the parts that a reading gives; a line that is refused has none
abbrev pub parts_read : Result (List Content) StatsdFault → List Content
parts_read (Ok parts) = parts
parts_read (Err fault) = []

-- the parts of lines, in order, and how many lines are refused
abbrev pub parts_of_lines : List (List ℕ) → List Content
parts_of_lines lines = flat_map (λ line. parts_read (line_read line)) lines

abbrev pub refused_lines : List (List ℕ) → ℕ
refused_lines lines = count_by (λ line. is_err (line_read line)) lines

-- the lines of a group of packets
abbrev pub lines_in : List Packet → List (List ℕ)
lines_in packets = flat_map lines_of packets

-- their parts
abbrev pub parts_in : List Packet → List Content
parts_in packets = parts_of_lines (lines_in packets)
