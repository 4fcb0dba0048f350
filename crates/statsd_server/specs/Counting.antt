-- Which parts count: one that would take a sum or a gauge out of the range of numbers is left out.
use Rattle.std.specs.Prelude.{ℕ, ℤ, ◌+ℤ◌, ◌*◌, ◌^◌, ◌-◌, ◌+◌, Bool, pos, nat_lt, unsigned_abs, List, [], ◌∷◌, ◌++◌}
use Rattle.std.specs.Prelude.{length, if◌then◌else◌}
use Rattle.std.specs.List.{fold}
use Rattle.metric.specs.declared.metric.Content.{Content}
use Rattle.agg_keep.specs.Spot.{series_of}
use Rattle.statsd_server.specs.declared.change.Change.{Change}
use Rattle.statsd_server.specs.declared.change.Change.TheVariants.{Adds, Sets, Moves, Took, Names}
use Rattle.statsd_server.specs.Packets.{parts_in, refused_lines, lines_in, Packet}
use Rattle.statsd_server.specs.Parts.{change_of, changes_of, level_of, summary_of}

-- the magnitude, in billionths, is below 2^64 * 10^9
abbrev pub is_in_range : ℤ → Bool
is_in_range n = nat_lt (unsigned_abs n) (2 ^ 64 * 10 ^ 9)

-- where a change takes the sum of its group, or the level of a gauge; a member takes neither
abbrev pub taken_to : ℤ → ℤ → Change → ℤ
taken_to sum level (Adds n) = sum +ℤ n
taken_to sum level (Took n) = sum +ℤ n
taken_to sum level (Sets n) = n
taken_to sum level (Moves n) = level +ℤ n
taken_to sum level (Names member) = pos 0

-- whether a part counts behind those that count: those of earlier groups, and those of its own
abbrev pub does_count : List Content → List Content → Content → Bool
does_count past now part = is_in_range (taken_to (summary_of (changes_of (series_of part) now)).sum
    (level_of (changes_of (series_of part) (past ++ now))) (change_of part))

-- the parts of a group that count, with one part more: one that doesn't is left out as if it weren't there
abbrev pub with_part : List Content → List Content → Content → List Content
with_part past now part = if does_count past now part then now ++ part ∷ [] else now

-- the parts of a group that count, behind those of earlier groups
unfoldable pub counted : List Content → List Content → List Content
counted past parts = fold (with_part past) [] parts

-- those of a group more
abbrev pub with_group : List Content → List Packet → List Content
with_group past group = past ++ counted past (parts_in group)

-- those of all groups
unfoldable pub counted_in : List (List Packet) → List Content
counted_in groups = fold with_group [] groups

-- how many lines and parts of a group are left out
abbrev pub refused_in : List Content → List Packet → ℕ
refused_in past group =
    refused_lines (lines_in group) + (length (parts_in group) - length (counted past (parts_in group)))
