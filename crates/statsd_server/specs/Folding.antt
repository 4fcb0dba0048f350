-- What one change more makes of what is counted.
use Rattle.std.specs.Prelude.{◌+ℤ◌, ◌+◌, ◌==◌, ℤ, Bool, false, not, List, if◌then◌else◌}
use Rattle.std.specs.Int.{int_max, int_min}
use Rattle.std.specs.List.{list_any}
use Rattle.std.specs.Str.{bytes_eq}
use Rattle.statsd_server.specs.declared.change.Change.{Change}
use Rattle.statsd_server.specs.declared.change.Change.TheVariants.{Names}
use Rattle.statsd_server.specs.declared.summary.Summary.{Summary}
use Rattle.statsd_server.specs.Parts.{members_in}

-- whether a change names a member that the changes before don't
abbrev pub is_fresh : List Change → Change → Bool
is_fresh changes (Names member) = not (list_any (bytes_eq member) (members_in changes))
is_fresh changes change = false

-- what is counted with an amount more, and perhaps a distinct member
unfoldable pub with_amount : Summary → ℤ → Bool → Summary
with_amount s n fresh = record {
  count = s.count + 1;
  distinct = if fresh then s.distinct + 1 else s.distinct;
  sum = s.sum +ℤ n;
  least = if s.count == 0 then n else int_min s.least n;
  greatest = if s.count == 0 then n else int_max s.greatest n;
}
