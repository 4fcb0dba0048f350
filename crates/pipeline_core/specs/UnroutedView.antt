-- How the origins of items without a Route are seen.
use Rattle.std.specs.Prelude.{ℕ, ◌≤◌, Bool, List, flat_map, replicate}
use Rattle.std.specs.List.{All}
use Rattle.std.specs.VecDeque.{deque_capacity, deque_len}
use Rattle.std.specs.declared.option.Option.{Option}
use Rattle.pipeline_core.specs.declared.unrouted.Together.{Together}
use Rattle.pipeline_core.specs.declared.unrouted.Unrouted.TheInside.{Inside}

-- of each item whether it was made, and its group; how many rows of items they are, and for how many there is room
pub record UnroutedState : Type 0 where
  pub made : List Bool
  pub groups : List (Option ℕ)
  pub rows : ℕ
  pub places : ℕ

-- of each item of a row whether it was made
abbrev pub made_of : Together → List Bool
made_of row = replicate row.count row.made

-- of each item of a row its group
abbrev pub groups_of : Together → List (Option ℕ)
groups_of row = replicate row.count row.group

abbrev pub unrouted_state : Inside → UnroutedState
unrouted_state u = record {
  made = flat_map made_of u.rows.items;
  groups = flat_map groups_of u.rows.items;
  rows = deque_len u.rows;
  places = deque_capacity u.rows;
}

-- no row is empty
abbrev pub IsUnroutedKept : Inside → Type 0
IsUnroutedKept u = All (λ row. 1 ≤ row.count) u.rows.items
