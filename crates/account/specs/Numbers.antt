-- What is counted of a run.
use Rattle.std.specs.Prelude.{ℕ, ◌+◌, ◌-◌, ◌<◌, Bool, true, false, List, map, replicate, All, slice_set}
use Rattle.std.specs.Prelude.{slice_index_or}
use Rattle.account.specs.declared.numbers.InputNumbers.{InputNumbers}
use Rattle.account.specs.declared.numbers.OutputNumbers.{OutputNumbers}

-- the numbers of the inputs and of the outputs, and how many items were made, removed and routed
pub record Numbers : Type 0 where
  pub inputs : List InputNumbers
  pub made : ℕ
  pub removed : ℕ
  pub routed : ℕ
  pub outputs : List OutputNumbers

-- the numbers of an input of which nothing was read
abbrev pub unread_input : Bool → InputNumbers
unread_input tracked = record {
  tracked = tracked;
  pieces = 0;
  refused = 0;
  passed = 0;
  filtered = 0;
  gathered = 0;
  has_ended = false;
  delivered = 0;
  rejected = 0;
  undelivered = 0;
}

-- the numbers of an output that nothing reached
abbrev pub unreached_output : OutputNumbers
unreached_output = record { filtered = 0; late = 0; consumed = 0; written = 0; buffered = 0; dropped = 0 }

-- the numbers of a run in which nothing happened: the flags say which inputs are tracked
abbrev pub no_numbers : List Bool → ℕ → Numbers
no_numbers tracked outputs =
    record {
      inputs = map unread_input tracked;
      made = 0;
      removed = 0;
      routed = 0;
      outputs = replicate outputs unreached_output;
    }

-- the numbers of an input
abbrev pub input_numbers : Numbers → ℕ → InputNumbers
input_numbers numbers input = slice_index_or numbers.inputs input (unread_input false)

-- the numbers of an output
abbrev pub output_numbers : Numbers → ℕ → OutputNumbers
output_numbers numbers output = slice_index_or numbers.outputs output unreached_output

-- other numbers for an input
abbrev pub with_input : Numbers → ℕ → InputNumbers → Numbers
with_input numbers input x = record numbers { inputs = slice_set numbers.inputs input x }

-- other numbers for an output
abbrev pub with_output : Numbers → ℕ → OutputNumbers → Numbers
with_output numbers output x = record numbers { outputs = slice_set numbers.outputs output x }

-- an input's numbers, once more pieces were read
abbrev pub gathered_more : InputNumbers → ℕ → ℕ → ℕ → ℕ → ℕ → InputNumbers
gathered_more x pieces refused passed filtered metrics =
    record x {
      pieces = x.pieces + pieces;
      refused = x.refused + refused;
      passed = x.passed + passed;
      filtered = x.filtered + filtered;
      gathered = x.gathered + metrics;
    }

-- an input's numbers, once a group of it began, which isn't delivered yet
abbrev pub started_more : InputNumbers → InputNumbers
started_more x = record x { undelivered = x.undelivered + 1 }

-- an input's numbers, once a group of it settled: it is delivered or rejected
abbrev pub settled_more : InputNumbers → Bool → InputNumbers
settled_more x true = record x { delivered = x.delivered + 1; undelivered = x.undelivered - 1 }
settled_more x false = record x { rejected = x.rejected + 1; undelivered = x.undelivered - 1 }

-- an output's numbers, once so many buffered metrics were written
abbrev pub written_more : OutputNumbers → ℕ → OutputNumbers
written_more x n = record x { written = x.written + n; buffered = x.buffered - n }

-- an output's numbers, once so many buffered metrics were dropped
abbrev pub dropped_more : OutputNumbers → ℕ → OutputNumbers
dropped_more x n = record x { dropped = x.dropped + n; buffered = x.buffered - n }

-- each number of an input is below a limit
pub record IsInputBelow (limit : ℕ) (x : InputNumbers) : Type 0 where
  pub pieces : x.pieces < limit
  pub refused : x.refused < limit
  pub passed : x.passed < limit
  pub filtered : x.filtered < limit
  pub gathered : x.gathered < limit
  pub delivered : x.delivered < limit
  pub rejected : x.rejected < limit
  pub undelivered : x.undelivered < limit

-- each number of an output is below a limit
pub record IsOutputBelow (limit : ℕ) (x : OutputNumbers) : Type 0 where
  pub filtered : x.filtered < limit
  pub late : x.late < limit
  pub consumed : x.consumed < limit
  pub written : x.written < limit
  pub buffered : x.buffered < limit
  pub dropped : x.dropped < limit

-- each number is below a limit
pub record AreBelow (limit : ℕ) (numbers : Numbers) : Type 0 where
  pub inputs : All (IsInputBelow limit) numbers.inputs
  pub made : numbers.made < limit
  pub removed : numbers.removed < limit
  pub routed : numbers.routed < limit
  pub outputs : All (IsOutputBelow limit) numbers.outputs

-- how many routed metrics an output's numbers tell of
abbrev pub sum_of_fates : OutputNumbers → ℕ
sum_of_fates x = x.filtered + x.late + x.consumed + x.written + x.buffered + x.dropped
