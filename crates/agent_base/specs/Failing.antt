-- Sources and sinks in memory: which of their calls fail, and what each call leaves.
use Rattle.std.specs.Prelude.{◌≡◌, ℕ, ◌+◌, ◌-◌, ◌^◌, ◌==◌, min, List, ◌++◌, length, take, drop, Bool, true, false, ⊤}
use Rattle.std.specs.Prelude.{Option, Some, None, Result, Ok, Err}
use Rattle.std.specs.List.{find, list_any}
use Rattle.agent_base.specs.declared.outside.PutFault.{PutFault}
use Rattle.agent_base.specs.declared.outside.PutFault.TheVariants as faults

-- a count that is one higher, or stands at its last value
abbrev pub one_more : ℕ → ℕ
one_more count = min (count + 1) (2 ^ 64 - 1)

-- the bytes left, the numbers of the reads that are to fail, how many bytes a read gives at most, how many reads
-- there were, and how many of them failed
pub record SourceState : Type 0 where
  pub left : List ℕ
  pub fails : List ℕ
  pub most : ℕ
  pub reads : ℕ
  pub faults : ℕ

-- whether the next read is to fail: its number, how many reads there were before it, is listed
abbrev pub is_to_fail : SourceState → Bool
is_to_fail source = list_any (λ number. number == source.reads) source.fails

-- how many bytes the next read gives that isn't to fail: all that are left and have room, but no more than a read
-- gives at most
abbrev pub next_length : SourceState → ℕ → ℕ
next_length source room = min (min (length source.left) room) source.most

-- the next read fails exactly where it is to fail, and gives so many bytes where it isn't
abbrev pub ReadAnswers : {E : Type 0} → SourceState → ℕ → Result ℕ E → Type 0
ReadAnswers source room (Ok count) = (is_to_fail source ≡ false) × (count ≡ next_length source room)
ReadAnswers source room (Err fault) = is_to_fail source ≡ true

-- what a read leaves: the bytes behind those that it gave, and all where it failed; it is counted
abbrev pub after_read : {E : Type 0} → SourceState → Result ℕ E → SourceState
after_read source (Ok count) = record source { left = drop count source.left; reads = one_more source.reads }
after_read source (Err fault) = record source { reads = one_more source.reads; faults = one_more source.faults }

-- the bytes held, the numbers of the puts that are to fail, each with how many bytes it appends, how many puts there
-- were, and how many of them failed
pub record SinkState : Type 0 where
  pub held : List ℕ
  pub fails : List (ℕ × ℕ)
  pub puts : ℕ
  pub faults : ℕ

-- the pair is that of a put
abbrev pub is_numbered : ℕ → ℕ × ℕ → Bool
is_numbered number pair = pair.0 == number

-- how many bytes a pair names
abbrev pub count_of : Option (ℕ × ℕ) → Option ℕ
count_of None = None
count_of (Some pair) = Some pair.1

-- with how many bytes the put of this number is to fail, by the first pair that has the number; None where it isn't
-- to fail
abbrev pub failing_count : List (ℕ × ℕ) → ℕ → Option ℕ
failing_count fails number = count_of (find (is_numbered number) fails)

-- the same of the next put: its number is how many puts there were before it
abbrev pub next_count : SinkState → Option ℕ
next_count sink = failing_count sink.fails sink.puts

-- so many bytes of a put, or all if there are fewer; all where no number is given
abbrev pub front_of : List ℕ → Option ℕ → List ℕ
front_of bytes None = bytes
front_of bytes (Some count) = take count bytes

-- a put fails exactly where it is to fail, unless memory is short
abbrev pub PutAnswers : SinkState → Result (Unit {0}) PutFault → Type 0
PutAnswers sink (Ok done) = next_count sink ≡ None
PutAnswers sink (Err faults.Failed) = (count : ℕ) × (next_count sink ≡ Some count)
PutAnswers sink (Err faults.OutOfMemory) = ⊤

-- what a put leaves: all bytes are appended, or so many with which it is to fail, or none where memory was short; it
-- is counted
abbrev pub after_put : SinkState → List ℕ → Result (Unit {0}) PutFault → SinkState
after_put sink bytes (Ok done) = record sink { held = sink.held ++ bytes; puts = one_more sink.puts }
after_put sink bytes (Err faults.Failed) = record sink {
  held = sink.held ++ front_of bytes (next_count sink);
  puts = one_more sink.puts;
  faults = one_more sink.faults;
}
after_put sink bytes (Err faults.OutOfMemory) = record sink { puts = one_more sink.puts }
