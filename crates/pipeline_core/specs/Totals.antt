-- The numbers of a journal.
use Rattle.std.specs.Prelude.{ℕ, ◌+◌, ◌==◌, Bool, true, false, is_some, List, [], ◌∷◌, length, map, count_by}
use Rattle.std.specs.Prelude.{if◌then◌else◌}
use Rattle.std.specs.List.{enumerate_from}
use Rattle.std.specs.declared.option.Option.{Option}
use Rattle.std.specs.declared.option.Option.TheVariants.{Some, None}
use Rattle.account.specs.Setup.{Setup}
use Rattle.account.specs.Numbers.{Numbers, gathered_more, settled_more, unread_input}
use Rattle.account.specs.declared.numbers.InputNumbers.{InputNumbers}
use Rattle.account.specs.declared.numbers.OutputNumbers.{OutputNumbers}
use Rattle.account.specs.declared.entry.Entry.{Entry}
use Rattle.account.specs.declared.entry.Entry.TheVariants.{Ended, Route, Tick, Stop}
use Rattle.account.specs.declared.entry.Report.{Report}
use Rattle.account.specs.Says.{GatherSays, gather_of, reports_of}
use Rattle.account.specs.declared.entry.Verdict.{Verdict}
use Rattle.account.specs.declared.entry.Verdict.TheVariants as verdicts
use Rattle.pipeline_core.specs.Fates.{Fate, fates, is_filtered, is_late, is_consumed, is_written}
use Rattle.pipeline_core.specs.Fates.{is_buffered, is_dropped}

-- an input's numbers with those of a Gather: where it is the input's, what it says is added, and its group is
-- not delivered yet
abbrev pub group_count : Option ℕ → ℕ
group_count None = 0
group_count (Some group) = 1

abbrev pub gathers_too : InputNumbers → GatherSays → InputNumbers
gathers_too x says =
    let more : InputNumbers =
    gathered_more x says.pieces says.refused says.passed says.filtered (length says.metrics) in
    record more { undelivered = more.undelivered + group_count says.group }

abbrev pub gathered_with : ℕ → InputNumbers → Option GatherSays → InputNumbers
gathered_with input x None = x
gathered_with input x (Some says) = if says.input == input then gathers_too x says else x

-- the same with those of any entry: the Ended of the input is marked
abbrev pub said_with : ℕ → InputNumbers → Entry → InputNumbers
said_with input x (Ended number) = if number == input then record x { has_ended = true } else x
said_with input x e = gathered_with input x (gather_of e)

-- an input's numbers with the reports of its groups
unfoldable pub reported_with : ℕ → InputNumbers → List Report → InputNumbers
reported_with input x [] = x
reported_with input x (report ∷ reports) =
    reported_with input (if report.input == input then settled_more x report.delivered else x) reports

-- an input's numbers with those of an entry: what it says, and then its reports
abbrev pub input_with : ℕ → InputNumbers → Entry → InputNumbers
input_with input x e = reported_with input (said_with input x e) (reports_of e)

unfoldable pub input_total_from : ℕ → InputNumbers → List Entry → InputNumbers
input_total_from input x [] = x
input_total_from input x (e ∷ es) = input_total_from input (input_with input x e) es

-- the sums over an input's Gathers, whether it has ended, and how many of its groups were delivered, were
-- rejected, and haven't settled
abbrev pub input_total : ℕ → Bool → List Entry → InputNumbers
input_total input tracked journal = input_total_from input (unread_input tracked) journal

-- how many metrics an entry makes
abbrev pub made_by : Entry → ℕ
made_by (Tick moment made) = length made
made_by (Stop moment made) = length made
made_by _ = 0

abbrev pub is_removed : Verdict → Bool
is_removed verdicts.Removed = true
is_removed _ = false

-- one where an entry routes an item as removed, or with another verdict
abbrev pub removed_by : Entry → ℕ
removed_by (Route item whole verdict aggs outs reports) = if is_removed verdict then 1 else 0
removed_by _ = 0

abbrev pub routed_by : Entry → ℕ
routed_by (Route item whole verdict aggs outs reports) = if is_removed verdict then 0 else 1
routed_by _ = 0

unfoldable pub total_by : (Entry → ℕ) → List Entry → ℕ
total_by count [] = 0
total_by count (e ∷ es) = count e + total_by count es

-- how many of the fates are each
abbrev pub output_numbers_of : List Fate → OutputNumbers
output_numbers_of all = record {
  filtered = count_by is_filtered all;
  late = count_by is_late all;
  consumed = count_by is_consumed all;
  written = count_by is_written all;
  buffered = count_by is_buffered all;
  dropped = count_by is_dropped all;
}

-- the numbers of the routed metrics of each fate at an output
abbrev pub output_total : ℕ → ℕ → List Entry → OutputNumbers
output_total limit output journal = output_numbers_of (fates limit output journal)

-- the numbers of a journal: per input the sums over its Gathers, how many metrics were made, removed and
-- routed, per output how many routed metrics have each fate
abbrev pub totals : Setup → List Entry → Numbers
totals setup journal = record {
  inputs = map (λ (x : ℕ × Option ℕ). input_total x.0 (is_some x.1) journal) (enumerate_from 0 setup.inputs);
  made = total_by made_by journal;
  removed = total_by removed_by journal;
  routed = total_by routed_by journal;
  outputs = map (λ (x : ℕ × (ℕ × ℕ)). output_total x.1.1 x.0 journal) (enumerate_from 0 setup.outputs);
}
