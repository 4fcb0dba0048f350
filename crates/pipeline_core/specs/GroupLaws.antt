-- Laws of the groups of tracked inputs: they settle once, are reported then and are counted so.
use Rattle.std.specs.Prelude.{◌≡◌, ◌<◌, ◌≤◌, ℕ, ◌==◌, ◌&&◌, not, nat_lt, Bool, List, ◌++◌, length, count_by, flat_map}
use Rattle.std.specs.Prelude.{if◌then◌else◌}
use Rattle.std.specs.List.{All, enumerate_from}
use Rattle.account.specs.Setup.{Setup}
use Rattle.account.specs.Numbers.{input_numbers}
use Rattle.account.specs.declared.numbers.InputNumbers.{InputNumbers}
use Rattle.account.specs.Origins.{group_inputs, groups, input_of}
use Rattle.account.specs.Says.{reports_of}
use Rattle.account.specs.declared.entry.Entry.{Entry}
use Rattle.account.specs.declared.entry.Report.{Report}
use Rattle.pipeline_core.specs.CoreState.{sizes_at}
use Rattle.pipeline_core.specs.Fates.{is_dropped}
use Rattle.pipeline_core.specs.Groups.{copies, count_of_fate, is_live, live_count}
use Rattle.pipeline_core.specs.Legal.{IsLegal}
use Rattle.pipeline_core.specs.Totals.{totals}

-- at each output a batch has at least one metric, and the buffer has room for a batch
abbrev pub HasSizes : Setup → Type 0
HasSizes setup =
    (output : ℕ) → output < length setup.outputs →
    (1 ≤ (sizes_at setup output).0) × ((sizes_at setup output).0 ≤ (sizes_at setup output).1)

-- A group that has settled has no copies ever again.
abbrev pub SettledStays : Type 0
SettledStays =
    (setup : Setup) (before more : List Entry) (group : ℕ) → HasSizes setup → IsLegal setup (before ++ more) →
    group < groups before → copies setup before group ≡ 0 → copies setup (before ++ more) group ≡ 0

-- all reports of a journal, in the order of its entries
abbrev pub all_reports : List Entry → List Report
all_reports journal = flat_map reports_of journal

-- whether a report is of a group
abbrev pub is_report_on : ℕ → Report → Bool
is_report_on group report = report.group == group

-- whether a group has settled: it began, and isn't live
abbrev pub has_settled : Setup → List Entry → ℕ → Bool
has_settled setup journal group = nat_lt group (groups journal) && not (is_live setup journal group)

-- whether no item of a group is dropped anywhere
abbrev pub is_unharmed : Setup → List Entry → ℕ → Bool
is_unharmed setup journal group = count_of_fate is_dropped setup journal group == 0

-- a report says the input of its group, and whether no item of the group is dropped, which is as it was when it
-- settled
pub record IsTrueReport (setup : Setup) (journal : List Entry) (report : Report) : Type 0 where
  pub input : report.input ≡ input_of journal report.group
  pub delivered : report.delivered ≡ is_unharmed setup journal report.group

-- each group that has settled is reported once, and no other is; what is reported is true
pub record IsReportedOnce (setup : Setup) (journal : List Entry) : Type 0 where
  pub once : (group : ℕ) →
      count_by (is_report_on group) (all_reports journal) ≡ (if has_settled setup journal group then 1 else 0)
  pub are_true : All (IsTrueReport setup journal) (all_reports journal)

-- Each group is reported at most once, not before its Gather, and exactly when it has settled.
abbrev pub ReportedOnce : Type 0
ReportedOnce =
    (setup : Setup) (journal : List Entry) → HasSizes setup → IsLegal setup journal → IsReportedOnce setup journal

-- how many groups of an input have settled, and no item of them is dropped
abbrev pub delivered_count : Setup → List Entry → ℕ → ℕ
delivered_count setup journal input =
    count_by
    (λ (group : ℕ × ℕ).
    group.1 == input && (not (is_live setup journal group.0) && is_unharmed setup journal group.0))
    (enumerate_from 0 (group_inputs journal))

-- how many groups of an input have settled, and an item of them is dropped
abbrev pub rejected_count : Setup → List Entry → ℕ → ℕ
rejected_count setup journal input =
    count_by
    (λ (group : ℕ × ℕ).
    group.1 == input && (not (is_live setup journal group.0) && not (is_unharmed setup journal group.0)))
    (enumerate_from 0 (group_inputs journal))

-- an input's numbers count its groups: those that are live, and those that have settled, by what is reported
pub record CountsGroups (setup : Setup) (journal : List Entry) (input : ℕ) (x : InputNumbers) : Type 0 where
  pub undelivered : x.undelivered ≡ live_count setup journal input
  pub delivered : x.delivered ≡ delivered_count setup journal input
  pub rejected : x.rejected ≡ rejected_count setup journal input

-- The numbers of a journal count the groups of each input.
abbrev pub GroupTotals : Type 0
GroupTotals =
    (setup : Setup) (journal : List Entry) (input : ℕ) → HasSizes setup → IsLegal setup journal →
    input < length setup.inputs →
    CountsGroups setup journal input (input_numbers (totals setup journal) input)
