-- The journals that have a text which is read as them.
use Rattle.std.specs.Prelude.{◌≡◌, ◌<◌, ◌^◌, ℕ, List, [], ◌∷◌, ◌++◌, length, map, replicate, Option}
use Rattle.std.specs.Prelude.{Some, None, is_some, FitsSigned, ◌==◌, if◌then◌else◌}
use Rattle.std.specs.Int.{w64}
use Rattle.std.specs.List.{AllByRecursion}
use Rattle.std.specs.List.Sorted.{IsStrictlySortedBy}
use Rattle.std.specs.Ordering.{nat_cmp}
use Rattle.metric.specs.declared.metric.Content.{Content}
use Rattle.metric.specs.Metric.{IsMetric}
use Rattle.account.specs.declared.entry.Verdict.{Verdict}
use Rattle.account.specs.declared.entry.Verdict.TheVariants.{Removed}
use Rattle.account.specs.declared.entry.Report.{Report}
use Rattle.account.specs.declared.entry.Entry.{Entry}
use Rattle.account.specs.declared.entry.Entry.TheVariants.{Ended, Take, Route, Tick, Stop, Begin, Done}
use Rattle.account.specs.declared.numbers.InputNumbers.{InputNumbers}
use Rattle.account.specs.declared.setup.AggWord.{AggWord}
use Rattle.account.specs.declared.setup.AggWord.TheVariants.{MinMax, Basic, Merge, Final}
use Rattle.account.specs.declared.setup.AggLine.{AggLine}
use Rattle.account.specs.AccountText.{account_text}
use Rattle.account.specs.Numbers.{Numbers, IsInputBelow, IsOutputBelow}
use Rattle.account.specs.Says.{GatherSays, gather_of, reports_of}
use Rattle.journal_text.specs.declared.setup.JournalSetup.{JournalSetup}

-- ---- the set-up

abbrev pub FitsKind : AggWord → Type 0
FitsKind MinMax = Unit {0}
FitsKind (Basic sum count min max) = Unit {0}
FitsKind Merge = Unit {0}
FitsKind (Final timeout) = FitsSigned w64 timeout

pub record FitsAgg (line : AggLine) : Type 0 where
  pub kind : FitsKind line.kind
  pub period : FitsSigned w64 line.period
  pub delay : FitsSigned w64 line.delay
  pub grace : FitsSigned w64 line.grace

abbrev pub FitsInput : Option ℕ → Type 0
FitsInput None = Unit {0}
FitsInput (Some most) = most < 2 ^ 32

abbrev pub FitsOutput : ℕ × ℕ → Type 0
FitsOutput sizes = (sizes.0 < 2 ^ 32) × (sizes.1 < 2 ^ 32)

-- its numbers fit
pub record FitsSetup (setup : JournalSetup) : Type 0 where
  pub start : FitsSigned w64 setup.start
  pub inputs : AllByRecursion FitsInput setup.inputs
  pub aggs : AllByRecursion FitsAgg setup.aggs
  pub outputs : AllByRecursion FitsOutput setup.outputs

-- ---- entries

-- metrics are metrics, and a `u64` counts them
pub record FitMetrics (metrics : List Content) : Type 0 where
  pub metrics_are : AllByRecursion IsMetric metrics
  pub count : length metrics < 2 ^ 64

abbrev pub FitsGroup : Option ℕ → Type 0
FitsGroup None = Unit {0}
FitsGroup (Some group) = group < 2 ^ 64

pub record FitsGather (says : GatherSays) : Type 0 where
  pub input : says.input < 2 ^ 32
  pub moment : FitsSigned w64 says.moment
  pub pieces : says.pieces < 2 ^ 32
  pub refused : says.refused < 2 ^ 32
  pub passed : says.passed < 2 ^ 32
  pub filtered : says.filtered < 2 ^ 32
  pub metrics : FitMetrics says.metrics
  pub group : FitsGroup says.group

-- what an entry says where it is a Gather
abbrev pub FitsGathered : Option GatherSays → Type 0
FitsGathered None = Unit {0}
FitsGathered (Some says) = FitsGather says

abbrev pub FitsView : Option Content → Type 0
FitsView None = Unit {0}
FitsView (Some view) = IsMetric view

-- a Route has no whole exactly where it is Removed, and then one view for each aggregator and output, none of
-- which is there
abbrev pub FitsRoute : JournalSetup → Option Content → Verdict → List (Option Content) → List (Option Content)
    → Type 0
FitsRoute setup None verdict aggs outs =
    (verdict ≡ Removed) × (aggs ≡ replicate (length setup.aggs) None) × (outs ≡ replicate (length setup.outputs) None)
FitsRoute setup (Some whole) verdict aggs outs =
    ((verdict ≡ Removed) → ⊥) × IsMetric whole × AllByRecursion FitsView aggs × AllByRecursion FitsView outs

-- numbers fit, metrics are metrics, and a Route is one of this set-up
abbrev pub FitsEntry : JournalSetup → Entry → Type 0
FitsEntry setup (Ended input) = input < 2 ^ 32
FitsEntry setup (Take item) = item < 2 ^ 64
FitsEntry setup (Route item whole verdict aggs outs reports) =
    (item < 2 ^ 64) × FitsRoute setup whole verdict aggs outs
FitsEntry setup (Tick moment made) = FitsSigned w64 moment × FitMetrics made
FitsEntry setup (Stop moment made) = FitsSigned w64 moment × FitMetrics made
FitsEntry setup (Begin output from to) = (output < 2 ^ 32) × (from < 2 ^ 64) × (to < 2 ^ 64)
FitsEntry setup (Done output ok reports) = output < 2 ^ 32
FitsEntry setup e = FitsGathered (gather_of e)

-- ---- reports

-- the input of an entry that is a Gather of the group, else what was found before
abbrev pub input_here : ℕ → Option ℕ → Option GatherSays → Option ℕ
input_here group found None = found
input_here group found (Some says) = input_if group found says.group says.input
  where
    input_if : ℕ → Option ℕ → Option ℕ → ℕ → Option ℕ
    input_if group found None input = found
    input_if group found (Some gathered) input = if gathered == group then Some input else found

-- the input of the last Gather of the group, where there is one
unfoldable pub last_input : ℕ → Option ℕ → List Entry → Option ℕ
last_input group found [] = found
last_input group found (e ∷ es) = last_input group (input_here group found (gather_of e)) es

-- a report's group was gathered by one of these entries, and its input is that of the last of them
pub record IsReport (entries : List Entry) (report : Report) : Type 0 where
  pub group : report.group < 2 ^ 64
  pub input : last_input report.group None entries ≡ Some report.input

-- the reports of an entry rise by their groups, each gathered by an entry up to it
pub record AreReports (entries : List Entry) (reports : List Report) : Type 0 where
  pub each : AllByRecursion (IsReport entries) reports
  pub rising : IsStrictlySortedBy nat_cmp (map (λ (report : Report). report.group) reports)

-- so are those of each entry, behind these entries
abbrev pub HaveReports : List Entry → List Entry → Type 0
HaveReports before [] = Unit {0}
HaveReports before (e ∷ es) = AreReports (before ++ e ∷ []) (reports_of e) × HaveReports (before ++ e ∷ []) es

-- ---- the account

-- an account of this set-up: one of its inputs, tracked as they are, and its outputs, with any numbers below 2^64
pub record IsAccount (setup : JournalSetup) (account : List ℕ) : Type 0 where
  pub numbers : Numbers
  pub inputs : map (λ (x : InputNumbers). x.tracked) numbers.inputs ≡ map is_some setup.inputs
  pub outputs : length numbers.outputs ≡ length setup.outputs
  pub inputs_below : AllByRecursion (IsInputBelow (2 ^ 64)) numbers.inputs
  pub outputs_below : AllByRecursion (IsOutputBelow (2 ^ 64)) numbers.outputs
  pub made : numbers.made < 2 ^ 64
  pub removed : numbers.removed < 2 ^ 64
  pub routed : numbers.routed < 2 ^ 64
  pub is : account ≡ account_text numbers

-- ---- all

-- numbers fit, metrics are metrics, Routes and reports are as above, and the account is one of the set-up
pub record Spellable (setup : JournalSetup) (entries : List Entry) (account : List ℕ) : Type 0 where
  pub setup_fits : FitsSetup setup
  pub entries_fit : AllByRecursion (FitsEntry setup) entries
  pub reports_stand : HaveReports [] entries
  pub is_account : IsAccount setup account
