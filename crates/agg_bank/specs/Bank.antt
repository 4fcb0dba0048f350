-- What a bank keeps of the events that it met.
use Rattle.std.specs.Prelude.{◌≡◌, ℕ, ℤ, Bool, List, map, Some, slice_get}
use Rattle.account.specs.declared.setup.AggLine.{AggLine}
use Rattle.account.specs.declared.setup.AggWord.{AggWord}
use Rattle.account.specs.declared.setup.AggWord.TheVariants.{MinMax, Basic, Merge, Final}
use Rattle.metric.specs.declared.metric.Content.{Content}
use Rattle.agg_keep.specs.FinalKept.{FinalMemory, FinalStandsFor}
use Rattle.agg_keep.specs.MergeKept.{MergeMemory, MergeStandsFor}
use Rattle.agg_stats.specs.Kept.{StandsFor, Memory}
use Rattle.agg_stats.specs.declared.kind.StatsKind.TheVariants as stats
use Rattle.agg_bank.specs.Events.{BankEvent, has_stopped}
use Rattle.agg_bank.specs.Members.{members}
use Rattle.agg_bank.specs.Windows.{begin_of, window_number}

-- what is kept of members, by the kind
pub data FoldMemory : Type 0 where
  OfStats : Memory → FoldMemory
  OfMerge : MergeMemory → FoldMemory
  OfFinal : FinalMemory → FoldMemory

-- an aggregator: its line, where its window begins, and what it keeps
pub record AggMemory : Type 0 where
  pub line : AggLine
  pub begin : ℤ
  pub fold : FoldMemory

pub record BankMemory : Type 0 where
  pub aggregators : List AggMemory
  pub stopped : Bool

-- what is kept stands for members
abbrev pub FoldStands : AggWord → List Content → FoldMemory → Type 0
FoldStands MinMax members (OfStats memory) = StandsFor stats.MinMax members memory
FoldStands (Basic sum count min max) members (OfStats memory) =
    StandsFor (stats.Basic sum count min max) members memory
FoldStands Merge members (OfMerge memory) = MergeStandsFor members memory
FoldStands (Final timeout) members (OfFinal memory) = FinalStandsFor timeout members memory
FoldStands kind members memory = ⊥

-- an aggregator stands for the events
pub record AggStands (aggregator : ℕ) (start : ℤ) (events : List BankEvent) (memory : AggMemory) : Type 0 where
  pub begin : memory.begin ≡ begin_of memory.line (window_number memory.line start events)
  pub fold : FoldStands memory.line.kind (members aggregator memory.line start events) memory.fold

-- the lines of its aggregators, in order
abbrev pub lines_of : BankMemory → List AggLine
lines_of bank = map (λ (memory : AggMemory). memory.line) bank.aggregators

-- a bank of these lines, made at the start, stands for the events
pub record BankStands (lines : List AggLine) (start : ℤ) (events : List BankEvent) (bank : BankMemory) : Type 0 where
  pub same : lines_of bank ≡ lines
  pub stopped : bank.stopped ≡ has_stopped events
  pub each : (aggregator : ℕ) (memory : AggMemory) → slice_get bank.aggregators aggregator ≡ Some memory
      → AggStands aggregator start events memory
