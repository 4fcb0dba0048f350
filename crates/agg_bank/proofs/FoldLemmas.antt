-- What is kept of members, by the kind of the aggregator.
use Rattle.std.proofs.Common.{ℤ, List, []}
use Rattle.account.specs.declared.setup.AggWord.{AggWord}
use Rattle.account.specs.declared.setup.AggWord.TheVariants.{MinMax, Basic, Merge, Final}
use Rattle.metric.specs.declared.metric.Content.{Content}
use Rattle.agg_keep.specs.Final.{finals_of, left_of}
use Rattle.agg_keep.specs.FinalKept.{FinalMemory, FinalStandsFor}
use Rattle.agg_keep.specs.Merge.{merge_of}
use Rattle.agg_keep.specs.MergeKept.{MergeMemory, MergeStandsFor}
use Rattle.agg_stats.specs.Folds.{stats_of}
use Rattle.agg_stats.specs.Kept.{Memory, StandsFor}
use Rattle.agg_stats.specs.declared.kind.StatsKind.{StatsKind}
use Rattle.agg_stats.specs.declared.kind.StatsKind.TheVariants as kind
use Rattle.agg_bank.specs.Bank.{FoldMemory, FoldStands, OfFinal, OfMerge, OfStats}
use Rattle.agg_keep.specs.declared.closing.Closing.{Closing}
use Rattle.agg_bank.specs.Made.{folded}
use Rattle.agg_bank.specs.Members.{left_by}
use Rattle.agg_bank.specs.Ready.{FoldCanAdd, FoldIsReady}

-- ---- minmax and basicstats

module _ (old : Memory) where
  pub stats_goes : (new : Memory) (ms news : List Content)
      → ((k : StatsKind) → StandsFor k ms old → StandsFor k news new)
      → (word : AggWord) → FoldStands word ms (OfStats old) → FoldStands word news (OfStats new)
  stats_goes new ms news h MinMax s = h kind.MinMax s
  stats_goes new ms news h (Basic sum count min max) s = h (kind.Basic sum count min max) s
  stats_goes new ms news h Merge s = s
  stats_goes new ms news h (Final timeout) s = s

  pub stats_forget : (new : Memory) (closing : Closing) (ms : List Content)
      → ((k : StatsKind) → StandsFor k ms old → StandsFor k [] new)
      → (word : AggWord) → FoldStands word ms (OfStats old) → FoldStands word (left_by word closing ms) (OfStats new)
  stats_forget new closing ms h MinMax s = h kind.MinMax s
  stats_forget new closing ms h (Basic sum count min max) s = h (kind.Basic sum count min max) s
  stats_forget new closing ms h Merge s = absurd s
  stats_forget new closing ms h (Final timeout) s = absurd s

  pub stats_made : (Q : List Content → Type 0) (time : ℤ) (closing : Closing) (ms : List Content)
      → ((k : StatsKind) → StandsFor k ms old → Q (stats_of k time ms))
      → (word : AggWord) → FoldStands word ms (OfStats old) → Q (folded word time closing ms)
  stats_made Q time closing ms h MinMax s = h kind.MinMax s
  stats_made Q time closing ms h (Basic sum count min max) s = h (kind.Basic sum count min max) s
  stats_made Q time closing ms h Merge s = absurd s
  stats_made Q time closing ms h (Final timeout) s = absurd s

-- ---- merge

module _ (old : MergeMemory) where
  pub merge_goes : (new : MergeMemory) (ms news : List Content)
      → (MergeStandsFor ms old → MergeStandsFor news new)
      → (word : AggWord) → FoldStands word ms (OfMerge old) → FoldStands word news (OfMerge new)
  merge_goes new ms news h MinMax s = s
  merge_goes new ms news h (Basic sum count min max) s = s
  merge_goes new ms news h Merge s = h s
  merge_goes new ms news h (Final timeout) s = s

  pub merge_forget : (new : MergeMemory) (closing : Closing) (ms : List Content)
      → (MergeStandsFor ms old → MergeStandsFor [] new)
      → (word : AggWord) → FoldStands word ms (OfMerge old) → FoldStands word (left_by word closing ms) (OfMerge new)
  merge_forget new closing ms h MinMax s = absurd s
  merge_forget new closing ms h (Basic sum count min max) s = absurd s
  merge_forget new closing ms h Merge s = h s
  merge_forget new closing ms h (Final timeout) s = absurd s

  pub merge_made : (Q : List Content → Type 0) (time : ℤ) (closing : Closing) (ms : List Content)
      → (MergeStandsFor ms old → Q (merge_of ms))
      → (word : AggWord) → FoldStands word ms (OfMerge old) → Q (folded word time closing ms)
  merge_made Q time closing ms h MinMax s = absurd s
  merge_made Q time closing ms h (Basic sum count min max) s = absurd s
  merge_made Q time closing ms h Merge s = h s
  merge_made Q time closing ms h (Final timeout) s = absurd s

-- ---- final

module _ (old : FinalMemory) where
  pub final_goes : (new : FinalMemory) (ms news : List Content)
      → ((timeout : ℤ) → FinalStandsFor timeout ms old → FinalStandsFor timeout news new)
      → (word : AggWord) → FoldStands word ms (OfFinal old) → FoldStands word news (OfFinal new)
  final_goes new ms news h MinMax s = s
  final_goes new ms news h (Basic sum count min max) s = s
  final_goes new ms news h Merge s = s
  final_goes new ms news h (Final timeout) s = h timeout s

  pub final_forget : (new : FinalMemory) (closing : Closing) (ms : List Content)
      → ((timeout : ℤ) → FinalStandsFor timeout ms old → FinalStandsFor timeout (left_of timeout closing ms) new)
      → (word : AggWord) → FoldStands word ms (OfFinal old) → FoldStands word (left_by word closing ms) (OfFinal new)
  final_forget new closing ms h MinMax s = absurd s
  final_forget new closing ms h (Basic sum count min max) s = absurd s
  final_forget new closing ms h Merge s = absurd s
  final_forget new closing ms h (Final timeout) s = h timeout s

  pub final_made : (Q : List Content → Type 0) (time : ℤ) (closing : Closing) (ms : List Content)
      → ((timeout : ℤ) → FinalStandsFor timeout ms old → Q (finals_of timeout closing ms))
      → (word : AggWord) → FoldStands word ms (OfFinal old) → Q (folded word time closing ms)
  final_made Q time closing ms h MinMax s = absurd s
  final_made Q time closing ms h (Basic sum count min max) s = absurd s
  final_made Q time closing ms h Merge s = absurd s
  final_made Q time closing ms h (Final timeout) s = h timeout s

-- ---- what is prepared

pub ready_can : (m : Content) (memory : FoldMemory) → FoldIsReady m memory → FoldCanAdd memory
ready_can m (OfStats memory) ready = ready.can
ready_can m (OfMerge memory) ready = ready.can
ready_can m (OfFinal memory) ready = ready.can
