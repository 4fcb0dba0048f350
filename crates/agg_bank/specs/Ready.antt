-- What is asked of the aggregators of a bank, one after the other.
use Rattle.std.specs.Prelude.{◌≡◌, ◌<◌, ◌^◌, ◌++◌, ◌∷◌, [], ◌&&◌, ◌-ℤ◌, ℕ, ℤ, Bool, true, false, not, int_lt, List}
use Rattle.std.specs.Prelude.{Option, Some, None, is_some, map, slice_get, zip, if◌then◌else◌}
use Rattle.std.specs.List.{list_any}
use Rattle.account.specs.declared.entry.Verdict.{Verdict}
use Rattle.account.specs.declared.entry.Verdict.TheVariants.{Passes, Consumed, Late}
use Rattle.account.specs.declared.setup.AggLine.{AggLine}
use Rattle.account.specs.declared.setup.AggWord.{AggWord}
use Rattle.metric.specs.declared.metric.Content.{Content}
use Rattle.agg_keep.specs.FinalKept as final
use Rattle.agg_keep.specs.MergeKept as merge
use Rattle.agg_stats.specs.Kept as stats
use Rattle.agg_bank.specs.Bank.{AggMemory, AggStands, FoldMemory, FoldStands, OfFinal, OfMerge, OfStats}
use Rattle.agg_keep.specs.declared.closing.Closing.{Closing}
use Rattle.agg_bank.specs.Events.{has_stopped, offered, BankEvent, Offer}
use Rattle.agg_bank.specs.Open.{begin_at, is_open_to}

-- ---- what is kept of members

-- what is prepared can be added without more memory
abbrev pub FoldCanAdd : FoldMemory → Type 0
FoldCanAdd (OfStats memory) = stats.CanAdd memory memory.ready
FoldCanAdd (OfMerge memory) = merge.CanMerge memory memory.ready
FoldCanAdd (OfFinal memory) = final.CanAdd memory memory.ready

-- it is prepared for a metric
abbrev pub FoldIsReady : Content → FoldMemory → Type 0
FoldIsReady m (OfStats memory) = stats.IsReady m memory
FoldIsReady m (OfMerge memory) = merge.IsMergeReady m memory
FoldIsReady m (OfFinal memory) = final.IsFinalReady m memory

-- ---- one aggregator

-- does it take a view, before a stop or behind one
abbrev pub takes_at : Bool → AggMemory → Option Content → Bool
takes_at stopped memory None = false
takes_at stopped memory (Some m) = not stopped && is_open_to memory.line memory.begin m.time

-- is a tick or the stop a closing to it
abbrev pub closes_at : Bool → AggMemory → ℤ → Bool → Bool
closes_at stopped memory moment all =
    if stopped then false
    else if all then true
    else int_lt memory.begin (begin_at memory.line (moment -ℤ memory.line.delay))

-- a closing, where there is one
abbrev pub closing_if : Bool → ℤ → Bool → Option Closing
closing_if closes moment all = if closes then Some (record { moment = moment; all = all }) else None

-- the members and the window are as they were
pub record Keeps (old new : AggMemory) : Type 0 where
  pub line : new.line ≡ old.line
  pub begin : new.begin ≡ old.begin
  pub fold : (kind : AggWord) (members : List Content) → FoldStands kind members old.fold
      → FoldStands kind members new.fold

-- it is prepared for a view, where it takes it
abbrev pub IsReadyFor : Bool → Option Content → AggMemory → Type 0
IsReadyFor stopped view memory =
    (m : Content) → view ≡ Some m → takes_at stopped memory view ≡ true → FoldIsReady m memory.fold

-- that, and it is prepared for its view
pub record Prepares (stopped : Bool) (views : List (Option Content)) (aggregator : ℕ) (old new : AggMemory)
    : Type 0 where
  pub keeps : Keeps old new
  pub ready : (view : Option Content) → slice_get views aggregator ≡ Some view → IsReadyFor stopped view new

-- it stands for an offer more
pub record Adds (stopped : Bool) (views : List (Option Content)) (aggregator : ℕ) (old new : AggMemory) : Type 0 where
  pub line : new.line ≡ old.line
  pub stands : (start : ℤ) (events : List BankEvent) → stopped ≡ has_stopped events → offered events < 2 ^ 32
      → AggStands aggregator start events old → AggStands aggregator start (events ++ Offer views ∷ []) new

-- it stands for a tick or a stop more
pub record Closes (stopped : Bool) (e : BankEvent) (aggregator : ℕ) (old new : AggMemory) : Type 0 where
  pub line : new.line ≡ old.line
  pub stands : (start : ℤ) (events : List BankEvent) → stopped ≡ has_stopped events
      → AggStands aggregator start events old → AggStands aggregator start (events ++ e ∷ []) new

-- ---- all of them

abbrev pub lines_in : List AggMemory → List AggLine
lines_in aggregators = map (λ (memory : AggMemory). memory.line) aggregators

-- each stands for the events
abbrev pub AllStand : ℤ → List BankEvent → List AggMemory → Type 0
AllStand start events aggregators =
    (aggregator : ℕ) (memory : AggMemory) → slice_get aggregators aggregator ≡ Some memory
    → AggStands aggregator start events memory

-- each is prepared for its view
abbrev pub AreReady : Bool → List (Option Content) → List AggMemory → Type 0
AreReady stopped views aggregators =
    (aggregator : ℕ) (memory : AggMemory) → slice_get aggregators aggregator ≡ Some memory
    → (view : Option Content) → slice_get views aggregator ≡ Some view → IsReadyFor stopped view memory

-- an aggregator came of the one at its place
pub record IsOf (R : ℕ → AggMemory → AggMemory → Type 0) (olds : List AggMemory) (aggregator : ℕ) (new : AggMemory)
    : Type 0 where
  pub old : AggMemory
  pub was : slice_get olds aggregator ≡ Some old
  pub is : R aggregator old new

-- each did
pub record EachIs (R : ℕ → AggMemory → AggMemory → Type 0) (olds news : List AggMemory) : Type 0 where
  pub lines : lines_in news ≡ lines_in olds
  pub each : (aggregator : ℕ) (new : AggMemory) → slice_get news aggregator ≡ Some new → IsOf R olds aggregator new

-- ---- verdicts

abbrev pub consumes_at : Bool → AggMemory × Option Content → Bool
consumes_at stopped offer = offer.0.line.dropping && takes_at stopped offer.0 offer.1

abbrev pub sees_at : AggMemory × Option Content → Bool
sees_at offer = offer.0.line.dropping && is_some offer.1

abbrev pub verdict_at : Bool → List AggMemory → List (Option Content) → Verdict
verdict_at stopped aggregators views =
    if list_any (consumes_at stopped) (zip aggregators views) then Consumed
    else if list_any sees_at (zip aggregators views) then Late
    else Passes
