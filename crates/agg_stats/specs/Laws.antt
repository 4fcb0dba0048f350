-- Lists of calls.
use Rattle.std.specs.Prelude.{◌≡◌, ◌<◌, ℤ, List, [], ◌∷◌, ◌++◌, length}
use Rattle.metric.specs.declared.metric.Content.{Content}
use Rattle.agg_stats.specs.Folds.{stats_of}
use Rattle.agg_stats.specs.Kept.{Memory, StandsFor}
use Rattle.agg_stats.specs.declared.kind.StatsKind.{StatsKind}

-- a call that answered Ok
pub data StatsCall : Type 0 where
  Add : Content → StatsCall
  -- at a time, with the metrics that it gave
  Emit : ℤ → List Content → StatsCall

-- the members after a call
abbrev pub members_after : List Content → StatsCall → List Content
members_after members (Add m) = members ++ m ∷ []
members_after members (Emit time made) = []

-- each emit gives the fold of its members, which are the metrics that were added since the one before
unfoldable pub EmitFolds : StatsKind → List Content → List StatsCall → Type 0
EmitFolds kind members [] = Unit {0}
EmitFolds kind members (Add m ∷ calls) = EmitFolds kind (members ++ m ∷ []) calls
EmitFolds kind members (Emit time made ∷ calls) = (made ≡ stats_of kind time members) × EmitFolds kind [] calls

-- what the contract of a call says of the memory before it and behind it, where it answered Ok
abbrev pub Answers : StatsCall → Memory → Memory → Type 0
Answers (Add m) old new =
    (kind : StatsKind) (members : List Content) → StandsFor kind members old → length members < 4294967296
    → StandsFor kind (members ++ m ∷ []) new
Answers (Emit time made) old new =
    (kind : StatsKind) (members : List Content) → StandsFor kind members old
    → (made ≡ stats_of kind time members) × StandsFor kind [] new

-- the calls go from one memory to another, each as its contract says
unfoldable pub Goes : Memory → List StatsCall → Memory → Type 0
Goes old [] new = new ≡ old
Goes old (call ∷ calls) new = (mid : Memory) × Answers call old mid × Goes mid calls new

-- fewer than 2^32 members stand before each add
unfoldable pub AreFew : List Content → List StatsCall → Type 0
AreFew members [] = Unit {0}
AreFew members (Add m ∷ calls) = (length members < 4294967296) × AreFew (members ++ m ∷ []) calls
AreFew members (Emit time made ∷ calls) = AreFew [] calls

-- whatever list of calls comes behind a new one
abbrev pub CallsFold : Type 0
CallsFold =
    (kind : StatsKind) (first last : Memory) (calls : List StatsCall) → StandsFor kind [] first → Goes first calls last
    → AreFew [] calls → EmitFolds kind [] calls
