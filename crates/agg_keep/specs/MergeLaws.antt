-- Lists of calls of merge.
use Rattle.std.specs.Prelude.{◌≡◌, List, [], ◌∷◌, ◌++◌}
use Rattle.metric.specs.declared.metric.Content.{Content}
use Rattle.agg_keep.specs.Merge.{merge_of}
use Rattle.agg_keep.specs.MergeKept.{MergeMemory, MergeStandsFor}

-- a call that answered Ok
pub data MergeCall : Type 0 where
  Add : Content → MergeCall
  -- with the metrics that it gave
  Emit : List Content → MergeCall

-- each emit gives the merge of its members, which are the metrics that were added since the one before
unfoldable pub EmitMerges : List Content → List MergeCall → Type 0
EmitMerges members [] = Unit {0}
EmitMerges members (Add m ∷ calls) = EmitMerges (members ++ m ∷ []) calls
EmitMerges members (Emit made ∷ calls) = (made ≡ merge_of members) × EmitMerges [] calls

-- what the contract of a call says of the memory before it and behind it, where it answered Ok
abbrev pub Merges : MergeCall → MergeMemory → MergeMemory → Type 0
Merges (Add m) old new =
    (members : List Content) → MergeStandsFor members old → MergeStandsFor (members ++ m ∷ []) new
Merges (Emit made) old new =
    (members : List Content) → MergeStandsFor members old → (made ≡ merge_of members) × MergeStandsFor [] new

-- the calls go from one memory to another, each as its contract says
unfoldable pub MergeGoes : MergeMemory → List MergeCall → MergeMemory → Type 0
MergeGoes old [] new = new ≡ old
MergeGoes old (call ∷ calls) new = (mid : MergeMemory) × Merges call old mid × MergeGoes mid calls new

-- whatever list of calls comes behind a new one
abbrev pub CallsMerge : Type 0
CallsMerge =
    (first last : MergeMemory) (calls : List MergeCall) → MergeStandsFor [] first → MergeGoes first calls last
    → EmitMerges [] calls
