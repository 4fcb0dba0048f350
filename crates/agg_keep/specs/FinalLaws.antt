-- Lists of calls of final.
use Rattle.std.specs.Prelude.{◌≡◌, ℤ, List, [], ◌∷◌, ◌++◌}
use Rattle.metric.specs.declared.metric.Content.{Content}
use Rattle.agg_keep.specs.Final.{finals_of, left_of}
use Rattle.agg_keep.specs.FinalKept.{FinalMemory, FinalStandsFor}
use Rattle.agg_keep.specs.declared.closing.Closing.{Closing}

-- a call that answered Ok
pub data FinalCall : Type 0 where
  Add : Content → FinalCall
  -- at a closing, with the metrics that it gave
  Emit : Closing → List Content → FinalCall

-- each emit gives what its closing gives of its members, and what it leaves are the members behind it
unfoldable pub EmitFinals : ℤ → List Content → List FinalCall → Type 0
EmitFinals timeout members [] = Unit {0}
EmitFinals timeout members (Add m ∷ calls) = EmitFinals timeout (members ++ m ∷ []) calls
EmitFinals timeout members (Emit closing made ∷ calls) =
    (made ≡ finals_of timeout closing members) × EmitFinals timeout (left_of timeout closing members) calls

-- what the contract of a call says of the memory before it and behind it, where it answered Ok
abbrev pub Finals : FinalCall → FinalMemory → FinalMemory → Type 0
Finals (Add m) old new =
    (timeout : ℤ) (members : List Content) → FinalStandsFor timeout members old
    → FinalStandsFor timeout (members ++ m ∷ []) new
Finals (Emit closing made) old new =
    (timeout : ℤ) (members : List Content) → FinalStandsFor timeout members old
    → (made ≡ finals_of timeout closing members) × FinalStandsFor timeout (left_of timeout closing members) new

-- the calls go from one memory to another, each as its contract says
unfoldable pub FinalGoes : FinalMemory → List FinalCall → FinalMemory → Type 0
FinalGoes old [] new = new ≡ old
FinalGoes old (call ∷ calls) new = (mid : FinalMemory) × Finals call old mid × FinalGoes mid calls new

-- whatever list of calls comes behind a new one
abbrev pub CallsFinal : Type 0
CallsFinal =
    (timeout : ℤ) (first last : FinalMemory) (calls : List FinalCall) → FinalStandsFor timeout [] first
    → FinalGoes first calls last → EmitFinals timeout [] calls
