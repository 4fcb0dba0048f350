-- What is seen of a metric that reaches a step, and what stages make of one.
use Rattle.std.specs.Prelude.{◌≡◌, ◌++◌, ◌&&◌, ℕ, Bool, List, [], ◌∷◌, take, drop, Option, Some, None}
use Rattle.std.specs.Prelude.{Result, Ok, Err}
use Rattle.std.specs.Option.{option_map}
use Rattle.metric.specs.declared.metric.Content.{Content}
use Rattle.metric_filter.specs.Kept.{is_same, metric_of, IsKeptOf}
use Rattle.metric_filter.specs.declared.kept.Kept.{Kept}
use Rattle.proc_dedup.specs.Dedup.{Memory}
use Rattle.proc_chain.specs.Chain.{steps_of, AllStand, CanBeKept, StageStands, StageState, StageWillStand}
use Rattle.proc_chain.specs.Chain.{WorkStands, WorkWillStand}
use Rattle.proc_chain.specs.Steps.{chain_result, step_result, worked}
use Rattle.proc_chain.specs.declared.stage.Seen.{Seen}
use Rattle.proc_chain.specs.declared.stage.Seen.TheVariants.{Removed, Passes, Fresh}
use Rattle.proc_chain.specs.declared.step.StepWork.{StepWork}

-- what a work makes of a metric, and what it remembers then: it stands for the list with the metric, or will as soon as
-- what is to be kept is
abbrev pub WorkSees : StepWork → List Content → Content → Seen → Option Memory → Type 0
WorkSees work list m Removed memory = (worked work list m ≡ None) × WorkStands work (list ++ m ∷ []) memory
WorkSees work list m (Passes left) memory =
    (worked work list m ≡ Some (metric_of left)) × WorkStands work (list ++ m ∷ []) memory
WorkSees work list m (Fresh left fresh) memory =
    (worked work list m ≡ Some (metric_of left)) × WorkWillStand work (list ++ m ∷ []) memory fresh

-- the same of a step
abbrev pub StageSees : StageState → List Content → Content → Seen → StageState → Type 0
StageSees old list m Removed new = (step_result old.step list m ≡ None) × StageStands new (list ++ m ∷ [])
StageSees old list m (Passes left) new =
    (step_result old.step list m ≡ Some (metric_of left)) × StageStands new (list ++ m ∷ [])
StageSees old list m (Fresh left fresh) new =
    (step_result old.step list m ≡ Some (metric_of left)) × StageWillStand new (list ++ m ∷ []) fresh

-- what is to be kept can be
abbrev pub CanKeep : Option Memory → Seen → Type 0
CanKeep memory (Fresh left fresh) = CanBeKept memory fresh
CanKeep memory seen = Unit {0}

-- what passes on, if anything does
abbrev pub passing : Seen → Option Kept
passing Removed = None
passing (Passes left) = Some left
passing (Fresh left fresh) = Some left

-- what is left of a metric is said to be the one that was pushed exactly where that was said before, and what was done
-- since leaves it as it is; there it is the metric that there was before
pub record GoesOn (as_is : Bool) (before after : Kept) : Type 0 where
  pub same : is_same after ≡ (is_same before && as_is)
  pub itself : IsKeptOf (metric_of before) after

-- what stages make of a metric: they answer what their steps give, and stand for the list with it; after an error they
-- stand for the same list
abbrev pub Pushes : {E : Type 0}
    → List StageState → List Content → Content → Result (Option Kept) E → List StageState → Type 0
Pushes old list m (Ok answer) new =
    (option_map metric_of answer ≡ chain_result (steps_of old) list m) × AllStand new (list ++ m ∷ [])
Pushes old list m (Err e) new = AllStand new list

-- what the stages from an index on make of it, for every list for which they stand; those before them stay as they are
pub record PushesFrom {E : Type 0} (at : ℕ) (old : List StageState) (m : Content) (result : Result (Option Kept) E)
    (new : List StageState) : Type 0 where
  pub front : take at new ≡ take at old
  pub steps : steps_of new ≡ steps_of old
  pub pushes : (list : List Content) → AllStand (drop at old) list → Pushes (drop at old) list m result (drop at new)
