-- What a chain of steps remembers of the metrics that were pushed to it.
use Rattle.std.specs.Prelude.{◌≡◌, ◌++◌, ℤ, false, List, [], ◌∷◌, map, IsSomeAnd}
use Rattle.std.specs.declared.option.Option.{Option}
use Rattle.metric.specs.declared.metric.Content.{Content}
use Rattle.proc_dedup.specs.Dedup.{is_removed, HasRoom, Memory, StandsFor}
use Rattle.proc_dedup.specs.Repeats.{series_of}
use Rattle.proc_chain.specs.Steps.{given, passed}
use Rattle.proc_chain.specs.declared.step.Step.{Step}
use Rattle.proc_chain.specs.declared.step.StepWork.{StepWork}
use Rattle.proc_chain.specs.declared.step.StepWork.TheVariants.{Dedup}

-- a step with what its work remembers, if it does
pub record StageState : Type 0 where
  pub step : Step
  pub memory : Option Memory

-- a work stands for the metrics that were given to it: only one that removes repeated ones remembers them
abbrev pub WorkStands : StepWork → List Content → Option Memory → Type 0
WorkStands (Dedup interval) list memory = IsSomeAnd memory (StandsFor interval list)
WorkStands work list memory = Unit {0}

-- a step stands for the metrics that reached it
abbrev pub StageStands : StageState → List Content → Type 0
StageStands stage list = WorkStands stage.step.work (given stage.step list) stage.memory

-- each step stands for what the one before it passed on
abbrev pub AllStand : List StageState → List Content → Type 0
AllStand [] list = Unit {0}
AllStand (stage ∷ stages) list = StageStands stage list × AllStand stages (passed stage.step list)

abbrev pub steps_of : List StageState → List Step
steps_of stages = map (λ (stage : StageState). stage.step) stages

-- a chain has these steps, and stands for the metrics that were pushed
pub record IsBehind (steps : List Step) (list : List Content) (chain : List StageState) : Type 0 where
  pub same : steps_of chain ≡ steps
  pub each : AllStand chain list

-- ---- metrics that were looked at, and are to be kept

-- a metric can be kept without more memory
abbrev pub CanBeKept : Option Memory → Content → Type 0
CanBeKept memory m = IsSomeAnd memory (λ memory. HasRoom memory.kept (series_of m))

-- a work will stand for a list as soon as a metric is kept, which is the last one of the list and isn't removed
pub record WillStand (interval : ℤ) (list : List Content) (memory : Option Memory) (m : Content) : Type 0 where
  pub earlier : List Content
  pub all : list ≡ earlier ++ m ∷ []
  pub stands : IsSomeAnd memory (StandsFor interval earlier)
  pub fresh : is_removed interval earlier m ≡ false

-- only one that removes repeated metrics keeps any
abbrev pub WorkWillStand : StepWork → List Content → Option Memory → Content → Type 0
WorkWillStand (Dedup interval) list memory m = WillStand interval list memory m
WorkWillStand work list memory m = ⊥

-- the same of a step
abbrev pub StageWillStand : StageState → List Content → Content → Type 0
StageWillStand stage list m = WorkWillStand stage.step.work (given stage.step list) stage.memory m
