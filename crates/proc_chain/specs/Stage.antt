-- How a step's work at hand is seen.
use Rattle.std.specs.Prelude.{Option, Some, None}
use Rattle.proc_dedup.specs.Dedup.{Memory}
use Rattle.proc_chain.specs.declared.stage.StageWork.{StageWork}
use Rattle.proc_chain.specs.declared.stage.StageWork.TheVariants.{Rename, Convert, Dedup, Regex}
use Rattle.proc_chain.specs.declared.step.StepWork.{StepWork}
use Rattle.proc_chain.specs.declared.step.StepWork.TheVariants as said

-- the work that a configuration says
abbrev pub work_of : StageWork → StepWork
work_of (Rename rename) = said.Rename rename.now
work_of (Convert convert) = said.Convert convert.now
work_of (Dedup interval memory) = said.Dedup interval
work_of (Regex rules) = said.Regex rules.items

-- what it remembers
abbrev pub memory_of : StageWork → Option Memory
memory_of (Dedup interval memory) = Some memory
memory_of work = None
