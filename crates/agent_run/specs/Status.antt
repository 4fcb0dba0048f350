-- The exit status of each end of a run.
use Rattle.std.specs.Prelude.{ℕ}
use Rattle.agent_run.specs.declared.status.Status.{Status}
use Rattle.agent_run.specs.declared.status.Status.TheVariants.{Done, Usage, Config, ReadFault, OpenFault}
use Rattle.agent_run.specs.declared.status.Status.TheVariants.{Left, ReportFault, Limit, OutOfMemory}

abbrev pub code_of : Status → ℕ
code_of Done = 0
code_of Usage = 2
code_of Config = 3
code_of ReadFault = 4
code_of OpenFault = 5
code_of Left = 6
code_of ReportFault = 7
code_of Limit = 8
code_of OutOfMemory = 9
