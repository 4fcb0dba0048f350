-- Faults as they are told: a text has each kind but that no memory was left.
use Rattle.agent_config.specs.declared.fault.ConfigFault.{ConfigFault}
use Rattle.agent_config.specs.declared.fault.ConfigKind.{ConfigKind}
use Rattle.agent_config.specs.declared.fault.ConfigKind.TheVariants as told
use Rattle.agent_config.specs.declared.fault.Fault.{Fault}
use Rattle.agent_config.specs.declared.fault.FaultKind.{FaultKind}
use Rattle.agent_config.specs.declared.fault.FaultKind.TheVariants as kinds

abbrev pub kind_told : FaultKind → ConfigKind
kind_told kinds.NotToml = told.NotToml
kind_told kinds.UnknownKind = told.UnknownKind
kind_told kinds.UnknownKey = told.UnknownKey
kind_told kinds.WrongType = told.WrongType
kind_told kinds.Missing = told.Missing
kind_told kinds.OutOfRange = told.OutOfRange
kind_told kinds.BadGlob = told.BadGlob
kind_told kinds.BadPattern = told.BadPattern
kind_told kinds.BadTemplate = told.BadTemplate
kind_told kinds.TooManyPlugins = told.TooManyPlugins
kind_told kinds.NoInput = told.NoInput
kind_told kinds.NoOutput = told.NoOutput
kind_told kinds.BatchAboveLimit = told.BatchAboveLimit
kind_told kinds.SamePlace = told.SamePlace

abbrev pub fault_told : Fault → ConfigFault
fault_told fault = record { kind = kind_told fault.kind; class = fault.class; number = fault.number }
