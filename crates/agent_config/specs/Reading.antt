-- What is answered of a text.
use Rattle.std.specs.Prelude.{◌≡◌, ℕ, List, [], Some, option_map, Result, Ok, Err}
use Rattle.agent_config.specs.Faults.{first, text_faults, tree_faults, tree_of}
use Rattle.agent_config.specs.Values.{config_of}
use Rattle.agent_config.specs.declared.config.Config.{Config}
use Rattle.agent_config.specs.declared.fault.ConfigFault.{ConfigFault}
use Rattle.agent_config.specs.declared.fault.Fault.{Fault}
use Rattle.agent_config.specs.declared.fault.ConfigKind.TheVariants.{OutOfMemory}
use Rattle.agent_config.specs.declared.fault.Class.TheVariants.{Root}

-- the values of a text without faults, or the first fault
abbrev pub Checks : List ℕ → Result Config Fault → Type 0
Checks text (Ok config) = (text_faults text ≡ []) × (option_map config_of (tree_of text) ≡ Some config)
Checks text (Err fault) = first (tree_faults (tree_of text)) ≡ Some fault

-- the fault that no memory was left
abbrev pub memory_fault : ConfigFault
memory_fault = record { kind = OutOfMemory; class = Root; number = 0 }
