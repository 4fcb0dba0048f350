-- Numbers and times that are written in a text without faults, and those of its configuration.
use Rattle.std.specs.Prelude.{◌≡◌, ◌≤◌, ℕ, ℤ, pos, List, [], codes, Option, Some, None, IfSome, length, option_and_then}
use Rattle.std.specs.List.{AllZip}
use Rattle.toml.specs.Data.{Members, as_integer, as_str, get_member}
use Rattle.agent_config.specs.Faults.{Plugin, plugins_at, text_faults, tree_of, udp_place}
use Rattle.agent_config.specs.Rows.{table_at, time_in}
use Rattle.agent_config.specs.Filters.{plugin_members}
use Rattle.agent_config.specs.Kinds.{kind_of}
use Rattle.agent_config.specs.Values.{config_of}
use Rattle.agent_config.specs.declared.config.AgentConf.{AgentConf}
use Rattle.agent_config.specs.declared.config.Config.{Config}
use Rattle.agent_config.specs.declared.config.InputConf.{InputConf}
use Rattle.agent_config.specs.declared.config.OutputConf.{OutputConf}
use Rattle.agent_config.specs.declared.fault.Class.TheVariants.{Inputs}
use Rattle.agent_config.specs.declared.table.Kind.TheVariants.{StatsdInput}

-- the whole number that stands at a key
abbrev pub number_in : List ℕ → Members → Option ℤ
number_in key members = option_and_then as_integer (get_member key members)

-- where a whole number stands at a key, it is this one
abbrev pub IsWritten : List ℕ → Members → ℕ → Type 0
IsWritten key members n = IfSome (number_in key members) (λ written. written ≡ pos n)

-- a size of an output is the one that stands at its key there, or else at that of `agent`
pub record SizeIsWritten (key : List ℕ) (agent members : Members) (n : ℕ) : Type 0 where
  pub own : IsWritten key members n
  pub agents : number_in key members ≡ None → IsWritten key agent n

pub record OutputIsWritten (agent : Members) (plugin : Plugin) (output : OutputConf) : Type 0 where
  pub batch : SizeIsWritten (codes "metric_batch_size") agent (plugin_members plugin) output.batch
  pub limit : SizeIsWritten (codes "metric_buffer_limit") agent (plugin_members plugin) output.limit

-- the place of a server has the address that stands at its key, which isn't empty, and the numbers that stand at theirs
pub record ServerIsWritten (members : Members) (place : List ℕ) : Type 0 where
  pub address : List ℕ
  pub packets : ℕ
  pub quiet_limit : ℕ
  pub is : place ≡ udp_place address packets quiet_limit
  pub some : 1 ≤ length address
  pub said : option_and_then as_str (get_member (codes "service_address") members) ≡ Some address
  pub packets_said : IsWritten (codes "packets") members packets
  pub quiet_limit_said : IsWritten (codes "quiet_limit") members quiet_limit

-- how many groups of an input may be undelivered at once is the number that stands at its key
pub record InputIsWritten (plugin : Plugin) (input : InputConf) : Type 0 where
  pub undelivered : IsWritten (codes "max_undelivered_messages") (plugin_members plugin) input.max_undelivered
  pub server : kind_of Inputs plugin.name ≡ Some StatsdInput → ServerIsWritten (plugin_members plugin) input.place

pub record AgentIsWritten (agent : Members) (conf : AgentConf) : Type 0 where
  pub gather_pieces : IsWritten (codes "gather_pieces") agent conf.gather_pieces
  pub final_tries : IsWritten (codes "final_tries") agent conf.final_tries
  pub flush_interval : IfSome (option_and_then time_in (get_member (codes "flush_interval") agent))
      (λ time. time ≡ conf.flush_interval)

pub record IsAsWritten (root : Members) (config : Config) : Type 0 where
  pub agent : AgentIsWritten (table_at (codes "agent") root) config.agent
  pub inputs : AllZip InputIsWritten (plugins_at (codes "inputs") root) config.inputs
  pub outputs : AllZip (OutputIsWritten (table_at (codes "agent") root)) (plugins_at (codes "outputs") root)
      config.outputs

-- where a text has no fault, a number or a time that is written is that of the configuration, as is what is written of
-- a
-- server that of its place
abbrev pub WrittenCounts : Type 0
WrittenCounts =
    (text : List ℕ) (root : Members) → tree_of text ≡ Some root → text_faults text ≡ []
    → IsAsWritten root (config_of root)
