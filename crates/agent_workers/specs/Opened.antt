-- What a configuration, its opened parts and its clocks make of a run.
use Rattle.std.specs.Prelude.{◌≡◌, ◌≤◌, ◌+◌, ℕ, ℤ, false, List, [], ◌∷◌, length, map, replicate, vec_len, vec_capacity}
use Rattle.std.specs.declared.option.Option.TheVariants.{None}
use Rattle.agent_base.specs.Carried.{Carried, Timed}
use Rattle.agent_base.specs.Hand.{Hand, empty_hand}
use Rattle.agent_config.specs.declared.config.Config.{Config}
use Rattle.agent_config.specs.declared.config.InputConf.{InputConf}
use Rattle.agent_config.specs.declared.config.OutputConf.{OutputConf}
use Rattle.pipeline_core.specs.CoreState.{CoreState}
use Rattle.pipeline_core.specs.Stands.{Stands}
use Rattle.pipeline_core.specs.declared.setup.InSetup.{InSetup}
use Rattle.pipeline_core.specs.declared.setup.OutSetup.{OutSetup}
use Rattle.formats.specs.Reader.{cut_of}
use Rattle.formats.specs.declared.pieces.InState.TheVariants as states
use Rattle.agent_workers.specs.Finished.{IsSetUp}
use Rattle.agent_workers.specs.Inputs.{InPart}
use Rattle.agent_workers.specs.Job.{job_of, limit_by, rule_by, setup_of}
use Rattle.agent_workers.specs.Output.{OutPart}
use Rattle.agent_workers.specs.Run.{carried_change, InRun, OutRun, RunChange}
use Rattle.agent_workers.specs.RunState.{RunState}
use Rattle.agent_workers.specs.Running.{IsReady, buffered_at}
use Rattle.agent_workers.specs.declared.parts.Back.{Back}
use Rattle.agent_workers.specs.declared.parts.Clocks.{Clocks}
use Rattle.agent_workers.specs.declared.parts.Opened.{Opened}
use Rattle.agent_workers.specs.declared.parts.Parts.{Parts}

-- with what the core is set up of an input, and of an output
abbrev pub in_setup : InputConf → InSetup
in_setup conf = record { tracked = conf.tracked; max_undelivered = conf.max_undelivered }

abbrev pub out_setup : OutputConf → OutSetup
out_setup conf = record { batch = conf.batch; limit = conf.limit }

-- what the opened parts of a run carry
pub record Carries : Type 0 where
  pub sources : List Carried
  pub sinks : List Carried
  pub journal : Carried

abbrev pub carried_by : {S K : Type 0} → (S → Carried) → (K → Carried) → Opened S K → Carries
carried_by told put opened = record
    { sources = map told opened.inputs.items; sinks = map put opened.outputs.items; journal = put opened.journal }

-- what those of its clocks tell that are asked for moments: the inputs', and the timer
pub record Times : Type 0 where
  pub ins : List Timed
  pub timer : Timed

abbrev pub timed_by : {C : Type 0} → (C → Timed) → Clocks C → Times
timed_by timed clocks = record { ins = map timed clocks.inputs.items; timer = timed clocks.timer }

-- there is a source and a clock for each input of a configuration, and a sink and a clock for each output
pub record AreFor {S K C : Type 0} (config : Config) (opened : Opened S K) (clocks : Clocks C) : Type 0 where
  pub sources : vec_len opened.inputs ≡ length config.inputs
  pub in_clocks : vec_len clocks.inputs ≡ length config.inputs
  pub sinks : vec_len opened.outputs ≡ length config.outputs
  pub out_clocks : vec_len clocks.outputs ≡ length config.outputs

-- two lists are empty, and have room for the sources and the sinks of a configuration
pub record HasRoomFor {S K : Type 0} (config : Config) (back : Back S K) : Type 0 where
  pub no_source : back.sources.items ≡ []
  pub source_room : length config.inputs ≤ vec_capacity back.sources
  pub no_sink : back.sinks.items ≡ []
  pub sink_room : length config.outputs ≤ vec_capacity back.sinks

-- the lists in which sources and sinks are given back are empty, and have room for those of the jobs
pub record HasRoom {S K C : Type 0} (parts : Parts S K C) : Type 0 where
  pub no_source : parts.back.sources.items ≡ []
  pub source_room : vec_len parts.inputs ≤ vec_capacity parts.back.sources
  pub no_sink : parts.back.sinks.items ≡ []
  pub sink_room : vec_len parts.outputs ≤ vec_capacity parts.back.sinks

-- what is in hand of inputs of which nothing was read
abbrev pub empty_hands : List InputConf → List Hand
empty_hands confs = map (λ (conf : InputConf). empty_hand (cut_of conf.format)) confs

-- an input of which nothing was read, with its number, its source and its clock
abbrev pub fresh_in : Config → ℕ → InputConf → Carried → Timed → InPart
fresh_in config number conf source clock = record {
  input = number;
  rule = rule_by config conf;
  hand = empty_hand (cut_of conf.format);
  left = source.bytes;
  read_faults = source.faults;
  moments = clock.moments;
  next = clock.next;
  limit = limit_by conf;
  held = None;
  state = states.Reading;
}

-- inputs numbered from a number on, each with its source and its clock
unfoldable pub fresh_ins : Config → ℕ → List InputConf → List Carried → List Timed → List InPart
fresh_ins config number [] sources clocks = []
fresh_ins config number (conf ∷ confs) [] clocks = []
fresh_ins config number (conf ∷ confs) (source ∷ sources) [] = []
fresh_ins config number (conf ∷ confs) (source ∷ sources) (clock ∷ clocks) =
    fresh_in config number conf source clock ∷ fresh_ins config (number + 1) confs sources clocks

-- an output to which nothing was put, with its number and its sink
abbrev pub fresh_out : ℕ → OutputConf → Carried → OutPart
fresh_out number conf sink = record {
  output = number;
  format = conf.format;
  held = sink.bytes;
  put_faults = sink.faults;
  failed = 0;
  failed_since = 0;
}

-- outputs numbered from a number on, each with its sink
unfoldable pub fresh_outs : ℕ → List OutputConf → List Carried → List OutPart
fresh_outs number [] sinks = []
fresh_outs number (conf ∷ confs) [] = []
fresh_outs number (conf ∷ confs) (sink ∷ sinks) = fresh_out number conf sink ∷ fresh_outs (number + 1) confs sinks

-- a core in which nothing happened, for the inputs and the outputs of a configuration
pub record IsNewCore (config : Config) (start : ℤ) (core : CoreState) : Type 0 where
  pub ready : IsReady core
  pub reading : core.ended ≡ replicate (length config.inputs) false
  pub going : core.stopped ≡ false
  pub none_buffered : (output : ℕ) → buffered_at core output ≡ 0
  pub stands : Stands core []
  pub setup : core.setup ≡ setup_of (job_of config) start
  pub stored : core.stored ≡ []

-- A core in which nothing happened, and what a run begins with: its inputs, its outputs, its journal's place
-- and its timer are what was opened and the clocks, as the configuration has them.
pub record IsMadeOf (config : Config) (start : ℤ) (opened : Carries) (times : Times) (now : RunState) : Type 0 where
  pub set_up : IsSetUp (job_of config) start now
  pub ins_are : now.ins ≡ fresh_ins config 0 config.inputs opened.sources times.ins
  pub outs_are : now.outs ≡ fresh_outs 0 config.outputs opened.sinks
  pub held : now.journal.held ≡ opened.journal.bytes
  pub faults : now.journal.faults ≡ opened.journal.faults
  pub timer : now.timer ≡ times.timer

-- the inputs of a configuration as a run leaves them: what their sources carried before and carry now, and the
-- moments of their clocks
unfoldable pub config_ins : Config → List InputConf → List Carried → List Carried → List Timed → List InRun
config_ins config [] olds news clocks = []
config_ins config (conf ∷ confs) [] news clocks = []
config_ins config (conf ∷ confs) (old ∷ olds) [] clocks = []
config_ins config (conf ∷ confs) (old ∷ olds) (new ∷ news) [] = []
config_ins config (conf ∷ confs) (old ∷ olds) (new ∷ news) (clock ∷ clocks) = record {
  rule = rule_by config conf;
  place = carried_change old new;
  moments = clock.moments;
} ∷ config_ins config confs olds news clocks

-- its outputs
unfoldable pub config_outs : List OutputConf → List Carried → List Carried → List OutRun
config_outs [] olds news = []
config_outs (conf ∷ confs) [] news = []
config_outs (conf ∷ confs) (old ∷ olds) [] = []
config_outs (conf ∷ confs) (old ∷ olds) (new ∷ news) = record {
  format = conf.format;
  place = carried_change old new;
} ∷ config_outs confs olds news

-- what the source of an input carries, and the sink of an output
abbrev pub in_carried : InPart → Carried
in_carried part = record { bytes = part.left; faults = part.read_faults }

abbrev pub out_carried : OutPart → Carried
out_carried part = record { bytes = part.held; faults = part.put_faults }

-- what a run of a configuration changed: what its parts carried before and carry now, and the moments of its clocks
abbrev pub change_by : Config → Carries → Carries → Times → RunChange
change_by config old new times = record {
  ins = config_ins config config.inputs old.sources new.sources times.ins;
  outs = config_outs config.outputs old.sinks new.sinks;
  journal = carried_change old.journal new.journal;
  moments = times.timer.moments;
}
