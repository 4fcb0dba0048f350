-- What a run is to do: a configuration, the job that it is, the set-up of the job's journal, and the
-- journal's head are made one of the other.
use Rattle.std.specs.Prelude.{ℕ, ℤ, Bool, List, map, if◌then◌else◌}
use Rattle.std.specs.declared.option.Option.{Option}
use Rattle.std.specs.declared.option.Option.TheVariants.{Some, None}
use Rattle.account.specs.Setup.{Setup}
use Rattle.account.specs.declared.setup.AggLine.{AggLine}
use Rattle.agent_config.specs.declared.config.AggConf.{AggConf}
use Rattle.agent_config.specs.declared.config.Config.{Config}
use Rattle.agent_config.specs.declared.config.InputConf.{InputConf}
use Rattle.agent_config.specs.declared.config.OutputConf.{OutputConf}
use Rattle.format_words.specs.declared.format.OutFormat.{OutFormat}
use Rattle.formats.specs.Reader.{InRule, in_rule}
use Rattle.journal_text.specs.declared.setup.JournalSetup.{JournalSetup}
use Rattle.metric.specs.declared.metric.Content.{Content}
use Rattle.metric_filter.specs.Filter.{applied}
use Rattle.pipeline_core.specs.Work.{Work}
use Rattle.proc_chain.specs.Steps.{whole as whole_by}
use Rattle.proc_chain.specs.declared.step.Step.{Step}

-- an input of a job: by what rule it is read, and how many of its groups may be undelivered at most; none
-- where it isn't tracked
pub record JobInput : Type 0 where
  pub rule : InRule
  pub most_undelivered : Option ℕ

-- an output of a job: the format of its batches, how many metrics a batch has at most, and how many wait at most
pub record JobOutput : Type 0 where
  pub format : OutFormat
  pub batch : ℕ
  pub limit : ℕ

-- what a run is to do: its inputs, its aggregators, its outputs, what it makes of its items, and how often
-- in succession a repeat that had no batch accepted is tried at its end
pub record Job : Type 0 where
  pub inputs : List JobInput
  pub aggs : List AggLine
  pub outputs : List JobOutput
  pub work : Work
  pub tries : ℕ

-- by what rule an input of a configuration is read
abbrev pub rule_by : Config → InputConf → InRule
rule_by config conf = in_rule conf.format config.globals conf.filter config.agent.gather_pieces

-- the filters of outputs, as functions of the whole
abbrev pub filters_of : List OutputConf → List (Content → Option Content)
filters_of outputs = map (λ (output : OutputConf). applied output.filter) outputs

-- those of aggregators
abbrev pub agg_filters : List AggConf → List (Content → Option Content)
agg_filters aggs = map (λ (agg : AggConf). applied agg.filter) aggs

-- what a run makes of its items: the whole is what the steps make of an item behind those before it, but for what was
-- made
-- where it passes them by; and the filter of each aggregator and of each output gives the view of it
abbrev pub work_of : Bool → List Step → List AggConf → List OutputConf → Work
work_of skip steps aggs outputs = record
    { skip = skip; whole = whole_by steps; aggs = agg_filters aggs; outs = filters_of outputs }

-- how many groups of an input may be undelivered at most, where it is tracked
abbrev pub limit_by : InputConf → Option ℕ
limit_by conf = if conf.tracked then Some conf.max_undelivered else None

abbrev pub job_input : Config → InputConf → JobInput
job_input config conf = record { rule = rule_by config conf; most_undelivered = limit_by conf }

abbrev pub job_output : OutputConf → JobOutput
job_output conf = record { format = conf.format; batch = conf.batch; limit = conf.limit }

-- an aggregator's line
abbrev pub line_of : AggConf → AggLine
line_of conf = conf.line

-- an output's batch size and its buffer limit
abbrev pub sizes_by : OutputConf → ℕ × ℕ
sizes_by conf = (conf.batch, conf.limit)

-- the job that a configuration is
abbrev pub job_of : Config → Job
job_of config = record {
  inputs = map (job_input config) config.inputs;
  aggs = map line_of config.aggs;
  outputs = map job_output config.outputs;
  work = work_of config.agent.skip_second config.steps config.aggs config.outputs;
  tries = config.agent.final_tries;
}

-- the limit of an input, and the sizes of an output: its batch size and its buffer limit
abbrev pub limit_of : JobInput → Option ℕ
limit_of input = input.most_undelivered

abbrev pub output_sizes : JobOutput → ℕ × ℕ
output_sizes output = (output.batch, output.limit)

-- what the journal of a job is about, where it begins at a moment
abbrev pub setup_of : Job → ℤ → Setup
setup_of job start = record
    { start = start; inputs = map limit_of job.inputs; aggs = job.aggs; outputs = map output_sizes job.outputs }

-- the head of a journal: its set-up
abbrev pub journal_setup_of : Setup → JournalSetup
journal_setup_of setup = record
    { start = setup.start; inputs = setup.inputs; aggs = setup.aggs; outputs = setup.outputs }
