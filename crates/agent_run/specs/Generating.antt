-- What a run of a configuration over generated inputs says.
use Rattle.std.specs.Prelude.{◌≡◌, ◌≢◌, ◌⊎◌, ℕ, List, [], ◌∷◌, Contains, length, map, Some, String}
use Rattle.std.specs.declared.alloc.Global.{Global}
use Rattle.agent_base.specs.Carried.{Carried, Timed}
use Rattle.agent_base.specs.Places.{SameAtAll}
use Rattle.agent_base.specs.Views.{WorldView}
use Rattle.agent_config.specs.declared.config.Config.{Config}
use Rattle.agent_config.specs.declared.config.InputConf.{InputConf}
use Rattle.format_words.specs.declared.format.InFormat.{InFormat}
use Rattle.format_words.specs.declared.format.InFormat.TheVariants as formats
use Rattle.agent_workers.specs.Job.{rule_by}
use Rattle.agent_workers.specs.Run.{InRun, change}
use Rattle.agent_run.specs.Command.{IsGen}
use Rattle.agent_run.specs.Configured.{IsReadAt, IsUnrun}
use Rattle.agent_run.specs.Generated.{generated_moments, generated_text}
use Rattle.agent_run.specs.Headline.{Ends, WorldChange, place_change, report_change, world_outs}
use Rattle.agent_run.specs.PlaceLists.{out_places}
use Rattle.agent_run.specs.Places.{IsUnopened, ReportsLine, open_fault_line}
use Rattle.agent_run.specs.Running.{IsOpenedSame, OnlyWritten}
use Rattle.agent_run.specs.declared.status.Status.{Status}
use Rattle.agent_run.specs.declared.status.Status.TheVariants as statuses

-- how many lines an input of a format is given, where so many are wanted: none, if it isn't line protocol
abbrev pub lines_given : ℕ → InFormat → ℕ
lines_given lines formats.Influx = lines
lines_given lines format = 0

-- what an input is given
abbrev pub text_given : ℕ → InputConf → List ℕ
text_given lines conf = generated_text (lines_given lines conf.format)

-- a source of which so many bytes are left, and of which no read fails; and that of an input as it begins
abbrev pub unfailing : List ℕ → Carried
unfailing bytes = record { bytes = Some bytes; faults = 0 }

abbrev pub source_given : ℕ → InputConf → Carried
source_given lines conf = unfailing (text_given lines conf)

-- the sources of inputs
abbrev pub sources_given : ℕ → List InputConf → List Carried
sources_given lines confs = map (source_given lines) confs

-- a generated clock at its first moment, and one for each of some parts
abbrev pub clock_given : Timed
clock_given = record { moments = Some generated_moments; next = 0 }

abbrev pub clocks_given : {T : Type 0} → List T → List Timed
clocks_given parts = map (λ part. clock_given) parts

-- the generated inputs of a configuration, given what is left of each: by what rule it is read, the change of what it
-- is given to what is left of it, with no failed read, and the moments of a generated clock
unfoldable pub generated_ins : Config → ℕ → List InputConf → List (List ℕ) → List InRun
generated_ins config lines [] left = []
generated_ins config lines (conf ∷ confs) [] = []
generated_ins config lines (conf ∷ confs) (bytes ∷ left) = record {
  rule = rule_by config conf;
  place = change (Some (text_given lines conf)) (Some bytes) 0 0;
  moments = Some generated_moments;
} ∷ generated_ins config lines confs left

-- what a run over so many generated lines left in a world that was so before and is so now: what is said of its inputs,
-- the change of the place of each output, by their numbers, of the journal's place, and of the report
abbrev pub generated_change : Config → ℕ → List (List ℕ) → WorldView → WorldView → WorldChange
generated_change config lines left old new = record {
  run = record {
    ins = generated_ins config lines config.inputs left;
    outs = world_outs config.outputs old new;
    journal = place_change (old.outs config.agent.journal) (new.outs config.agent.journal);
    moments = Some generated_moments;
  };
  report = report_change old.report new.report;
}

-- a run over so many generated lines ended with this status: it left what the status says, whatever is left of each
-- input; and no read failed
pub record EndsGenerated (config : Config) (lines : ℕ) (old new : WorldView) (status : Status) : Type 0 where
  pub left : List (List ℕ)
  pub count : length left ≡ length config.inputs
  pub ends : Ends config (generated_change config lines left old new) status
  pub unbroken : status ≢ statuses.ReadFault

-- one of the places that a configuration writes wasn't opened, which was counted, and every other is as before; the
-- line that names it was reported
pub record IsOutRefusedBy (config : Config) (old new : WorldView) : Type 0 where
  pub place : List ℕ
  pub known : Contains (out_places config) place
  pub unopened : IsUnopened place old.outs new.outs
  pub told : ReportsLine old.report new.report (open_fault_line place)

-- The configuration of a place was read, and run over so many generated lines. Where a place that it writes wasn't
-- opened it says so; else it left what the status says. Whatever the status, no output place changed that the
-- configuration doesn't name, and no input place and no clock behind its reading.
pub record IsGeneratedThere (status : Status) (lines : ℕ) (place : List ℕ) (old new : WorldView) : Type 0 where
  pub config : Config
  pub mid : WorldView
  pub read : IsReadAt place config old mid
  pub refused : status ≡ statuses.OpenFault → IsOutRefusedBy config mid new
  pub ends : (status ≢ statuses.OpenFault) → EndsGenerated config lines mid new status
  pub opened : (status ≢ statuses.OpenFault) → (status ≢ statuses.OutOfMemory) → IsOpenedSame old new
  pub only : OnlyWritten config mid new
  pub clocks : SameAtAll old.clocks new.clocks

-- what a run of the configuration of a place over so many generated lines came to
abbrev pub SaysGen : Status → ℕ → List ℕ → WorldView → WorldView → Type 0
SaysGen status lines place old new = IsUnrun status place old new ⊎ IsGeneratedThere status lines place old new

-- the words are a run of a configuration over generated lines, which was read, and run to this status
pub record GenEnds (status : Status) (words : List (String Global)) (old new : WorldView) : Type 0 where
  pub lines : ℕ
  pub place : List ℕ
  pub command : IsGen words lines place
  pub ran : IsGeneratedThere status lines place old new
