-- What a run of a configuration says: a legal journal of what was read and sent, with its text and the account of
-- its totals.
use Rattle.std.specs.Prelude.{◌≡◌, ◌≢◌, ◌<◌, ◌⊎◌, ◌+◌, ◌^◌, ℕ, ℤ, if◌then◌else◌, Bool, true, false, List, []}
use Rattle.std.specs.Prelude.{◌∷◌, length, String}
use Rattle.account.specs.declared.entry.Entry.{Entry}
use Rattle.std.specs.declared.alloc.Global.{Global}
use Rattle.agent_base.specs.Places.{Place, Rest}
use Rattle.agent_base.specs.Views.{WorldView}
use Rattle.agent_config.specs.declared.config.Config.{Config}
use Rattle.agent_config.specs.declared.config.InputConf.{InputConf}
use Rattle.agent_config.specs.declared.config.OutputConf.{OutputConf}
use Rattle.pipeline_core.specs.Groups.{live_count}
use Rattle.pipeline_core.specs.Legal.{has_ended}
use Rattle.agent_workers.specs.Job.{job_of, rule_by, setup_of}
use Rattle.agent_workers.specs.Run.{Change, change, InRun, OutRun, RunChange, buffered_at_end}
use Rattle.agent_workers.specs.Run.{account_of, text_of, Course, course_of}
use Rattle.agent_workers.specs.Run.{IsRun, IsPutSo, IsBrokenOff, SomeIsFull, StaysHeld}
use Rattle.agent_base.specs.Counts.{Rose}
use Rattle.agent_run.specs.Command.{IsPipe, pipe_config}
use Rattle.agent_run.specs.Places.{AreOpensSame, RoseToOpen, RoseToUse}
use Rattle.agent_run.specs.declared.status.Status.{Status}
use Rattle.agent_run.specs.declared.status.Status.TheVariants as statuses

-- the status by whether a limit was reached, whether a read failed, whether the put of the journal or of the
-- report failed, and whether a metric is left
abbrev pub status_of : Bool → Bool → Bool → Bool → Status
status_of true fault failed left = statuses.Limit
status_of false true failed left = if failed then statuses.ReportFault else statuses.ReadFault
status_of false false failed left = if failed then statuses.ReportFault else
    (if left then statuses.Left else statuses.Done)

-- the change of a place, and of the report
abbrev pub place_change : Place → Place → Change
place_change old new = change old.bytes new.bytes old.part_faults new.part_faults

abbrev pub report_change : Rest → Rest → Change
report_change old new = change old.reported new.reported old.report_faults new.report_faults

-- the number of the run's clock, and of that of an input: those of the processors and of the journal stand between
abbrev pub run_clock : ℕ
run_clock = 0

abbrev pub input_clock : ℕ → ℕ
input_clock number = 3 + number

-- the inputs of a configuration, numbered from a number on: by what rule each is read, the change of its place,
-- and the moments of its clock
unfoldable pub world_ins : Config → ℕ → List InputConf → WorldView → WorldView → List InRun
world_ins config number [] old new = []
world_ins config number (conf ∷ confs) old new = record {
  rule = rule_by config conf;
  place = place_change (old.ins conf.place) (new.ins conf.place);
  moments = old.clocks (input_clock number);
} ∷ world_ins config (number + 1) confs old new

-- its outputs: the format of each, and the change of its place
unfoldable pub world_outs : List OutputConf → WorldView → WorldView → List OutRun
world_outs [] old new = []
world_outs (conf ∷ confs) old new = record {
  format = conf.format;
  place = place_change (old.outs conf.place) (new.outs conf.place);
} ∷ world_outs confs old new

-- what a run left in a world: what it says of the places and of the run's clock, and the change of the report
pub record WorldChange : Type 0 where
  pub run : RunChange
  pub report : Change

-- so it is in a world that was so before and is so now: the change of the place of each input and of each
-- output, by their numbers, of the journal's place, and of the report
abbrev pub world_change : Config → WorldView → WorldView → WorldChange
world_change config old new = record {
  run = record {
    ins = world_ins config 0 config.inputs old new;
    outs = world_outs config.outputs old new;
    journal = place_change (old.outs config.agent.journal) (new.outs config.agent.journal);
    moments = old.clocks run_clock;
  };
  report = report_change old.report new.report;
}

-- a journal is that of a run of the configuration
abbrev pub IsRunOf : Config → WorldChange → ℤ → List Entry → Type 0
IsRunOf config x start journal = IsRun (job_of config) start x.run journal

-- The headline of a run: the journal is a legal history of what the inputs said and the outputs were sent, its
-- text stands at the journal's place, and the account that was reported is its totals; where the put of the
-- journal or of the report failed, a prefix of the text.
pub record Headline (config : Config) (x : WorldChange) (journal_failed report_failed : Bool) : Type 0 where
  pub start : ℤ
  pub journal : List Entry
  pub run : IsRunOf config x start journal
  pub noted : IsPutSo journal_failed x.run.journal (text_of (setup_of (job_of config) start) journal)
  pub reported : IsPutSo report_failed x.report (account_of (setup_of (job_of config) start) journal)

module _ (config : Config) (x : WorldChange) where
  -- the course of the run whose headline it is
  abbrev pub course_in : Headline config x false false → Course
  course_in headline = course_of (job_of config) headline.start x.run.ins headline.journal

  -- an input was read to its end
  pub record IsWhole (headline : Headline config x false false) (number : ℕ) : Type 0 where
    pub few : headline.run.has.taken number < 2 ^ 40
    pub ended : has_ended number headline.journal ≡ true

  -- a read of an input failed, and it wasn't read to its end
  pub record IsBroken (headline : Headline config x false false) (number : ℕ) : Type 0 where
    pub few : headline.run.has.taken number < 2 ^ 40
    pub unended : has_ended number headline.journal ≡ false
    pub broken_off : IsBrokenOff (course_in headline) number

  -- an input wasn't read to its end, since it is held back: as many of its groups were live as may be, and the last
  -- tries at the outputs had failed
  pub record IsHeld (headline : Headline config x false false) (number : ℕ) : Type 0 where
    pub few : headline.run.has.taken number < 2 ^ 40
    pub unended : has_ended number headline.journal ≡ false
    pub held : StaysHeld (course_in headline) number

  -- a metric is buffered at some output
  abbrev pub SomeIsBuffered : Headline config x false false → Type 0
  SomeIsBuffered headline = (output : ℕ) × (output < length config.outputs)
      × (buffered_at_end (setup_of (job_of config) headline.start) headline.journal output ≢ 0)

  -- some input is held back
  abbrev pub SomeIsHeld : Headline config x false false → Type 0
  SomeIsHeld headline = (number : ℕ) × (number < length config.inputs) × IsHeld headline number

  -- each input was read to its end, nothing is buffered, and no group is live
  pub record IsDone : Type 0 where
    pub headline : Headline config x false false
    pub whole : (number : ℕ) → number < length config.inputs → IsWhole headline number
    pub none_left : (output : ℕ) → output < length config.outputs →
        buffered_at_end (setup_of (job_of config) headline.start) headline.journal output ≡ 0
    pub none_live : (number : ℕ) → number < length config.inputs →
        live_count (setup_of (job_of config) headline.start) headline.journal number ≡ 0

  -- each input was read to its end or is held back; and a metric is buffered at some output, or some input is held
  -- back
  pub record IsLeftOver : Type 0 where
    pub headline : Headline config x false false
    pub each : (number : ℕ) → number < length config.inputs → IsWhole headline number ⊎ IsHeld headline number
    pub some_left : SomeIsBuffered headline ⊎ SomeIsHeld headline

  -- a read of some input failed, and it wasn't read to its end; so it is with each that wasn't and isn't held back
  pub record IsReadFault : Type 0 where
    pub headline : Headline config x false false
    pub each : (number : ℕ) → number < length config.inputs →
        IsWhole headline number ⊎ IsBroken headline number ⊎ IsHeld headline number
    pub number : ℕ
    pub known : number < length config.inputs
    pub broken : IsBroken headline number

  -- the put of the journal or of the report failed
  pub record IsReportFault : Type 0 where
    pub journal_failed : Bool
    pub report_failed : Bool
    pub headline : Headline config x journal_failed report_failed
    pub few : (number : ℕ) → number < length config.inputs → headline.run.has.taken number < 2 ^ 40
    pub failed : (journal_failed ≡ true) ⊎ (report_failed ≡ true)

  -- 2^40 bytes of some input were taken, or the run is full
  pub record IsLimit : Type 0 where
    pub journal_failed : Bool
    pub report_failed : Bool
    pub headline : Headline config x journal_failed report_failed
    pub number : ℕ
    pub known : number < length config.inputs
    pub unended : has_ended number headline.journal ≡ false
    pub reached : (headline.run.has.taken number ≡ 2 ^ 40) ⊎ SomeIsFull x.run.ins headline.journal

  -- what each status of a run says; nothing is promised where memory was short
  abbrev pub Ends : Status → Type 0
  Ends statuses.Done = IsDone
  Ends statuses.Left = IsLeftOver
  Ends statuses.ReadFault = IsReadFault
  Ends statuses.ReportFault = IsReportFault
  Ends statuses.Limit = IsLimit
  Ends statuses.OutOfMemory = Unit {0}
  Ends statuses.Usage = ⊥
  Ends statuses.Config = ⊥
  Ends statuses.OpenFault = ⊥

-- the words are a pipe, and its run ended with this status: no count of failed opens changed, and it left what the
-- status says
pub record PipeEnds (status : Status) (words : List (String Global)) (old new : WorldView) : Type 0 where
  pub input : List ℕ
  pub output : List ℕ
  pub batch : ℕ
  pub limit : ℕ
  pub command : IsPipe words input output batch limit
  pub ins_opened : AreOpensSame old.ins new.ins
  pub outs_opened : AreOpensSame old.outs new.outs
  pub ends : Ends (pipe_config input output batch limit)
      (world_change (pipe_config input output batch limit) old new) status

-- no count of the world rose
pub record NothingRose (old new : WorldView) : Type 0 where
  pub ins_opened : (place : List ℕ) → RoseToOpen (old.ins place) (new.ins place) → ⊥
  pub ins_used : (place : List ℕ) → RoseToUse (old.ins place) (new.ins place) → ⊥
  pub outs_opened : (place : List ℕ) → RoseToOpen (old.outs place) (new.outs place) → ⊥
  pub outs_used : (place : List ℕ) → RoseToUse (old.outs place) (new.outs place) → ⊥
  pub reported : Rose old.report.report_faults new.report.report_faults → ⊥
