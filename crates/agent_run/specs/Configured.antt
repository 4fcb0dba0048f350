-- What reading the configuration of a place says, and what a run of it leaves.
use Rattle.std.specs.Prelude.{◌≡◌, ◌≢◌, ◌≤◌, ◌⊎◌, ℕ, List, [], Some, option_map, String}
use Rattle.std.specs.Io.KnownBytes.{IsAtEnd}
use Rattle.std.specs.declared.alloc.Global.{Global}
use Rattle.agent_base.specs.Places.{Place, FailsToOpen, SameBut, SameAtAll}
use Rattle.agent_base.specs.Views.{WorldView, OnlyIn}
use Rattle.agent_config.specs.Faults.{first, text_faults, tree_of}
use Rattle.agent_config.specs.Values.{config_of}
use Rattle.agent_config.specs.declared.config.Config.{Config}
use Rattle.agent_config.specs.declared.fault.ConfigFault.{ConfigFault}
use Rattle.agent_run.specs.Checking.{TakesAtMost, TakesText, IsUnreadAt, config_fault_line, most_taken}
use Rattle.agent_run.specs.Command.{IsRunAt, NamesRun}
use Rattle.agent_run.specs.Headline.{Ends, world_change}
use Rattle.agent_run.specs.Places.{IsUnopened, ReportsLine, RoseToOpen, RoseToUse}
use Rattle.agent_run.specs.Places.{open_fault_line, read_fault_line}
use Rattle.agent_run.specs.Running.{IsOpenedSame, IsRefusedBy, OnlyNamed}
use Rattle.agent_run.specs.declared.reading.Unread.{Unread}
use Rattle.agent_run.specs.declared.reading.Unread.TheVariants as unreads
use Rattle.agent_run.specs.declared.status.Status.{Status}
use Rattle.agent_run.specs.declared.status.Status.TheVariants as statuses

-- a text has no fault, and says this configuration
abbrev pub SaysConfig : List ℕ → Config → Type 0
SaysConfig text config = (text_faults text ≡ []) × (option_map config_of (tree_of text) ≡ Some config)

-- the text at a place was taken to its end, nothing else changed, and it says this configuration
pub record IsReadAt (place : List ℕ) (config : Config) (old new : WorldView) : Type 0 where
  pub text : List ℕ
  pub taken : TakesText (old.ins place).bytes (new.ins place).bytes text
  pub whole : IsAtEnd (new.ins place).bytes
  pub says : SaysConfig text config
  pub opens : (new.ins place).open_faults ≡ (old.ins place).open_faults
  pub later : (old.ins place).part_faults ≤ (new.ins place).part_faults
  pub only : OnlyIn place old new

-- the text of a place was taken, and this is its first fault
pub record IsFaultyText (fault : ConfigFault) (old new : Place) : Type 0 where
  pub text : List ℕ
  pub taken : TakesText old.bytes new.bytes text
  pub is_first : first (text_faults text) ≡ Some fault

-- why a text says no configuration; nothing is promised where memory was short
abbrev pub IsUnsaid : Unread → List ℕ → Type 0
IsUnsaid (unreads.Faulty fault) text = first (text_faults text) ≡ Some fault
IsUnsaid unreads.OutOfMemory text = Unit {0}
IsUnsaid unread text = ⊥

-- why the configuration of a place wasn't read, by what happened there
abbrev pub IsUnready : Unread → Place → Place → Type 0
IsUnready unreads.Unopened old new = FailsToOpen old new
IsUnready unreads.Failed old new = RoseToUse old new
IsUnready (unreads.Faulty fault) old new = IsFaultyText fault old new
IsUnready unreads.OutOfMemory old new = Unit {0}

-- how a command ends whose configuration wasn't read, and the line that says it
abbrev pub unread_status : Unread → Status
unread_status unreads.Unopened = statuses.OpenFault
unread_status unreads.Failed = statuses.ReadFault
unread_status (unreads.Faulty fault) = statuses.Config
unread_status unreads.OutOfMemory = statuses.OutOfMemory

abbrev pub unread_line : Unread → List ℕ → List ℕ
unread_line unreads.Unopened place = open_fault_line place
unread_line unreads.Failed place = read_fault_line place
unread_line (unreads.Faulty fault) place = config_fault_line fault
unread_line unreads.OutOfMemory place = []

-- the text of the place has a first fault, whose line was reported, or a prefix of it
pub record IsFaultyAt (place : List ℕ) (old new : WorldView) : Type 0 where
  pub fault : ConfigFault
  pub faulty : IsFaultyText fault (old.ins place) (new.ins place)
  pub told : ReportsLine old.report new.report (config_fault_line fault)

-- what each status says where the configuration of a place wasn't read; nothing is promised where memory was short
abbrev pub UnreadAs : Status → List ℕ → WorldView → WorldView → Type 0
UnreadAs statuses.Config place old new = IsFaultyAt place old new
UnreadAs statuses.OpenFault place old new =
    IsUnopened place old.ins new.ins × ReportsLine old.report new.report (open_fault_line place)
UnreadAs statuses.ReadFault place old new =
    IsUnreadAt place (old.ins place) (new.ins place) old.report new.report
UnreadAs statuses.OutOfMemory place old new = Unit {0}
UnreadAs status place old new = ⊥

-- The configuration of a place wasn't read, and nothing was run: at most a front of its bytes was taken, and no other
-- place and no clock changed; nor, where the place was opened, any count of failed opens.
pub record IsUnrun (status : Status) (place : List ℕ) (old new : WorldView) : Type 0 where
  pub answer : UnreadAs status place old new
  pub taken : TakesAtMost most_taken (old.ins place).bytes (new.ins place).bytes
  pub opened : (status ≢ statuses.OpenFault) → (status ≢ statuses.OutOfMemory) → IsOpenedSame old new
  pub ins : SameBut place old.ins new.ins
  pub outs : SameAtAll old.outs new.outs
  pub clocks : SameAtAll old.clocks new.clocks

-- The configuration of a place was read, and run. Where one of its places wasn't opened it says so; else it left what
-- the status says. Whatever the status, no other place changed than it names, and no clock that it doesn't take.
-- Where the place is one of its inputs, no byte was left there to be read.
pub record IsRunThere (status : Status) (place : List ℕ) (old new : WorldView) : Type 0 where
  pub config : Config
  pub mid : WorldView
  pub read : IsReadAt place config old mid
  pub refused : status ≡ statuses.OpenFault → IsRefusedBy config mid new
  pub ends : (status ≢ statuses.OpenFault) → Ends config (world_change config mid new) status
  pub opened : (status ≢ statuses.OpenFault) → (status ≢ statuses.OutOfMemory) → IsOpenedSame old new
  pub only : OnlyNamed config mid new

-- what a run of the configuration of a place came to
abbrev pub SaysRun : Status → List ℕ → WorldView → WorldView → Type 0
SaysRun status place old new = IsUnrun status place old new ⊎ IsRunThere status place old new

-- neither opening a place nor reading it failed
pub record NeitherFailed (old new : Place) : Type 0 where
  pub opened : RoseToOpen old new → ⊥
  pub used : RoseToUse old new → ⊥

-- the words are a run of a configuration, which was read, and run to this status
pub record RunEnds (status : Status) (words : List (String Global)) (old new : WorldView) : Type 0 where
  pub place : List ℕ
  pub command : IsRunAt words place
  pub ran : IsRunThere status place old new

-- the words are a run of a configuration, over its own inputs or over generated ones, that wasn't read, since a read of
-- it failed
pub record IsRunUnread (status : Status) (words : List (String Global)) (old new : WorldView) : Type 0 where
  pub place : List ℕ
  pub command : NamesRun words place
  pub status_is : status ≡ statuses.ReadFault
  pub unread : IsUnrun statuses.ReadFault place old new
