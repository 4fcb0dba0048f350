-- What checking a configuration says, and what it leaves.
use Rattle.std.specs.Prelude.{◌≡◌, ◌≢◌, ◌≤◌, ◌<◌, ◌++◌, ℕ, List, [], ◌∷◌, length, codes, take, Option, Some, IfSome}
use Rattle.std.specs.Prelude.{false, true}
use Rattle.std.specs.Fmt.{decimal}
use Rattle.std.specs.Io.KnownBytes.{Consumes, IsAtEnd}
use Rattle.agent_base.specs.Counts.{Rose}
use Rattle.agent_base.specs.Views.{WorldView}
use Rattle.agent_base.specs.Places.{Place, Rest, FailsToOpen, SameBut, SameAtAll}
use Rattle.agent_config.specs.Faults.{first, text_faults}
use Rattle.agent_config.specs.declared.fault.Class.{Class}
use Rattle.agent_config.specs.declared.fault.Class.TheVariants as classes
use Rattle.agent_config.specs.declared.fault.ConfigFault.{ConfigFault}
use Rattle.agent_config.specs.declared.fault.ConfigKind.{ConfigKind}
use Rattle.agent_config.specs.contracts.fault.ConfigKind.{the_type as the_config_kind}
use Rattle.formats.specs.Refusals.{variant_name}
use Rattle.agent_run.specs.Headline.{report_change}
use Rattle.agent_workers.specs.Run.{IsPutSo}
use Rattle.agent_run.specs.Places.{IsUnopened, ReportsLine, RoseToUse, open_fault_line, read_fault_line}
use Rattle.agent_run.specs.Running.{IsOpenedSame}
use Rattle.agent_run.specs.declared.reading.Unread.{Unread}
use Rattle.agent_run.specs.declared.reading.Unread.TheVariants as unreads
use Rattle.agent_run.specs.declared.status.Status.{Status}
use Rattle.agent_run.specs.declared.status.Status.TheVariants as statuses

-- the most bytes that are taken of a configuration: one above the longest that is read
abbrev pub most_taken : ℕ
most_taken = 1048577

-- a front of the bytes that were left was taken, and no more than so many
abbrev pub TakesAtMost : ℕ → Option (List ℕ) → Option (List ℕ) → Type 0
TakesAtMost most old new = (taken : List ℕ) × (length taken ≤ most) × Consumes old new taken

-- so many places of a buffer got the bytes that were taken: all that were left, where it isn't full
pub record Fills (old new : Option (List ℕ)) (buffer : List ℕ) (count : ℕ) : Type 0 where
  pub within : count ≤ length buffer
  pub taken : Consumes old new (take count buffer)
  pub whole : count < length buffer → IsAtEnd new

-- a text was taken: all bytes that were left, or the first of them where there are more than the most
pub record TakesText (old new : Option (List ℕ)) (text : List ℕ) : Type 0 where
  pub taken : Consumes old new text
  pub most : length text ≤ most_taken
  pub whole : length text < most_taken → IsAtEnd new

-- why a text wasn't read, by its place: opening it failed, or a read; nothing is promised where memory was short
abbrev pub IsUnread : Unread → Place → Place → Type 0
IsUnread unreads.Unopened old new = FailsToOpen old new
IsUnread unreads.Failed old new = RoseToUse old new
IsUnread unreads.OutOfMemory old new = Unit {0}
IsUnread (unreads.Faulty fault) old new = ⊥

-- how a line names a class, and what is wrong
abbrev pub class_word : Class → List ℕ
class_word classes.Root = codes "root"
class_word classes.Agent = codes "agent"
class_word classes.GlobalTags = codes "global_tags"
class_word classes.Inputs = codes "inputs"
class_word classes.Processors = codes "processors"
class_word classes.Aggregators = codes "aggregators"
class_word classes.Outputs = codes "outputs"

abbrev pub kind_word : ConfigKind → List ℕ
kind_word = variant_name the_config_kind (codes "OutOfMemory" ∷ codes "NotToml" ∷ codes "UnknownKind" ∷
    codes "UnknownKey" ∷ codes "WrongType" ∷ codes "Missing" ∷ codes "OutOfRange" ∷ codes "BadGlob" ∷
    codes "BadPattern" ∷ codes "BadTemplate" ∷ codes "TooManyPlugins" ∷ codes "NoInput" ∷ codes "NoOutput" ∷
    codes "BatchAboveLimit" ∷ codes "SamePlace" ∷ [])

-- the line that says that a configuration has no fault, and the one that names its first
abbrev pub ok_line : List ℕ
ok_line = codes "ok\n"

abbrev pub config_fault_line : ConfigFault → List ℕ
config_fault_line fault =
    codes "config: " ++ kind_word fault.kind ++ codes " " ++ class_word fault.class ++ codes " "
    ++ decimal fault.number ++ codes "\n"

-- a text has faults, the line of the first was reported, or a prefix of it
pub record IsFaulty (text : List ℕ) (rest new_rest : Rest) : Type 0 where
  pub fault : ConfigFault
  pub is_first : first (text_faults text) ≡ Some fault
  pub told : ReportsLine rest new_rest (config_fault_line fault)

-- how it was reported that a text has no fault: in a whole line, or a prefix of it where the put failed
abbrev pub Approves : Status → Rest → Rest → Type 0
Approves statuses.Done rest new_rest = IsPutSo false (report_change rest new_rest) ok_line
Approves statuses.ReportFault rest new_rest = IsPutSo true (report_change rest new_rest) ok_line
Approves statuses.OutOfMemory rest new_rest = Unit {0}
Approves status rest new_rest = ⊥

-- what each status says of a text that was read; nothing is promised where memory was short
abbrev pub Judges : Status → List ℕ → Rest → Rest → Type 0
Judges statuses.Done text rest new_rest = (text_faults text ≡ [])
    × IsPutSo false (report_change rest new_rest) ok_line
Judges statuses.ReportFault text rest new_rest = (text_faults text ≡ [])
    × IsPutSo true (report_change rest new_rest) ok_line
Judges statuses.Config text rest new_rest = IsFaulty text rest new_rest
Judges statuses.OutOfMemory text rest new_rest = Unit {0}
Judges status text rest new_rest = ⊥

-- the text of a place was taken and judged; where the bytes of the place are told they have the same faults
pub record IsJudged (status : Status) (old new : Place) (rest new_rest : Rest) : Type 0 where
  pub text : List ℕ
  pub taken : TakesText old.bytes new.bytes text
  pub faults : IfSome old.bytes (λ bytes. text_faults bytes ≡ text_faults text)
  pub judged : Judges status text rest new_rest

-- a read failed, and the place was named
pub record IsUnreadAt (place : List ℕ) (old new : Place) (rest new_rest : Rest) : Type 0 where
  pub rose : Rose old.part_faults new.part_faults
  pub told : ReportsLine rest new_rest (read_fault_line place)

-- what each status of a check says
abbrev pub ChecksAs : Status → List ℕ → (List ℕ → Place) → (List ℕ → Place) → Rest → Rest → Type 0
ChecksAs statuses.Done place ins new_ins rest new_rest =
    IsJudged statuses.Done (ins place) (new_ins place) rest new_rest
ChecksAs statuses.ReportFault place ins new_ins rest new_rest =
    IsJudged statuses.ReportFault (ins place) (new_ins place) rest new_rest
ChecksAs statuses.Config place ins new_ins rest new_rest =
    IsJudged statuses.Config (ins place) (new_ins place) rest new_rest
ChecksAs statuses.ReadFault place ins new_ins rest new_rest =
    IsUnreadAt place (ins place) (new_ins place) rest new_rest
ChecksAs statuses.OpenFault place ins new_ins rest new_rest =
    IsUnopened place ins new_ins × ReportsLine rest new_rest (open_fault_line place)
ChecksAs statuses.OutOfMemory place ins new_ins rest new_rest = Unit {0}
ChecksAs status place ins new_ins rest new_rest = ⊥

-- a place was checked with this status: what the status says; but for a place that wasn't opened no count of failed
-- opens changed; and, whatever the status, a front of the place's bytes was taken and all else but the report is as
-- before
pub record HasChecked (status : Status) (place : List ℕ) (old new : WorldView) : Type 0 where
  pub answer : ChecksAs status place old.ins new.ins old.report new.report
  pub taken : TakesAtMost most_taken (old.ins place).bytes (new.ins place).bytes
  pub opened : (status ≢ statuses.OpenFault) → (status ≢ statuses.OutOfMemory) → IsOpenedSame old new
  pub other_ins : SameBut place old.ins new.ins
  pub outs : SameAtAll old.outs new.outs
  pub clocks : SameAtAll old.clocks new.clocks
