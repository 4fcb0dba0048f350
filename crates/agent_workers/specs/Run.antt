-- What a run leaves: a legal journal of what was read and sent, and how it ended.
use Rattle.std.specs.Prelude.{◌≡◌, ◌≢◌, ◌<◌, ◌≤◌, ◌⊎◌, ◌+◌, ◌^◌, ℕ, ℤ, min, Bool, true, false, List}
use Rattle.std.specs.Prelude.{[], ◌∷◌, length, take, IfSome, slice_index_or}
use Rattle.std.specs.declared.option.Option.{Option}
use Rattle.std.specs.declared.option.Option.TheVariants.{None}
use Rattle.std.specs.Io.KnownBytes.{Appends}
use Rattle.account.specs.AccountText.{account_text}
use Rattle.account.specs.Items.{raw_items, in_hand}
use Rattle.account.specs.Numbers.{output_numbers}
use Rattle.account.specs.Setup.{Setup}
use Rattle.account.specs.declared.entry.Entry.{Entry}
use Rattle.agent_base.specs.Carried.{Carried}
use Rattle.agent_base.specs.Clocked.{Clocked, Counted}
use Rattle.agent_base.specs.Counts.{Rose, RoseBy}
use Rattle.agent_base.specs.Moments.{Moments}
use Rattle.agent_base.specs.Told.{Told}
use Rattle.journal_text.specs.JournalText.{journal_text}
use Rattle.pipeline_core.specs.Legal.{IsLegal, has_ended, has_stop}
use Rattle.pipeline_core.specs.Totals.{totals}
use Rattle.agent_workers.specs.Held.{IsHeldBack}
use Rattle.agent_workers.specs.Input.{IsFull, AreGathered, NamesTaken}
use Rattle.account.specs.Gathers.{gathers}
use Rattle.account.specs.Dones.{dones, failed_count, LastFailed}
use Rattle.pipeline_core.specs.Stopped.{behind_stop}
use Rattle.account.specs.EntryMoments.{gather_moments, counted_moments}
use Rattle.pipeline_core.specs.Order.{InOrder}
use Rattle.agent_workers.specs.Job.{Job, setup_of, journal_setup_of}
use Rattle.pipeline_core.specs.Sent.{Sent}
use Rattle.format_words.specs.declared.format.OutFormat.{OutFormat}
use Rattle.formats.specs.Batches.{batch_text}
use Rattle.agent_workers.specs.Output.{AppendsSo, OutPart, no_out}
use Rattle.agent_workers.specs.Inputs.{InPart, no_in, IsOneOf}
use Rattle.formats.specs.Reader.{InRule}
use Rattle.pipeline_core.specs.Worked.{Worked}
use Rattle.agent_workers.specs.declared.rounds.Ending.{Ending}
use Rattle.formats.specs.declared.pieces.InState.{InState}
use Rattle.formats.specs.declared.pieces.InState.TheVariants as states

-- the bytes of a place before and after, and its counts of faults
pub record Change : Type 0 where
  pub before : Option (List ℕ)
  pub after : Option (List ℕ)
  pub faults_before : ℕ
  pub faults_after : ℕ

abbrev pub change : Option (List ℕ) → Option (List ℕ) → ℕ → ℕ → Change
change before after faults_before faults_after = record
    { before = before; after = after; faults_before = faults_before; faults_after = faults_after }

-- the change of what a source or a sink carries
abbrev pub carried_change : Carried → Carried → Change
carried_change old new = change old.bytes new.bytes old.faults new.faults

-- a text was appended; or a part of it, and the count of faults rose
abbrev pub IsPutSo : Bool → Change → List ℕ → Type 0
IsPutSo false place text = Appends place.before place.after text
IsPutSo true place text = Rose place.faults_before place.faults_after
    × ((n : ℕ) × Appends place.before place.after (take n text))

-- so a text was put, or the put failed; the count of faults never falls
abbrev pub IsPut : Bool → Change → List ℕ → Type 0
IsPut failed place text = IsPutSo failed place text × (place.faults_before ≤ place.faults_after)

-- an input of a run, seen from outside: by what rule it was read, the change of its place, and the moments of
-- its clock
pub record InRun : Type 0 where
  pub rule : InRule
  pub place : Change
  pub moments : Option Moments

-- an input at its beginning and now
abbrev pub in_run : InPart → InPart → InRun
in_run old new = record {
  rule = new.rule;
  place = change old.left new.left old.read_faults new.read_faults;
  moments = new.moments;
}

-- the inputs at their beginning and now
abbrev pub in_runs : List InPart → List InPart → List InRun
in_runs [] news = []
in_runs (old ∷ olds) [] = []
in_runs (old ∷ olds) (new ∷ news) = in_run old new ∷ in_runs olds news

-- the input at an index
abbrev pub run_at : List InRun → ℕ → InRun
run_at ins input = slice_index_or ins input (in_run no_in no_in)

-- an output of a run, seen from outside: its format, and the change of its place
pub record OutRun : Type 0 where
  pub format : OutFormat
  pub place : Change

-- an output at its beginning and now
abbrev pub out_run : OutPart → OutPart → OutRun
out_run old new = record {
  format = old.format;
  place = change old.held new.held old.put_faults new.put_faults;
}

-- the outputs at their beginning and now
abbrev pub out_runs : List OutPart → List OutPart → List OutRun
out_runs [] news = []
out_runs (old ∷ olds) [] = []
out_runs (old ∷ olds) (new ∷ news) = out_run old new ∷ out_runs olds news

-- the output at an index
abbrev pub out_run_at : List OutRun → ℕ → OutRun
out_run_at outs output = slice_index_or outs output (out_run no_out no_out)

-- a run, seen from outside: its inputs, its outputs, the change of the journal's place, and the moments of its clock
pub record RunChange : Type 0 where
  pub ins : List InRun
  pub outs : List OutRun
  pub journal : Change
  pub moments : Option Moments

-- how many metrics are buffered at an output at the end of a journal
abbrev pub buffered_at_end : Setup → List Entry → ℕ → ℕ
buffered_at_end setup journal output = (output_numbers (totals setup journal) output).buffered

-- the account of a journal's totals, and the journal's text with this account
abbrev pub account_of : Setup → List Entry → List ℕ
account_of setup journal = account_text (totals setup journal)

abbrev pub text_of : Setup → List Entry → List ℕ
text_of setup journal = journal_text (journal_setup_of setup) journal (account_of setup journal)

-- a read of the input failed: its count rose, and the Gathers name all pieces of the bytes that were taken,
-- but perhaps that of the last line
abbrev pub IsCutShort : ℕ → InRun → List Entry → Type 0
IsCutShort number input journal = Rose input.place.faults_before input.place.faults_after
    × Told input.place.before input.place.after (NamesTaken input.rule (gathers number journal))

-- the gathered metrics with the next ones of one of the inputs would reach 2^32
abbrev pub SomeIsFull : List InRun → List Entry → Type 0
SomeIsFull ins journal = (number : ℕ) × (number < length ins)
    × IsFull (run_at ins number).rule journal number (run_at ins number).place.before
    (run_at ins number).place.after

-- the course of a run: how often it tries in succession, what its journal is about, its inputs, and its journal
pub record Course : Type 0 where
  pub tries : ℕ
  pub setup : Setup
  pub ins : List InRun
  pub journal : List Entry

-- an input is held back to the end of a run
abbrev pub StaysHeld : Course → ℕ → Type 0
StaysHeld run number = IsHeldBack run.tries run.setup run.journal number

-- why an input has no Ended: a read failed, 2^40 bytes were taken, the run is full, or the input is held back
abbrev pub IsUnread : Course → ℕ → InRun → ℕ → Type 0
IsUnread run number input taken = IsCutShort number input run.journal ⊎ (taken ≡ 2 ^ 40)
    ⊎ SomeIsFull run.ins run.journal ⊎ StaysHeld run number

-- what a journal says of an input, of which so many bytes were taken
pub record IsReadFrom (run : Course) (number : ℕ) (input : InRun) (taken : ℕ) : Type 0 where
  -- the Gathers name the pieces of what was left at the input's place
  pub gathered : Told input.place.before input.place.after (λ xs ys. AreGathered input.rule run.journal number xs)
  -- their moments are those of the input's clock
  pub clocked : IfSome input.moments
      (λ moments. Clocked moments 0 moments.last (gather_moments number run.journal))
  -- so many bytes of the input were taken; it was read to its end, or there is a cause
  pub bytes_taken : Told input.place.before input.place.after (λ xs ys. length xs ≡ taken + length ys)
  pub unread : has_ended number run.journal ≡ false → IsUnread run number input taken

-- what a journal says of an output
pub record IsSentTo (tries : ℕ) (setup : Setup) (journal : List Entry) (output : ℕ) (out : OutRun)
    : Type 0 where
  -- the output was sent the batches
  pub sent : AppendsSo out.place.before out.place.after (Sent (batch_text out.format) journal output)
  -- the output's count of failed puts rose by the failed batches
  pub put_faults : RoseBy (failed_count output journal) out.place.faults_before out.place.faults_after
  -- where a metric is left at the output, so many of its last batches behind the Stop failed
  pub left : buffered_at_end setup journal output ≢ 0
      → LastFailed tries (dones output (behind_stop journal))

-- the course of a run of a job that began at a moment
abbrev pub course_of : Job → ℤ → List InRun → List Entry → Course
course_of job start ins journal = record
    { tries = job.tries; setup = setup_of job start; ins = ins; journal = journal }

-- A legal journal of a run that came to its end, given its job and the moment of its start, its inputs and its outputs.
pub record HasRun (job : Job) (start : ℤ) (ins : List InRun) (outputs : List OutRun) (journal : List Entry)
    : Type 0 where
  pub legal : IsLegal (setup_of job start) journal
  -- what each input gave was gathered, so many bytes of it
  pub taken : ℕ → ℕ
  pub read_from : (number : ℕ) → number < length job.inputs →
      IsReadFrom (course_of job start ins journal) number (run_at ins number) (taken number)
  -- each output was sent its batches
  pub sent_to : (output : ℕ) → output < length job.outputs →
      IsSentTo job.tries (setup_of job start) journal output (out_run_at outputs output)
  -- each item was routed by the outputs' filters
  pub worked : Worked job.work journal
  -- gathering was stopped, and no item is raw or in hand
  pub stopped : has_stop journal ≡ true
  pub none_raw : raw_items journal ≡ []
  pub none_held : in_hand journal ≡ None

-- The same of a run that began with nothing, given what it left.
pub record IsRun (job : Job) (start : ℤ) (x : RunChange) (journal : List Entry) : Type 0 where
  pub has : HasRun job start x.ins x.outs journal
  -- the moments are those of the run's clock
  pub start_is : IfSome x.moments (λ moments. start ≡ moments.at 0)
  pub counted : IfSome x.moments
      (λ moments. Counted moments (min 1 moments.last) moments.last start (counted_moments journal))
  -- before each Begin and the Stop all items were routed, before each Gather those of its input; and before each
  -- Gather and the Stop all was sent or the last put had failed
  pub in_order : InOrder (setup_of job start) journal

-- a limit was reached, since the run is full
abbrev pub RunsFull : Bool → List InRun → List Entry → Type 0
RunsFull limit ins journal = (limit ≡ true) × SomeIsFull ins journal

-- a read of an input failed, and its Gathers name what was taken; or its count rose, and the input is held back
abbrev pub IsBrokenOff : Course → ℕ → Type 0
IsBrokenOff run number = IsCutShort number (run_at run.ins number) run.journal
    ⊎ ((let place : Change = (run_at run.ins number).place in Rose place.faults_before place.faults_after)
    × StaysHeld run number)

-- whether an input was read to its end, or why not
abbrev pub EndsSo : Bool → Course → ℕ → InState → ℕ → Type 0
EndsSo limit run number states.Reading taken = (taken < 2 ^ 40) × (has_ended number run.journal ≡ false)
    × (RunsFull limit run.ins run.journal ⊎ StaysHeld run number)
EndsSo limit run number states.Ended taken = (taken < 2 ^ 40) × (has_ended number run.journal ≡ true)
EndsSo limit run number states.Faulted taken = (taken < 2 ^ 40) × (has_ended number run.journal ≡ false)
    × (IsBrokenOff run number ⊎ RunsFull limit run.ins run.journal)
EndsSo limit run number states.LimitReached taken = (has_ended number run.journal ≡ false)
    × ((taken ≡ 2 ^ 40) ⊎ RunsFull limit run.ins run.journal)

-- whether a metric is left at an output
abbrev pub SomeIsLeft : Bool → Setup → List Entry → Type 0
SomeIsLeft false setup journal =
    (output : ℕ) → output < length setup.outputs → buffered_at_end setup journal output ≡ 0
SomeIsLeft true setup journal =
    (output : ℕ) × (output < length setup.outputs) × (buffered_at_end setup journal output ≢ 0)

-- whether a metric is left at an output, or an input is read on still: one of so many, whose states are these
abbrev pub IsLeft : Bool → Setup → List Entry → ℕ → (ℕ → InState) → Type 0
IsLeft false setup journal count state = SomeIsLeft false setup journal × IsOneOf states.Reading count state false
IsLeft true setup journal count state = SomeIsLeft true setup journal ⊎ IsOneOf states.Reading count state true

-- what a run of a job leaves, before its account is reported
pub record Ran (job : Job) (ending : Ending) (x : RunChange) : Type 0 where
  pub start : ℤ
  pub journal : List Entry
  pub run : IsRun job start x journal
  -- the states of the inputs; a limit was reached, or a read failed, exactly where one of them says so
  pub state : ℕ → InState
  pub ends : (number : ℕ) → number < length job.inputs →
      EndsSo ending.limit (course_of job start x.ins journal) number (state number) (run.has.taken number)
  pub limit : IsOneOf states.LimitReached (length job.inputs) state ending.limit
  pub read_fault : IsOneOf states.Faulted (length job.inputs) state ending.read_fault
  pub left : IsLeft ending.left (setup_of job start) journal (length job.inputs) state
  pub account : ending.account.items ≡ account_of (setup_of job start) journal
  pub noted : IsPutSo ending.journal_fault x.journal (text_of (setup_of job start) journal)
