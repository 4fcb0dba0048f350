-- What one more line makes of what was read so far; nothing, where no journal has such a line there.
use Rattle.std.specs.Prelude.{ℕ, ◌+◌, ◌-◌, ◌==◌, ◌&&◌, Bool, List, [], ◌∷◌, ◌++◌, length, codes}
use Rattle.std.specs.Prelude.{slice_get, Option, Some, None, if◌then◌else◌}
use Rattle.std.specs.Option.{option_to_list}
use Rattle.account.specs.declared.entry.Report.{Report}
use Rattle.account.specs.declared.setup.AggLine.{AggLine}
use Rattle.journal_reader.specs.declared.state.State.{State}
use Rattle.journal_reader.specs.declared.state.Stage.{Stage}
use Rattle.journal_reader.specs.declared.state.Stage.TheVariants.{Starting, Setting, Telling, Counting, Over}
use Rattle.journal_reader.specs.Words.{◌>>=◌, first_of, where_true, words_of}
use Rattle.journal_reader.specs.SetupReading.{start_in, input_in, agg_in, output_in}
use Rattle.journal_reader.specs.EntryReading.{entry_in, metric_in, report_in}
use Rattle.journal_reader.specs.AccountReading.{counts_in, forms_of, end_in}
use Rattle.journal_reader.specs.States.{last_with, last_reported, with_group, input_of}

-- ---- the set-up

unfoldable pub starting : State → List ℕ → Option State
starting s line = do
  moment ← start_in (words_of line)
  Some (record s { stage = Setting; setup = record s.setup { start = moment } })

abbrev pub is_none_yet : {A : Type 0} → List A → Bool
is_none_yet xs = length xs == 0

-- the set-up has an input more, with how many of its groups may be undelivered where it is tracked
abbrev pub with_input : State → Option ℕ → State
with_input s most = record s { setup = record s.setup { inputs = s.setup.inputs ++ most ∷ [] } }

-- inputs come first
unfoldable pub set_input : State → List ℕ → Option State
set_input s line =
    where_true (is_none_yet s.setup.aggs && is_none_yet s.setup.outputs) (do
      most ← input_in (length s.setup.inputs) (words_of line)
      Some (with_input s most))

-- or an aggregator more
abbrev pub with_agg : State → AggLine → State
with_agg s agg = record s { setup = record s.setup { aggs = s.setup.aggs ++ agg ∷ [] } }

-- then aggregators
unfoldable pub set_agg : State → List ℕ → Option State
set_agg s line =
    where_true (is_none_yet s.setup.outputs) (do
      agg ← agg_in (length s.setup.aggs) (words_of line)
      Some (with_agg s agg))

-- or an output more, of these sizes
abbrev pub with_output : State → ℕ × ℕ → State
with_output s sizes = record s { setup = record s.setup { outputs = s.setup.outputs ++ sizes ∷ [] } }

-- then outputs
unfoldable pub set_output : State → List ℕ → Option State
set_output s line = do
  sizes ← output_in (length s.setup.outputs) (words_of line)
  Some (with_output s sizes)

-- ---- entries

-- a metric of the last entry, where some are owed
unfoldable pub told_metric : State → List ℕ → Option State
told_metric s line = do
  m ← metric_in (words_of line)
  Some (record s {
    last = last_with s.last m;
    owed = s.owed - 1;
    known = s.known ++ m ∷ [];
  })

abbrev pub report_of : ℕ → ℕ × Bool → Report
report_of input said = record { group = said.0; input = input; delivered = said.1 }

-- a report of the last entry, of a group that an entry up to it gathered
unfoldable pub told_report : State → List ℕ → Option State
told_report s line = do
  said ← report_in (words_of line)
  input ← input_of s.groups said.0
  last ← last_reported s.last (report_of input said)
  Some (record s { last = last })

-- the last entry is ended
abbrev pub closed : State → State
closed s = record s { entries = s.entries ++ option_to_list s.last; last = None }

-- the next entry
unfoldable pub told_entry : State → List ℕ → Option State
told_entry s line = do
  begun ← entry_in s.known (record { aggs = length s.setup.aggs; outs = length s.setup.outputs }) (words_of line)
  Some (record (closed s) {
    stage = Telling;
    last = Some begun.entry;
    owed = begun.owed;
    groups = with_group s.groups begun.entry;
  })

-- ---- the account and the end

-- the next line of the account
unfoldable pub counted_line : State → List ℕ → Option State
counted_line s line = do
  form ← slice_get s.forms s.counted
  done ← counts_in form (words_of line)
  Some (record s { counted = s.counted + 1; account = s.account ++ line ++ codes "\n" })

-- the first line of the account
unfoldable pub first_counted : State → List ℕ → Option State
first_counted s line = counted_line (record (closed s) { stage = Counting; forms = forms_of s.setup }) line

unfoldable pub ending : State → List ℕ → Option State
ending s line = do
  done ← end_in (length s.entries) (words_of line)
  Some (record s { stage = Over })

-- behind the account its end comes
unfoldable pub counting : State → List ℕ → Option State
counting s line = if s.counted == length s.forms then ending s line else counted_line s line

-- ---- all

-- the next entry, or the first line of the account
unfoldable pub going_on : State → List ℕ → Option State
going_on s line = first_of (told_entry s line) (first_counted s line)

unfoldable pub telling : State → List ℕ → Option State
telling s line =
    if s.owed == 0 then first_of (told_report s line) (going_on s line) else told_metric s line

unfoldable pub setting : State → List ℕ → Option State
setting s line =
    first_of (set_input s line) (first_of (set_agg s line) (first_of (set_output s line) (going_on s line)))

abbrev pub at_stage : Stage → State → List ℕ → Option State
at_stage Starting s line = starting s line
at_stage Setting s line = setting s line
at_stage Telling s line = telling s line
at_stage Counting s line = counting s line
at_stage Over s line = None

-- what one more line makes of it
unfoldable pub after : State → List ℕ → Option State
after s line = at_stage s.stage s line
