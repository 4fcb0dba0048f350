-- What was read so far.
use Rattle.std.specs.Prelude.{◌≡◌, ℕ, pos, Bool, true, false, List, [], ◌∷◌, ◌++◌, Option, Some}
use Rattle.std.specs.Prelude.{None, nat_lt, Result, Ok, Err, option_map}
use Rattle.std.specs.BTreeMap.{insert_entry, is_at}
use Rattle.std.specs.Map.{lookup}
use Rattle.std.specs.Ordering.{nat_cmp}
use Rattle.metric.specs.declared.metric.Content.{Content}
use Rattle.account.specs.declared.entry.Report.{Report}
use Rattle.account.specs.declared.entry.Entry.{Entry}
use Rattle.account.specs.declared.entry.Entry.TheVariants.{Gather, Route, Tick, Stop, Done}
use Rattle.journal_reader.specs.Words.{◌>>=◌, where_true}
use Rattle.journal_reader.specs.declared.state.State.{State}
use Rattle.journal_reader.specs.declared.state.Stage.TheVariants.{Starting}

-- nothing but the version was read
abbrev pub beginning : State
beginning = record {
  stage = Starting;
  setup = record { start = pos 0; inputs = []; aggs = []; outputs = [] };
  entries = [];
  last = None;
  owed = 0;
  known = [];
  groups = [];
  forms = [];
  counted = 0;
  account = [];
}

-- ---- the last entry, which may go on

-- with one more metric behind its line
unfoldable pub with_metric : Entry → Content → Entry
with_metric (Gather input moment pieces refused passed filtered metrics group reports) m =
    Gather input moment pieces refused passed filtered (metrics ++ m ∷ []) group reports
with_metric (Tick moment made) m = Tick moment (made ++ m ∷ [])
with_metric (Stop moment made) m = Stop moment (made ++ m ∷ [])
with_metric e m = e

-- the group comes behind those of the reports
unfoldable pub is_above : List Report → ℕ → Bool
is_above [] group = true
is_above (report ∷ []) group = nat_lt report.group group
is_above (report ∷ other ∷ others) group = is_above (other ∷ others) group

-- reports with one more, whose group comes behind theirs
unfoldable pub risen : List Report → Report → Option (List Report)
risen reports report = where_true (is_above reports report.group) (Some (reports ++ report ∷ []))

-- the entry with one more report; nothing for an entry that has none, or where groups wouldn't rise
unfoldable pub reported : Entry → Report → Option Entry
reported (Gather input moment pieces refused passed filtered metrics group reports) report = do
  reports ← risen reports report
  Some (Gather input moment pieces refused passed filtered metrics group reports)
reported (Route item whole verdict aggs outs reports) report = do
  reports ← risen reports report
  Some (Route item whole verdict aggs outs reports)
reported (Done output ok reports) report = do
  reports ← risen reports report
  Some (Done output ok reports)
reported e report = None

-- the last entry, where there is one, with one more report
unfoldable pub last_reported : Option Entry → Report → Option (Option Entry)
last_reported None report = None
last_reported (Some e) report = option_map Some (reported e report)

-- the last entry, where there is one, with one more metric
abbrev pub last_with : Option Entry → Content → Option Entry
last_with None m = None
last_with (Some e) m = Some (with_metric e m)

-- ---- groups, each with the input that gathered it last

-- with the group of an entry that is a Gather of one
unfoldable pub with_group : List (ℕ × ℕ) → Entry → List (ℕ × ℕ)
with_group groups (Gather input moment pieces refused passed filtered metrics (Some group) reports) =
    insert_entry nat_cmp groups group input
with_group groups e = groups

-- the input of a group
unfoldable pub input_of : List (ℕ × ℕ) → ℕ → Option ℕ
input_of groups group = lookup (is_at (nat_cmp group)) groups

-- ---- trying

-- what a call that answers so made of a value; where it answers no, it made nothing, and the value is as before
abbrev pub TriesIt : {X : Type 0} → Bool → Option X → X → X → Type 0
TriesIt true made old new = made ≡ Some new
TriesIt false made old new = (made ≡ None) × (new ≡ old)

-- the same, where the value may be any other if nothing was made
abbrev pub MakesIt : {X : Type 0} → Bool → Option X → X → Type 0
MakesIt true made new = made ≡ Some new
MakesIt false made new = made ≡ None

-- the same of calls that may want memory
abbrev pub Tries : {E X : Type 0} → Result Bool E → Option X → X → X → Type 0
Tries (Ok done) made old new = TriesIt done made old new
Tries (Err e) made old new = Unit {0}

abbrev pub Makes : {E X : Type 0} → Result Bool E → Option X → X → Type 0
Makes (Ok done) made new = MakesIt done made new
Makes (Err e) made new = Unit {0}
