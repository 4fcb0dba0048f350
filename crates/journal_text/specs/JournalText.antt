-- The text of a journal.
use Rattle.std.specs.Prelude.{◌≡◌, ◌↔◌, ℕ, ℤ, Bool, List, [], ◌∷◌, ◌++◌, length, codes, decimal, slice_get}
use Rattle.std.specs.Prelude.{IsTrue, if◌then◌else◌}
use Rattle.std.specs.List.{flat_map}
use Rattle.std.specs.Option.{option_to_list}
use Rattle.std.specs.declared.option.Option.{Option}
use Rattle.std.specs.declared.option.Option.TheVariants.{Some, None}
use Rattle.metric.specs.declared.metric.Content.{Content}
use Rattle.metric.specs.contracts.metric.ContentPartialEq.TheImpl.{eq-value}
use Rattle.account.specs.declared.entry.Verdict.{Verdict}
use Rattle.account.specs.declared.entry.Verdict.TheVariants.{Passes, Consumed, Late, Removed}
use Rattle.account.specs.declared.entry.Report.{Report}
use Rattle.account.specs.declared.entry.Entry.{Entry}
use Rattle.account.specs.declared.entry.Entry.TheVariants.{Ended, Take, Route, Tick, Stop, Begin, Done}
use Rattle.account.specs.Says.{GatherSays, gather_of, reports_of}
use Rattle.account.specs.Items.{items, named_by}
use Rattle.account.specs.Views.{HasViews}
use Rattle.std.specs.Fmt.{signed_decimal}
use Rattle.journal_text.specs.MetricText.{metric_text}
use Rattle.journal_text.specs.SetupText.{setup_text}
use Rattle.journal_text.specs.declared.setup.JournalSetup.{JournalSetup}

-- whether two metrics are equal, part by part
abbrev pub are_equal : Content → Content → Bool
are_equal first second = eq-value.it first second

-- a metric beside one that is known: `=` where they are equal, else its text
unfoldable pub beside_text : Content → Content → List ℕ
beside_text known m = if are_equal m known then codes "=" else metric_text m

-- the whole of a Route, beside its item
unfoldable pub whole_text : List Content → Content → List ℕ
whole_text [] whole = metric_text whole
whole_text (item ∷ others) whole = beside_text item whole

-- a view, beside the whole: `-` for none
unfoldable pub view_text : Content → Option Content → List ℕ
view_text whole None = codes "-"
view_text whole (Some view) = beside_text whole view

-- views, each behind a space
abbrev pub views_text : Content → List (Option Content) → List ℕ
views_text whole views = flat_map (λ (view : Option Content). codes " " ++ view_text whole view) views

abbrev pub verdict_text : Verdict → List ℕ
verdict_text Passes = codes "passes"
verdict_text Consumed = codes "consumed"
verdict_text Late = codes "late"
verdict_text Removed = codes "removed"

-- what a Route says behind its item: that it was removed, or its whole, its verdict and its views
unfoldable pub routed_text : List Content → Option Content → Verdict → List (Option Content) →
    List (Option Content) → List ℕ
routed_text item None verdict aggs outs = codes " - removed\n"
routed_text item (Some whole) verdict aggs outs =
    codes " " ++ whole_text item whole ++ codes " " ++ verdict_text verdict
    ++ views_text whole aggs ++ codes " /" ++ views_text whole outs ++ codes "\n"

-- the line of a metric
abbrev pub metric_line : Content → List ℕ
metric_line m = codes "m " ++ metric_text m ++ codes "\n"

-- the lines of metrics
abbrev pub metric_lines : List Content → List ℕ
metric_lines metrics = flat_map metric_line metrics

-- the line of a report
unfoldable pub report_line : Report → List ℕ
report_line report =
    codes "report " ++ decimal report.group
    ++ (if report.delivered then codes " delivered\n" else codes " rejected\n")

-- the lines of reports
abbrev pub report_lines : List Report → List ℕ
report_lines reports = flat_map report_line reports

-- the number of a group, where there is one
abbrev pub group_text : Option ℕ → List ℕ
group_text None = codes "-"
group_text (Some group) = decimal group

-- numbers, each behind a space
abbrev pub spaced : List ℕ → List ℕ
spaced numbers = flat_map (λ (n : ℕ). codes " " ++ decimal n) numbers

-- the line of a Gather: the input, the moment, the numbers and the group
unfoldable pub gather_line : ℕ → ℤ → List ℕ → Option ℕ → List ℕ
gather_line input moment numbers group =
    codes "gather " ++ decimal input ++ codes " " ++ signed_decimal moment ++ spaced numbers
    ++ codes " " ++ group_text group ++ codes "\n"

-- the line of a Gather, and nothing where there is none
unfoldable pub gather_head : Option GatherSays → List ℕ
gather_head None = []
gather_head (Some says) =
    gather_line says.input says.moment
    (says.pieces ∷ says.refused ∷ says.passed ∷ says.filtered ∷ length says.metrics ∷ []) says.group

-- the line of a Tick or a Stop: its word, the moment, and how many metrics were made
abbrev pub made_line : List ℕ → ℤ → ℕ → List ℕ
made_line word moment made = word ++ signed_decimal moment ++ codes " " ++ decimal made ++ codes "\n"

-- the line of an entry, with the item of a Route; the lines of its metrics and of its reports stand behind it
unfoldable pub head_text : List Content → Entry → List ℕ
head_text item (Ended input) = codes "ended " ++ decimal input ++ codes "\n"
head_text item (Take taken) = codes "take " ++ decimal taken ++ codes "\n"
head_text item (Route routed whole verdict aggs outs reports) =
    codes "route " ++ decimal routed ++ routed_text item whole verdict aggs outs
head_text item (Tick moment made) = made_line (codes "tick ") moment (length made)
head_text item (Stop moment made) = made_line (codes "stop ") moment (length made)
head_text item (Begin output from to) =
    codes "begin " ++ decimal output ++ codes " " ++ decimal from ++ codes " " ++ decimal to ++ codes "\n"
head_text item (Done output ok reports) =
    codes "done " ++ decimal output ++ (if ok then codes " ok\n" else codes " failed\n")
head_text item e = gather_head (gather_of e)

-- an entry, with the item of a Route: its line, the metrics that it names and its reports
unfoldable pub entry_text : List Content → Entry → List ℕ
entry_text item e = head_text item e ++ metric_lines (named_by e) ++ report_lines (reports_of e)

-- the item of an entry among these: that of a Route
abbrev pub item_of : List Content → Entry → List Content
item_of known (Route routed whole verdict aggs outs reports) = option_to_list (slice_get known routed)
item_of known _ = []

-- entries, each with the items that those before it named; these are known at first
unfoldable pub entries_text : List Content → List Entry → List ℕ
entries_text known [] = []
entries_text known (e ∷ es) = entry_text (item_of known e) e ++ entries_text (known ++ named_by e) es

-- the end: the account's text, and the number of entries
unfoldable pub end_text : List ℕ → ℕ → List ℕ
end_text account entries = account ++ codes "end " ++ decimal entries ++ codes "\n"

-- a whole journal, with the text of its account
unfoldable pub journal_text : JournalSetup → List Entry → List ℕ → List ℕ
journal_text s es account = setup_text s ++ entries_text [] es ++ end_text account (length es)

-- one metric is at hand for a Route, its item, and none for another entry
abbrev pub HasItem : List Content → Entry → Type 0
HasItem metrics (Route routed whole verdict aggs outs reports) = length metrics ≡ 1
HasItem metrics _ = length metrics ≡ 0

-- a Route is Removed exactly where it has no whole, and then has no views
abbrev pub IsWholeOrRemoved : Entry → Type 0
IsWholeOrRemoved (Route routed whole verdict aggs outs reports) =
    ((verdict ≡ Removed) ↔ (whole ≡ None)) × HasViews whole aggs × HasViews whole outs
IsWholeOrRemoved _ = Unit {0}

-- one more entry adds its text, beside its item among those that entries before it named
abbrev pub TextGrows : Type 0
TextGrows = (es : List Entry) (e : Entry) →
    entries_text [] (es ++ e ∷ []) ≡ entries_text [] es ++ entry_text (item_of (items es) e) e

-- the text of a front of a journal is a front of the journal's text: what follows it only adds to it
abbrev pub FrontsStay : Type 0
FrontsStay = (front rest : List Entry) →
    entries_text [] (front ++ rest) ≡ entries_text [] front ++ entries_text (items front) rest

-- metrics are equal, part by part, exactly where they are the same
abbrev pub EqualAreSame : Type 0
EqualAreSame = (first second : Content) → IsTrue (are_equal first second) ↔ (first ≡ second)
