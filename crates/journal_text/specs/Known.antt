-- What is known of Routes before they are written, and how they are written with it.
use Rattle.std.specs.Prelude.{◌≡◌, Bool, true, false, ℕ, List, [], ◌∷◌, ◌++◌, codes, decimal, drop, IfSome}
use Rattle.std.specs.Prelude.{if◌then◌else◌}
use Rattle.std.specs.List.{flat_map, AllByRecursion}
use Rattle.std.specs.declared.option.Option.{Option}
use Rattle.std.specs.declared.option.Option.TheVariants.{Some, None}
use Rattle.metric.specs.declared.metric.Content.{Content}
use Rattle.account.specs.declared.entry.Verdict.{Verdict}
use Rattle.account.specs.declared.entry.Entry.{Entry}
use Rattle.account.specs.declared.entry.Entry.TheVariants.{Route}
use Rattle.account.specs.Items.{named_by, routes_by}
use Rattle.account.specs.Says.{reports_of}
use Rattle.journal_text.specs.JournalText.{beside_text, whole_text, verdict_text, metric_lines, report_lines}
use Rattle.journal_text.specs.JournalText.{head_text, item_of}
use Rattle.journal_text.specs.declared.known.Known.{Known}

-- nothing is known
abbrev pub nothing_known : Known
nothing_known = record { whole = false; aggs = false; outs = false }

-- ---- what is known is so

-- each of these views that stands is the whole
abbrev pub AreWhole : Option Content → List (Option Content) → Type 0
AreWhole whole views =
    IfSome whole (λ (w : Content). AllByRecursion (λ (view : Option Content). IfSome view (λ (v : Content). v
    ≡ w)) views)

-- what is known of a Route: that its whole is its item, and that its views are its whole
pub record IsKnownRoute (known : Known) (item : List Content) (whole : Option Content) (aggs outs : List
    (Option Content))
    : Type 0 where
  pub is_item : known.whole ≡ true → IfSome whole (λ (w : Content). item ≡ w ∷ [])
  pub seen : known.aggs ≡ true → AreWhole whole aggs
  pub passed : known.outs ≡ true → AreWhole whole outs

-- it is so for an entry, with the item of a Route
abbrev pub IsKnown : Known → List Content → Entry → Type 0
IsKnown known item (Route routed whole verdict aggs outs reports) = IsKnownRoute known item whole aggs outs
IsKnown known item _ = Unit {0}

-- the first of what is known of Routes; nothing where there is none
abbrev pub first_known : List Known → Known
first_known [] = nothing_known
first_known (known ∷ all) = known

-- what is known of an entry, where these are what is known of the next Routes: of a Route the first of them
abbrev pub known_of : List Known → Entry → Known
known_of all (Route routed whole verdict aggs outs reports) = first_known all
known_of all e = nothing_known

-- it is so for entries, each with the items that those before it named; these are named at first
unfoldable pub AreKnown : List Known → List Content → List Entry → Type 0
AreKnown all named [] = Unit {0}
AreKnown all named (e ∷ es) =
    IsKnown (known_of all e) (item_of named e) e × AreKnown (drop (routes_by e) all) (named ++ named_by e) es

-- ---- how an entry is written then

-- the whole of a Route: `=` where it is known to be its item
abbrev pub whole_as : Bool → List Content → Content → List ℕ
whole_as same item whole = if same then codes "=" else whole_text item whole

-- a view: `=` where it is known to be the whole, `-` for none
unfoldable pub view_as : Bool → Content → Option Content → List ℕ
view_as same whole None = codes "-"
view_as same whole (Some view) = if same then codes "=" else beside_text whole view

-- views, each behind a space
abbrev pub views_as : Bool → Content → List (Option Content) → List ℕ
views_as same whole views = flat_map (λ (view : Option Content). codes " " ++ view_as same whole view) views

-- what a Route says behind its item
unfoldable pub routed_as : Known → List Content → Option Content → Verdict → List (Option Content) →
    List (Option Content) → List ℕ
routed_as known item None verdict aggs outs = codes " - removed\n"
routed_as known item (Some whole) verdict aggs outs =
    codes " " ++ whole_as known.whole item whole ++ codes " " ++ verdict_text verdict
    ++ views_as known.aggs whole aggs ++ codes " /" ++ views_as known.outs whole outs ++ codes "\n"

-- the line of an entry
unfoldable pub head_as : Known → List Content → Entry → List ℕ
head_as known item (Route routed whole verdict aggs outs reports) =
    codes "route " ++ decimal routed ++ routed_as known item whole verdict aggs outs
head_as known item e = head_text item e

-- an entry: its line, the metrics that it names and its reports
unfoldable pub entry_as : Known → List Content → Entry → List ℕ
entry_as known item e = head_as known item e ++ metric_lines (named_by e) ++ report_lines (reports_of e)

-- ---- laws

-- the line is the same as without it, where what is known is so
abbrev pub KnownStays : Type 0
KnownStays = (known : Known) (item : List Content) (e : Entry) → IsKnown known item e
    → head_as known item e ≡ head_text item e

-- and where nothing is known
abbrev pub NothingStays : Type 0
NothingStays = (item : List Content) (e : Entry) → head_as nothing_known item e ≡ head_text item e
