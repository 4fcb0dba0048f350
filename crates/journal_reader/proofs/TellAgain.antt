-- The text of entries is read as them.
use Rattle.std.proofs.Common.{◌≡◌, ℕ, ℤ, suc, ◌-◌, ◌<◌, ◌^◌, Bool, true, false, cond, ltb, List, [], ◌∷◌, ◌++◌}
use Rattle.std.proofs.Common.{length, refl, sym, Option, Some, None, ap, subst, ◌∙◌, ◌⊎◌, inl, inr, arith, append_assoc}
use Rattle.std.specs.Prelude.{◌==◌, ◌&&◌, map, nat_lt, codes, if◌then◌else◌}
use Rattle.std.specs.Fmt.{decimal}
use Rattle.std.specs.BTreeMap.{insert_entry, is_at}
use Rattle.journal_reader.specs.Reading.{is_over}
use Rattle.std.specs.List.{AllByRecursion, join_with_byte}
use Rattle.std.specs.List.Sorted.{IsStrictlySortedBy}
use Rattle.std.specs.Map.{lookup}
use Rattle.std.specs.Ordering.{nat_cmp, is_eq, match_ordering}
use Rattle.std.specs.declared.cmp.Ordering.TheVariants.{Less, Equal, Greater}
use Rattle.std.proofs.lemmas.Bool.{ne_eqb, le-ltb, ltb-true, eqb-true, eqb-false, eq-eqb}
use Rattle.std.proofs.lemmas.List.{append-nil}
use Rattle.text_parts.specs.Bytes.{space, newline}
use Rattle.metric.specs.declared.metric.Content.{Content}
use Rattle.metric.specs.Metric.{IsMetric}
use Rattle.account.specs.declared.entry.Report.{Report}
use Rattle.account.specs.declared.entry.Entry.{Entry}
use Rattle.account.specs.declared.entry.Entry.TheVariants.{Gather, Ended, Take, Route, Tick, Stop, Begin, Done}
use Rattle.account.specs.Items.{named_by}
use Rattle.account.specs.Says.{gather_of, reports_of}
use Rattle.journal_text.specs.declared.setup.JournalSetup.{JournalSetup}
use Rattle.journal_text.specs.MetricText.{metric_text}
use Rattle.journal_text.specs.JournalText.{metric_line, metric_lines, report_line, report_lines, head_text, entry_text}
use Rattle.journal_text.specs.JournalText.{item_of, entries_text}
use Rattle.journal_reader.specs.declared.entry.Sizes.{Sizes}
use Rattle.journal_reader.specs.declared.state.State.{State}
use Rattle.journal_reader.specs.declared.state.Stage.TheVariants.{Setting, Telling}
use Rattle.journal_reader.specs.Words.{◌>>=◌, Parts, taken, behind, at_end, words_of, either_of}
use Rattle.journal_reader.specs.SetupReading.{numbered_in, input_in, agg_in, output_in}
use Rattle.journal_reader.specs.EntryReading.{metric_in, report_in}
use Rattle.journal_reader.specs.States.{beginning, with_metric, is_above, risen, reported, last_reported}
use Rattle.journal_reader.specs.States.{with_group, input_of}
use Rattle.journal_reader.specs.Steps.{set_input, set_agg, set_output, told_metric, told_report}
use Rattle.journal_reader.specs.Steps.{told_entry, going_on, telling, setting, after}
use Rattle.journal_reader.specs.Spellable.{FitsEntry, input_here, last_input, IsReport, AreReports}
use Rattle.journal_reader.specs.Spellable.{HaveReports}
use Rattle.journal_reader.proofs.LeadLemmas.{Leads, leads_nothing, leads_line, leads_then}
use Rattle.journal_reader.proofs.WordLemmas.{number_read, either_text}
use Rattle.journal_reader.proofs.LineWords.{Quiet, literal, index_quiet, metric_quiet, IsLine, line_of, behind_is}
use Rattle.journal_reader.proofs.MetricAgain.{metric_again}
use Rattle.journal_reader.proofs.SetupAgain.{where_none}
use Rattle.journal_reader.proofs.EntryAgain.{first_word, other_words, begun_of, entry_again, head_is, words_quiet}

-- ---- what was read

-- entries were read, the last of which may go on
unfoldable pub tell : JournalSetup → List Entry → Entry → ℕ → List Content → List (ℕ × ℕ) → State
tell setup entries e owed known groups = record beginning {
  stage = Telling;
  setup = setup;
  entries = entries;
  last = Some e;
  owed = owed;
  known = known;
  groups = groups;
}

-- the set-up was read
unfoldable pub set : JournalSetup → State
set setup = record beginning { stage = Setting; setup = setup }

-- where the set-up and some entries were read: behind the set-up, or behind an entry
pub data Place : Type 0 where
  AtSetup : Place
  AtEntry : List Entry → Entry → List Content → List (ℕ × ℕ) → Place

-- what was read there
unfoldable pub state_at : JournalSetup → Place → State
state_at setup AtSetup = set setup
state_at setup (AtEntry entries e known groups) = tell setup entries e 0 known groups

-- the entries, their items, and the groups that were gathered
unfoldable pub entries_at : Place → List Entry
entries_at AtSetup = []
entries_at (AtEntry entries e known groups) = entries ++ e ∷ []

unfoldable pub known_at : Place → List Content
known_at AtSetup = []
known_at (AtEntry entries e known groups) = known

unfoldable pub groups_at : Place → List (ℕ × ℕ)
groups_at AtSetup = []
groups_at (AtEntry entries e known groups) = groups

-- ---- the line of an entry

unfoldable pub sizes_of : JournalSetup → Sizes
sizes_of setup = record { aggs = length setup.aggs; outs = length setup.outputs }

-- it is no line of the set-up, and no report
pub record IsOther (words : Parts) : Type 0 where
  pub input : (index : ℕ) → input_in index words ≡ None
  pub agg : (index : ℕ) → agg_in index words ≡ None
  pub output : (index : ℕ) → output_in index words ≡ None
  pub report : report_in words ≡ None

entry_other : (e : Entry) (words : Parts) → IsOther (first_word e ∷ words)
unfolding first_word input_in agg_in output_in numbered_in report_in behind
entry_other (Gather input moment pieces refused passed filtered metrics group reports) words =
    record { input = λ i. refl; agg = λ i. refl; output = λ i. refl; report = refl }
entry_other (Ended input) words =
    record { input = λ i. refl; agg = λ i. refl; output = λ i. refl; report = refl }
entry_other (Take item) words =
    record { input = λ i. refl; agg = λ i. refl; output = λ i. refl; report = refl }
entry_other (Route item whole verdict aggs outs reports) words =
    record { input = λ i. refl; agg = λ i. refl; output = λ i. refl; report = refl }
entry_other (Tick moment made) words =
    record { input = λ i. refl; agg = λ i. refl; output = λ i. refl; report = refl }
entry_other (Stop moment made) words =
    record { input = λ i. refl; agg = λ i. refl; output = λ i. refl; report = refl }
entry_other (Begin output from to) words =
    record { input = λ i. refl; agg = λ i. refl; output = λ i. refl; report = refl }
entry_other (Done output ok reports) words =
    record { input = λ i. refl; agg = λ i. refl; output = λ i. refl; report = refl }

-- such a line goes on behind the set-up and behind an entry
set_goes : (setup : JournalSetup) (line : List ℕ) (words : Parts) → words_of line ≡ words → IsOther words
    → after (set setup) line ≡ going_on (set setup) line
unfolding after setting set_input set_agg set_output set
set_goes setup line words is other =
    rw (
      is,
      other.input (length setup.inputs),
      other.agg (length setup.aggs),
      other.output (length setup.outputs),
      where_none (length setup.aggs == 0 && length setup.outputs == 0),
      where_none (length setup.outputs == 0),
    ) refl

tell_goes : (setup : JournalSetup) (entries : List Entry) (e : Entry) (known : List Content) (groups : List (ℕ × ℕ))
    (line : List ℕ) (words : Parts) → words_of line ≡ words → IsOther words
    → after (tell setup entries e 0 known groups) line ≡ going_on (tell setup entries e 0 known groups) line
unfolding after telling told_report tell
tell_goes setup entries e known groups line words is other = rw (is, other.report) refl

pub goes_on : (setup : JournalSetup) (at : Place) (line : List ℕ) (words : Parts) → words_of line ≡ words
    → IsOther words
    → after (state_at setup at) line ≡ going_on (state_at setup at) line
unfolding state_at
goes_on setup AtSetup line words is other = set_goes setup line words is other
goes_on setup (AtEntry entries e known groups) line words is other =
    tell_goes setup entries e known groups line words is other

-- the entry that is told next
next_at : JournalSetup → Place → Entry → State
next_at setup at e =
    tell setup (entries_at at) (begun_of e) (length (named_by e)) (known_at at) (with_group (groups_at at) (begun_of e))

begins_at : (setup : JournalSetup) (at : Place) (e : Entry) (line : List ℕ) → FitsEntry setup e
    → words_of line ≡ first_word e ∷ other_words (item_of (known_at at) e) e
    → told_entry (state_at setup at) line ≡ Some (next_at setup at e)
unfolding told_entry set tell state_at entries_at known_at groups_at next_at
begins_at setup AtSetup e line h is = rw (is, entry_again [] setup e h) refl
begins_at setup (AtEntry entries last known groups) e line h is = rw (is, entry_again known setup e h) refl

going_told : (s next : State) (line : List ℕ) → told_entry s line ≡ Some next → going_on s line ≡ Some next
unfolding going_on
going_told s next line is = rw is refl

pub not_over : (setup : JournalSetup) (at : Place) → is_over (state_at setup at).stage ≡ false
unfolding set tell state_at
not_over setup AtSetup = refl
not_over setup (AtEntry entries e known groups) = refl

leads_head : (setup : JournalSetup) (at : Place) (e : Entry) → FitsEntry setup e
    → Leads (state_at setup at) (head_text (item_of (known_at at) e) e) (next_at setup at e)
leads_head setup at e h =
    let words = line_of (first_word e) (other_words (item_of (known_at at) e) e)
    (words_quiet (known_at at) setup e h) in
    let line = join_with_byte space (first_word e ∷ other_words (item_of (known_at at) e) e) in
    let made : after (state_at setup at) line ≡ Some (next_at setup at e) =
    goes_on setup at line (first_word e ∷ other_words (item_of (known_at at) e) e) words.is
    (entry_other e (other_words (item_of (known_at at) e) e))
    ∙ going_told (state_at setup at) (next_at setup at e) line (begins_at setup at e line h words.is) in
    subst (λ (t : List ℕ). Leads (state_at setup at) t (next_at setup at e)) (sym (head_is (item_of (known_at at) e) e))
    (leads_line (state_at setup at) (next_at setup at e) line words.none (not_over setup at) made)

-- ---- its metrics

unfoldable pub with_metrics : Entry → List Content → Entry
with_metrics e [] = e
with_metrics e (m ∷ metrics) = with_metrics (with_metric e m) metrics

metric_words : (m : Content) → IsMetric m
    → IsLine (join_with_byte space (codes "m" ∷ metric_text m ∷ [])) (codes "m" ∷ metric_text m ∷ [])
metric_words m h = line_of (codes "m") (metric_text m ∷ []) (literal (codes "m") refl refl, (metric_quiet m h, tt))

metric_made : (setup : JournalSetup) (entries : List Entry) (e : Entry) (owed : ℕ) (known : List Content)
    (groups : List (ℕ × ℕ)) (m : Content) (line : List ℕ) → IsMetric m → words_of line ≡ codes "m" ∷ metric_text m ∷ []
    → after (tell setup entries e (suc owed) known groups) line
    ≡ Some (tell setup entries (with_metric e m) owed (known ++ m ∷ []) groups)
unfolding after telling told_metric metric_in tell
metric_made setup entries e owed known groups m line h is =
    let some : (suc owed == 0) ≡ false = ne_eqb (suc owed) 0 (λ e. absurd (omega (arith, e))) in
    let less : suc owed - 1 ≡ owed = omega arith in
    rw (some, is, behind_is (codes "m") (metric_text m ∷ []), metric_again m h, less) refl

leads_metrics : (setup : JournalSetup) (entries : List Entry) (e : Entry) (known : List Content) (groups : List (ℕ × ℕ))
    (metrics : List Content) → AllByRecursion IsMetric metrics
    → Leads (tell setup entries e (length metrics) known groups) (metric_lines metrics)
    (tell setup entries (with_metrics e metrics) 0 (known ++ metrics) groups)
unfolding with_metrics tell
leads_metrics setup entries e known groups [] h =
    subst (λ (ms : List Content). Leads (tell setup entries e 0 known groups) [] (tell setup entries e 0 ms groups))
    (sym (append-nil known)) (leads_nothing (tell setup entries e 0 known groups))
leads_metrics setup entries e known groups (m ∷ metrics) h =
    let words = metric_words m h.0 in
    let line = join_with_byte space (codes "m" ∷ metric_text m ∷ []) in
    let text : metric_line m ≡ line ++ newline ∷ [] = simp append_assoc in
    let next = tell setup entries (with_metric e m) (length metrics) (known ++ m ∷ []) groups in
    let one = leads_line (tell setup entries e (suc (length metrics)) known groups) next line words.none refl
    (metric_made setup entries e (length metrics) known groups m line h.0 words.is) in
    let others = leads_metrics setup entries (with_metric e m) (known ++ m ∷ []) groups metrics h.1 in
    subst (λ (ms : List Content). Leads (tell setup entries e (suc (length metrics)) known groups)
    (metric_line m ++ metric_lines metrics)
    (tell setup entries (with_metrics (with_metric e m) metrics) 0 ms groups)) (append_assoc known (m ∷ []) metrics)
    (subst (λ (t : List ℕ). Leads (tell setup entries e (suc (length metrics)) known groups)
    (t ++ metric_lines metrics)
    (tell setup entries (with_metrics (with_metric e m) metrics) 0 ((known ++ m ∷ []) ++ metrics) groups)) (sym text)
    (leads_then (tell setup entries e (suc (length metrics)) known groups) next
    (tell setup entries (with_metrics (with_metric e m) metrics) 0 ((known ++ m ∷ []) ++ metrics) groups)
    (line ++ newline ∷ []) (metric_lines metrics) one others))

-- ---- its reports

-- the entry with these reports, where it has some
unfoldable pub with_reports : Entry → List Report → Entry
with_reports (Gather input moment pieces refused passed filtered metrics group reports) rs =
    Gather input moment pieces refused passed filtered metrics group rs
with_reports (Ended input) rs = Ended input
with_reports (Take item) rs = Take item
with_reports (Route item whole verdict aggs outs reports) rs = Route item whole verdict aggs outs rs
with_reports (Tick moment made) rs = Tick moment made
with_reports (Stop moment made) rs = Stop moment made
with_reports (Begin output from to) rs = Begin output from to
with_reports (Done output ok reports) rs = Done output ok rs

HasList : Entry → Type 0
HasList (Gather input moment pieces refused passed filtered metrics group reports) = Unit {0}
HasList (Ended input) = ⊥
HasList (Take item) = ⊥
HasList (Route item whole verdict aggs outs reports) = Unit {0}
HasList (Tick moment made) = ⊥
HasList (Stop moment made) = ⊥
HasList (Begin output from to) = ⊥
HasList (Done output ok reports) = Unit {0}

reported_at : (e : Entry) (before : List Report) (report : Report) → HasList e → is_above before report.group ≡ true
    → reported (with_reports e before) report ≡ Some (with_reports e (before ++ report ∷ []))
unfolding reported with_reports risen HasList
reported_at (Gather input moment pieces refused passed filtered metrics group reports) before report h above =
    rw above refl
reported_at (Ended input) before report h above = absurd h
reported_at (Take item) before report h above = absurd h
reported_at (Route item whole verdict aggs outs reports) before report h above = rw above refl
reported_at (Tick moment made) before report h above = absurd h
reported_at (Stop moment made) before report h above = absurd h
reported_at (Begin output from to) before report h above = absurd h
reported_at (Done output ok reports) before report h above = rw above refl

-- reports, each with a group above those before it, whose input is known
Rises : List (ℕ × ℕ) → List Report → List Report → Type 0
Rises groups before [] = Unit {0}
Rises groups before (report ∷ reports) =
    (is_above before report.group ≡ true) × (report.group < 2 ^ 64)
    × (input_of groups report.group ≡ Some report.input) × Rises groups (before ++ report ∷ []) reports

unfoldable pub delivered_text : Bool → List ℕ
delivered_text delivered = either_text (codes "delivered") (codes "rejected") delivered

unfoldable pub report_words : Report → Parts
report_words report = decimal report.group ∷ delivered_text report.delivered ∷ []

report_again : (report : Report) → report.group < 2 ^ 64
    → report_in (codes "report" ∷ report_words report) ≡ Some (report.group, report.delivered)
unfolding report_in report_words either_of delivered_text
report_again report h =
    rw (
      behind_is (codes "report") (decimal report.group ∷ delivered_text report.delivered ∷ []),
      number_read report.group h,
    ) (at report.delivered)
  where
    at : (delivered : Bool)
        → (let next : Bool × Parts → Option (ℕ × Bool) = λ d. at_end (report.group, d.0) d.1 in
        taken (either_of (codes "delivered") (codes "rejected")) (delivered_text delivered ∷ []) >>= next)
        ≡ Some (report.group, delivered)
    at true = refl
    at false = refl

report_quiet : (report : Report) → AllByRecursion Quiet (codes "report" ∷ report_words report)
unfolding report_words delivered_text
report_quiet report = (literal (codes "report") refl refl, (index_quiet report.group, (at report.delivered, tt)))
  where
    at : (delivered : Bool) → Quiet (delivered_text delivered)
    at true = literal (codes "delivered") refl refl
    at false = literal (codes "rejected") refl refl

pub report_text : (report : Report)
    → report_line report ≡ join_with_byte space (codes "report" ∷ report_words report) ++ newline ∷ []
unfolding report_line report_words delivered_text
report_text report = at report.delivered
  where
    at : (delivered : Bool)
        → codes "report " ++ decimal report.group ++ (if delivered then codes " delivered\n" else codes " rejected\n")
        ≡ join_with_byte space (codes "report" ∷ decimal report.group ∷ delivered_text delivered ∷ []) ++ newline ∷ []
    at true = simp append_assoc
    at false = simp append_assoc

report_made : (setup : JournalSetup) (entries : List Entry) (e : Entry) (before : List Report) (known : List Content)
    (groups : List (ℕ × ℕ)) (report : Report) (line : List ℕ) → HasList e → is_above before report.group ≡ true
    → report.group < 2 ^ 64 → input_of groups report.group ≡ Some report.input
    → words_of line ≡ codes "report" ∷ report_words report
    → after (tell setup entries (with_reports e before) 0 known groups) line
    ≡ Some (tell setup entries (with_reports e (before ++ report ∷ [])) 0 known groups)
unfolding after telling told_report last_reported tell
report_made setup entries e before known groups report line has above small input is =
    rw (is, report_again report small, input, reported_at e before report has above) refl

leads_reports : (setup : JournalSetup) (entries : List Entry) (e : Entry) (before reports : List Report)
    (known : List Content) (groups : List (ℕ × ℕ)) → HasList e → Rises groups before reports
    → Leads (tell setup entries (with_reports e before) 0 known groups) (report_lines reports)
    (tell setup entries (with_reports e (before ++ reports)) 0 known groups)
unfolding Rises tell
leads_reports setup entries e before [] known groups has rises =
    subst (λ (rs : List Report). Leads (tell setup entries (with_reports e before) 0 known groups) []
    (tell setup entries (with_reports e rs) 0 known groups)) (sym (append-nil before))
    (leads_nothing (tell setup entries (with_reports e before) 0 known groups))
leads_reports setup entries e before (report ∷ reports) known groups has rises =
    let words = line_of (codes "report") (report_words report) (report_quiet report) in
    let line = join_with_byte space (codes "report" ∷ report_words report) in
    let next = tell setup entries (with_reports e (before ++ report ∷ [])) 0 known groups in
    let one = leads_line (tell setup entries (with_reports e before) 0 known groups) next line words.none refl
    (report_made setup entries e before known groups report line has rises.0 rises.1 rises.2 words.is) in
    let others = leads_reports setup entries e (before ++ report ∷ []) reports known groups has rises.3 in
    subst (λ (rs : List Report). Leads (tell setup entries (with_reports e before) 0 known groups)
    (report_line report ++ report_lines reports) (tell setup entries (with_reports e rs) 0 known groups))
    (append_assoc before (report ∷ []) reports)
    (subst (λ (t : List ℕ). Leads (tell setup entries (with_reports e before) 0 known groups)
    (t ++ report_lines reports)
    (tell setup entries (with_reports e ((before ++ report ∷ []) ++ reports)) 0 known groups))
    (sym (report_text report))
    (leads_then (tell setup entries (with_reports e before) 0 known groups) next
    (tell setup entries (with_reports e ((before ++ report ∷ []) ++ reports)) 0 known groups)
    (line ++ newline ∷ []) (report_lines reports) one others))

-- ---- groups

numbers_eq : (a b : ℕ) → is_eq (nat_cmp a b) ≡ (b == a)
numbers_eq a b = at (ltb a b) refl (a == b) refl
  where
    at : (less : Bool) → ltb a b ≡ less → (same : Bool) → (a == b) ≡ same
        → is_eq (cond less Less (cond same Equal Greater)) ≡ (b == a)
    at true lt same e = sym (ne_eqb b a (λ is. absurd (omega (arith, ltb-true a b lt, is))))
    at false lt true e = sym (eq-eqb b a (sym (eqb-true a b e)))
    at false lt false e = sym (ne_eqb b a (λ is. absurd (eqb-false a b e (sym is))))

same_number : (k : ℕ) → nat_cmp k k ≡ Equal
same_number k =
    let less : ltb k k ≡ false = le-ltb k k (omega arith) in
    let same : (k == k) ≡ true = eq-eqb k k refl in
    rw (less, same) refl

-- the test of a key as the map has it
abbrev Test : ℕ → ℕ → Bool
Test asked key = is_eq (nat_cmp asked key)

equal_is : (a b : ℕ) → nat_cmp a b ≡ Equal → a ≡ b
equal_is a b e = sym (eqb-true b a (sym (numbers_eq a b) ∙ ap is_eq e))

-- the input of a group, where one more was put among those that are known
inserted : (groups : List (ℕ × ℕ)) (group input asked : ℕ)
    → lookup (is_at (nat_cmp asked)) (insert_entry nat_cmp groups group input)
    ≡ cond (Test asked group) (Some input) (lookup (is_at (nat_cmp asked)) groups)
inserted [] group input asked = refl
inserted (e ∷ es) group input asked =
    elim (nat_cmp group e.0) as (λ o. nat_cmp group e.0 ≡ o
    → lookup (is_at (nat_cmp asked)) (match_ordering o ((group, input) ∷ e ∷ es) ((e.0, input) ∷ es)
    (e ∷ insert_entry nat_cmp es group input))
    ≡ cond (Test asked group) (Some input) (cond (Test asked e.0) (Some e.1) (lookup (is_at (nat_cmp asked)) es))) [
      | Less ↦ λ is. refl
      | Equal ↦ λ is. same (equal_is group e.0 is) (Test asked e.0)
      | Greater ↦ λ is. rw (inserted es group input asked) (apart is (Test asked group) refl (Test asked e.0) refl)
    ] refl
  where
    rest : Option ℕ
    rest = lookup (is_at (nat_cmp asked)) es

    same : group ≡ e.0 → (t : Bool)
        → cond (Test asked e.0) (Some input) rest
        ≡ cond (Test asked group) (Some input) (cond (Test asked e.0) (Some e.1) rest)
    same is t = rw is (both (Test asked e.0))
      where
        both : (b : Bool) → cond b (Some input) rest ≡ cond b (Some input) (cond b (Some e.1) rest)
        both true = refl
        both false = refl

    apart : nat_cmp group e.0 ≡ Greater → (one : Bool) → Test asked group ≡ one → (other : Bool)
        → Test asked e.0 ≡ other
        → cond other (Some e.1) (cond one (Some input) rest) ≡ cond one (Some input) (cond other (Some e.1) rest)
    apart is true f true g =
        let first : group ≡ asked = eqb-true group asked (sym (numbers_eq asked group) ∙ f) in
        let second : e.0 ≡ asked = eqb-true e.0 asked (sym (numbers_eq asked e.0) ∙ g) in
        let equal : nat_cmp group e.0 ≡ Equal = ap (λ (k : ℕ). nat_cmp group k) (second ∙ sym first)
        ∙ same_number group in
        let clash : Greater ≡ Equal = sym is ∙ equal in
        absurd cc
    apart is true e false g = refl
    apart is false e true g = refl
    apart is false e false g = refl

-- ---- all of an entry

-- the inputs that are known are those of the last Gathers
unfoldable pub KnowsGroups : List (ℕ × ℕ) → List Entry → Type 0
KnowsGroups groups entries = (group : ℕ) → input_of groups group ≡ last_input group None entries

pub last_push : (group : ℕ) (found : Option ℕ) (entries : List Entry) (e : Entry)
    → last_input group found (entries ++ e ∷ []) ≡ input_here group (last_input group found entries) (gather_of e)
unfolding last_input
last_push group found [] e = refl
last_push group found (x ∷ entries) e = last_push group (input_here group found (gather_of x)) entries e

pub group_here : (groups : List (ℕ × ℕ)) (e : Entry) (asked : ℕ)
    → input_of (with_group groups (begun_of e)) asked ≡ input_here asked (input_of groups asked) (gather_of e)
unfolding input_of with_group begun_of
group_here groups (Gather input moment pieces refused passed filtered metrics None reports) asked = refl
group_here groups (Gather input moment pieces refused passed filtered metrics (Some group) reports) asked =
    inserted groups group input asked
    ∙ ap (λ (t : Bool). cond t (Some input) (lookup (is_at (nat_cmp asked)) groups)) (numbers_eq asked group)
group_here groups (Ended input) asked = refl
group_here groups (Take item) asked = refl
group_here groups (Route item whole verdict aggs outs reports) asked = refl
group_here groups (Tick moment made) asked = refl
group_here groups (Stop moment made) asked = refl
group_here groups (Begin output from to) asked = refl
group_here groups (Done output ok reports) asked = refl

pub knows_more : (groups : List (ℕ × ℕ)) (entries : List Entry) (e : Entry) → KnowsGroups groups entries
    → KnowsGroups (with_group groups (begun_of e)) (entries ++ e ∷ [])
unfolding KnowsGroups
knows_more groups entries e h = λ group.
    group_here groups e group
    ∙ ap (λ (found : Option ℕ). input_here group found (gather_of e)) (h group)
    ∙ sym (last_push group None entries e)

above_last : (before : List Report) (report : Report) (group : ℕ)
    → is_above (before ++ report ∷ []) group ≡ nat_lt report.group group
unfolding is_above
above_last [] report group = refl
above_last (first ∷ []) report group = refl
above_last (first ∷ next ∷ before) report group = above_last (next ∷ before) report group

less_is : (a b : ℕ) → nat_cmp a b ≡ Less → ltb a b ≡ true
less_is a b = at (ltb a b) (a == b)
  where
    at : (less same : Bool) → cond less Less (cond same Equal Greater) ≡ Less → less ≡ true
    at true same e = refl
    at false true e = absurd cc
    at false false e = absurd cc

unfoldable pub groups_of : List Report → List ℕ
groups_of reports = map (λ (report : Report). report.group) reports

rises_behind : (groups : List (ℕ × ℕ)) (entries : List Entry) (before : List Report) (report : Report)
    (reports : List Report) → KnowsGroups groups entries → AllByRecursion (IsReport entries) reports
    → IsStrictlySortedBy nat_cmp (groups_of (report ∷ reports)) → Rises groups (before ++ report ∷ []) reports
unfolding Rises KnowsGroups groups_of IsStrictlySortedBy
rises_behind groups entries before report [] knows h sorted = tt
rises_behind groups entries before report (next ∷ reports) knows h sorted = (
  above_last before report next.group ∙ less_is report.group next.group sorted.0.0,
  h.0.group,
  knows next.group ∙ h.0.input,
  rises_behind groups entries (before ++ report ∷ []) next reports knows h.1 sorted.1,
)

all_rise : (groups : List (ℕ × ℕ)) (entries : List Entry) (reports : List Report) → KnowsGroups groups entries
    → AreReports entries reports → Rises groups [] reports
unfolding Rises KnowsGroups is_above groups_of
all_rise groups entries [] knows h = tt
all_rise groups entries (report ∷ reports) knows h = (
  refl,
  h.each.0.group,
  knows report.group ∙ h.each.0.input,
  rises_behind groups entries [] report reports knows h.each.1 h.rising,
)

-- the metrics of an entry, put behind its beginning, give it without its reports
more_gathered : (input : ℕ) (moment : ℤ) (pieces refused passed filtered : ℕ) (before metrics : List Content)
    (group : Option ℕ)
    → with_metrics (Gather input moment pieces refused passed filtered before group []) metrics
    ≡ Gather input moment pieces refused passed filtered (before ++ metrics) group []
unfolding with_metrics with_metric
more_gathered input moment pieces refused passed filtered before [] group =
    ap (λ (ms : List Content). Gather input moment pieces refused passed filtered ms group []) (sym (append-nil before))
more_gathered input moment pieces refused passed filtered before (m ∷ metrics) group =
    more_gathered input moment pieces refused passed filtered (before ++ m ∷ []) metrics group
    ∙ ap (λ (ms : List Content). Gather input moment pieces refused passed filtered ms group [])
    (append_assoc before (m ∷ []) metrics)

more_ticked : (moment : ℤ) (before metrics : List Content)
    → with_metrics (Tick moment before) metrics ≡ Tick moment (before ++ metrics)
unfolding with_metrics with_metric
more_ticked moment before [] = ap (λ (ms : List Content). Tick moment ms) (sym (append-nil before))
more_ticked moment before (m ∷ metrics) =
    more_ticked moment (before ++ m ∷ []) metrics
    ∙ ap (λ (ms : List Content). Tick moment ms) (append_assoc before (m ∷ []) metrics)

more_stopped : (moment : ℤ) (before metrics : List Content)
    → with_metrics (Stop moment before) metrics ≡ Stop moment (before ++ metrics)
unfolding with_metrics with_metric
more_stopped moment before [] = ap (λ (ms : List Content). Stop moment ms) (sym (append-nil before))
more_stopped moment before (m ∷ metrics) =
    more_stopped moment (before ++ m ∷ []) metrics
    ∙ ap (λ (ms : List Content). Stop moment ms) (append_assoc before (m ∷ []) metrics)

metrics_put : (e : Entry) → with_metrics (begun_of e) (named_by e) ≡ with_reports e []
unfolding begun_of with_reports with_metrics
metrics_put (Gather input moment pieces refused passed filtered metrics group reports) =
    more_gathered input moment pieces refused passed filtered [] metrics group
metrics_put (Ended input) = refl
metrics_put (Take item) = refl
metrics_put (Route item whole verdict aggs outs reports) = refl
metrics_put (Tick moment made) = more_ticked moment [] made
metrics_put (Stop moment made) = more_stopped moment [] made
metrics_put (Begin output from to) = refl
metrics_put (Done output ok reports) = refl

reports_put : (e : Entry) → with_reports e (reports_of e) ≡ e
unfolding with_reports
reports_put (Gather input moment pieces refused passed filtered metrics group reports) = refl
reports_put (Ended input) = refl
reports_put (Take item) = refl
reports_put (Route item whole verdict aggs outs reports) = refl
reports_put (Tick moment made) = refl
reports_put (Stop moment made) = refl
reports_put (Begin output from to) = refl
reports_put (Done output ok reports) = refl

-- an entry has a list of reports, or none of them
has_list : (e : Entry) → HasList e ⊎ (reports_of e ≡ [])
unfolding HasList
has_list (Gather input moment pieces refused passed filtered metrics group reports) = inl tt
has_list (Ended input) = inr refl
has_list (Take item) = inr refl
has_list (Route item whole verdict aggs outs reports) = inl tt
has_list (Tick moment made) = inr refl
has_list (Stop moment made) = inr refl
has_list (Begin output from to) = inr refl
has_list (Done output ok reports) = inl tt

pub all_metrics : (setup : JournalSetup) (e : Entry) → FitsEntry setup e → AllByRecursion IsMetric (named_by e)
all_metrics setup (Gather input moment pieces refused passed filtered metrics group reports) h = h.metrics.metrics_are
all_metrics setup (Ended input) h = tt
all_metrics setup (Take item) h = tt
all_metrics setup (Route item whole verdict aggs outs reports) h = tt
all_metrics setup (Tick moment made) h = h.1.metrics_are
all_metrics setup (Stop moment made) h = h.1.metrics_are
all_metrics setup (Begin output from to) h = tt
all_metrics setup (Done output ok reports) h = tt

-- behind an entry
pub behind_at : Place → Entry → Place
behind_at at e = AtEntry (entries_at at) e (known_at at ++ named_by e) (with_group (groups_at at) (begun_of e))

leads_all_reports : (setup : JournalSetup) (entries : List Entry) (e : Entry) (known : List Content)
    (groups : List (ℕ × ℕ)) → Rises groups [] (reports_of e)
    → Leads (tell setup entries (with_reports e []) 0 known groups) (report_lines (reports_of e))
    (tell setup entries e 0 known groups)
leads_all_reports setup entries e known groups rises = elim (has_list e) [
  | inl has ↦ subst (λ (x : Entry). Leads (tell setup entries (with_reports e []) 0 known groups)
      (report_lines (reports_of e)) (tell setup entries x 0 known groups)) (reports_put e)
      (leads_reports setup entries e [] (reports_of e) known groups has rises)
  | inr none ↦
      let same : with_reports e [] ≡ e = ap (with_reports e) (sym none) ∙ reports_put e in
      subst (λ (rs : List Report). Leads (tell setup entries (with_reports e []) 0 known groups) (report_lines rs)
      (tell setup entries e 0 known groups)) (sym none)
      (subst (λ (x : Entry). Leads (tell setup entries (with_reports e []) 0 known groups) []
      (tell setup entries x 0 known groups)) same
      (leads_nothing (tell setup entries (with_reports e []) 0 known groups)))
]

leads_entry : (setup : JournalSetup) (at : Place) (e : Entry) → FitsEntry setup e
    → KnowsGroups (groups_at at) (entries_at at) → AreReports (entries_at at ++ e ∷ []) (reports_of e)
    → Leads (state_at setup at) (entry_text (item_of (known_at at) e) e) (state_at setup (behind_at at e))
unfolding entry_text state_at behind_at next_at
leads_entry setup at e h knows reports =
    let groups = with_group (groups_at at) (begun_of e) in
    let known = known_at at ++ named_by e in
    let metrics = subst (λ (x : Entry). Leads (next_at setup at e) (metric_lines (named_by e))
    (tell setup (entries_at at) x 0 known groups)) (metrics_put e)
    (leads_metrics setup (entries_at at) (begun_of e) (known_at at) groups (named_by e) (all_metrics setup e h)) in
    let rises = all_rise groups (entries_at at ++ e ∷ []) (reports_of e)
    (knows_more (groups_at at) (entries_at at) e knows) reports in
    leads_then (state_at setup at) (tell setup (entries_at at) (with_reports e []) 0 known groups)
    (tell setup (entries_at at) e 0 known groups) _ (report_lines (reports_of e))
    (leads_then (state_at setup at) (next_at setup at e) (tell setup (entries_at at) (with_reports e []) 0 known groups)
    (head_text (item_of (known_at at) e) e) (metric_lines (named_by e)) (leads_head setup at e h) metrics)
    (leads_all_reports setup (entries_at at) e known groups rises)

-- ---- all entries

behind_is_more : (at : Place) (e : Entry)
    → (entries_at (behind_at at e) ≡ entries_at at ++ e ∷ []) × (known_at (behind_at at e) ≡ known_at at ++ named_by e)
    × (groups_at (behind_at at e) ≡ with_group (groups_at at) (begun_of e))
unfolding behind_at entries_at known_at groups_at
behind_is_more at e = (refl, refl, refl)

-- where entries behind others lead
pub record Told (setup : JournalSetup) (at : Place) (entries : List Entry) : Type 0 where
  pub to : Place
  pub leads : Leads (state_at setup at) (entries_text (known_at at) entries) (state_at setup to)
  pub entries_are : entries_at to ≡ entries_at at ++ entries

pub leads_entries : (setup : JournalSetup) (at : Place) (entries : List Entry)
    → AllByRecursion (FitsEntry setup) entries
    → HaveReports (entries_at at) entries → KnowsGroups (groups_at at) (entries_at at) → Told setup at entries
unfolding entries_text
leads_entries setup at [] h reports knows = record {
  to = at;
  leads = leads_nothing (state_at setup at);
  entries_are = sym (append-nil (entries_at at));
}
leads_entries setup at (e ∷ entries) h reports knows =
    let next = behind_at at e in
    let same = behind_is_more at e in
    let others : Told setup next entries = leads_entries setup next entries h.1
    (subst (λ (es : List Entry). HaveReports es entries) (sym same.0) reports.1)
    (subst (λ (es : List Entry). KnowsGroups (groups_at next) es) (sym same.0) (subst (λ (gs : List (ℕ × ℕ)).
    KnowsGroups gs (entries_at at ++ e ∷ [])) (sym same.2) (knows_more (groups_at at) (entries_at at) e knows))) in
    let rest : Leads (state_at setup next) (entries_text (known_at at ++ named_by e) entries)
    (state_at setup others.to) =
    subst (λ (ms : List Content). Leads (state_at setup next) (entries_text ms entries) (state_at setup others.to))
    same.1
    others.leads in
    record {
      to = others.to;
      leads = leads_then (state_at setup at) (state_at setup next) (state_at setup others.to)
          (entry_text (item_of (known_at at) e) e) (entries_text (known_at at ++ named_by e) entries)
          (leads_entry setup at e h.0 knows reports.0) rest;
      entries_are =
          others.entries_are
          ∙ ap (λ (es : List Entry). es ++ entries) same.0
          ∙ append_assoc (entries_at at) (e ∷ []) entries;
    }
