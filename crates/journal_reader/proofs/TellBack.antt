-- The text that was read so far, by what was made of it: entries.
use Rattle.std.proofs.Common.{◌≡◌, ℕ, zero, suc, ◌+◌, ◌-◌, ◌<◌, ◌^◌, true, List, [], ◌∷◌, ◌++◌}
use Rattle.std.proofs.Common.{length, Option, Some, None, refl, sym, ap, subst, ◌∙◌, arith, append_assoc}
use Rattle.std.specs.Prelude.{nat_lt}
use Rattle.std.specs.List.{AllByRecursion, flat_map, join_with_byte}
use Rattle.std.specs.List.Sorted.{IsStrictlySortedBy}
use Rattle.std.specs.Ordering.{nat_cmp}
use Rattle.std.specs.declared.cmp.Ordering.TheVariants.{Less}
use Rattle.std.proofs.lemmas.Cmp.{nat_cmp_total}
use Rattle.std.proofs.lemmas.List.{append-nil, length-append}
use Rattle.fixed_num.proofs.NumberBytes.{all_append}
use Rattle.text_parts.specs.Bytes.{space, newline}
use Rattle.metric.specs.declared.metric.Content.{Content}
use Rattle.metric.specs.Metric.{IsMetric}
use Rattle.account.specs.declared.entry.Report.{Report}
use Rattle.account.specs.declared.entry.Entry.{Entry}
use Rattle.account.specs.declared.entry.Entry.TheVariants.{Gather, Ended, Take, Route, Tick, Stop, Begin, Done}
use Rattle.account.specs.Items.{named_by, items}
use Rattle.account.specs.Says.{gather_of, reports_of}
use Rattle.account.proofs.ItemLemmas.{items-push}
use Rattle.journal_text.specs.declared.setup.JournalSetup.{JournalSetup}
use Rattle.journal_text.specs.JournalText.{metric_line, metric_lines, report_line, report_lines, head_text, entry_text}
use Rattle.journal_text.specs.JournalText.{item_of, entries_text}
use Rattle.journal_text.proofs.JournalLemmas.{text_grows}
use Rattle.journal_reader.specs.States.{with_metric, is_above, risen, reported, last_reported, input_of}
use Rattle.journal_reader.specs.Words.{Parts}
use Rattle.journal_reader.specs.Spellable.{FitMetrics, FitsEntry, input_here, last_input, IsReport, AreReports}
use Rattle.journal_reader.specs.Spellable.{HaveReports}
use Rattle.journal_reader.proofs.Holding.{Holds, no_answer, one_answer, next_answer, where_answer, map_answer}
use Rattle.journal_reader.proofs.EntryAgain.{first_word, other_words, head_is}
use Rattle.journal_reader.proofs.EntryBack.{words_with, Waits}
use Rattle.journal_reader.proofs.TellAgain.{Place, AtSetup, AtEntry, entries_at, known_at, groups_at, KnowsGroups}
use Rattle.journal_reader.proofs.TellAgain.{last_push}
use Rattle.journal_reader.proofs.TellAgain.{groups_of, all_metrics}

-- ---- one more at the end

flat_push : {X : Type 0} (f : X → List ℕ) (xs : List X) (x : X) → flat_map f (xs ++ x ∷ []) ≡ flat_map f xs ++ f x
flat_push f [] x = append-nil (f x)
flat_push f (y ∷ xs) x =
    ap (λ (t : List ℕ). f y ++ t) (flat_push f xs x) ∙ sym (append_assoc (f y) (flat_map f xs) (f x))

-- ---- the text of an entry so far

-- its line, where it has so many metrics behind it
unfoldable pub line_with : List Content → Entry → ℕ → List ℕ
line_with item e n = join_with_byte space (first_word e ∷ words_with item e n) ++ newline ∷ []

-- with the metrics and the reports that were read
unfoldable pub so_far : List Content → Entry → ℕ → List ℕ
so_far item e n = line_with item e n ++ (metric_lines (named_by e) ++ report_lines (reports_of e))

-- the line has the number of its metrics
words_whole : (item : List Content) (e : Entry) → words_with item e (length (named_by e)) ≡ other_words item e
unfolding words_with other_words
words_whole item (Gather input moment pieces refused passed filtered metrics group reports) = refl
words_whole item (Ended input) = refl
words_whole item (Take taken) = refl
words_whole item (Route routed whole verdict aggs outs reports) = refl
words_whole item (Tick moment made) = refl
words_whole item (Stop moment made) = refl
words_whole item (Begin output from to) = refl
words_whole item (Done output ok reports) = refl

-- with all of its metrics it is the text of the entry
pub whole_entry : (item : List Content) (e : Entry) → so_far item e (length (named_by e)) ≡ entry_text item e
unfolding so_far line_with entry_text
whole_entry item e =
    ap (λ (t : List ℕ). t ++ (metric_lines (named_by e) ++ report_lines (reports_of e)))
    (ap (λ (ws : Parts). join_with_byte space (first_word e ∷ ws) ++ newline ∷ []) (words_whole item e)
    ∙ sym (head_is item e))
    ∙ sym (append_assoc (head_text item e) (metric_lines (named_by e)) (report_lines (reports_of e)))

-- ---- one metric more

-- what a metric more changes
pub record MetricPut (setup : JournalSetup) (e : Entry) (owed : ℕ) (m : Content) : Type 0 where
  pub named : named_by (with_metric e m) ≡ named_by e ++ m ∷ []
  pub reports_before : reports_of e ≡ []
  pub reports : reports_of (with_metric e m) ≡ []
  pub line : (known : List Content) (n : ℕ)
      → line_with (item_of known (with_metric e m)) (with_metric e m) n ≡ line_with (item_of known e) e n
  pub here : (group : ℕ) (found : Option ℕ)
      → input_here group found (gather_of (with_metric e m)) ≡ input_here group found (gather_of e)
  pub fits : IsMetric m → length (named_by e) + 1 < 2 ^ 64 → FitsEntry setup e → FitsEntry setup (with_metric e m)
  pub waits : (left : ℕ) → Waits (with_metric e m) left

fit_more : (metrics : List Content) (m : Content) → FitMetrics metrics → IsMetric m → length metrics + 1 < 2 ^ 64
    → FitMetrics (metrics ++ m ∷ [])
fit_more metrics m h is small = record {
  metrics_are = all_append IsMetric metrics (m ∷ []) h.metrics_are (is, tt);
  count = omega (arith, small, length-append metrics (m ∷ []));
}

pub metric_put : (setup : JournalSetup) (e : Entry) (owed : ℕ) (m : Content) → Waits e owed → ((owed ≡ 0) → ⊥)
    → MetricPut setup e owed m
unfolding with_metric line_with first_word words_with Waits
metric_put setup (Gather input moment pieces refused passed filtered metrics group reports) owed m waits some = record {
  named = refl;
  reports_before = waits some;
  reports = waits some;
  line = λ known n. refl;
  here = λ asked found. refl;
  fits = λ is small h. record {
    input = h.input;
    moment = h.moment;
    pieces = h.pieces;
    refused = h.refused;
    passed = h.passed;
    filtered = h.filtered;
    metrics = fit_more metrics m h.metrics is small;
    group = h.group;
  };
  waits = λ left owes. waits some;
}
metric_put setup (Ended input) owed m waits some = absurd (some waits)
metric_put setup (Take item) owed m waits some = absurd (some waits)
metric_put setup (Route item whole verdict aggs outs reports) owed m waits some = absurd (some waits)
metric_put setup (Tick moment made) owed m waits some = record {
  named = refl;
  reports_before = refl;
  reports = refl;
  line = λ known n. refl;
  here = λ asked found. refl;
  fits = λ is small h. (h.0, fit_more made m h.1 is small);
  waits = λ left. tt;
}
metric_put setup (Stop moment made) owed m waits some = record {
  named = refl;
  reports_before = refl;
  reports = refl;
  line = λ known n. refl;
  here = λ asked found. refl;
  fits = λ is small h. (h.0, fit_more made m h.1 is small);
  waits = λ left. tt;
}
metric_put setup (Begin output from to) owed m waits some = absurd (some waits)
metric_put setup (Done output ok reports) owed m waits some = absurd (some waits)

-- ---- one report more

pub record ReportPut (setup : JournalSetup) (e : Entry) (r : Report) (e' : Entry) : Type 0 where
  pub above : is_above (reports_of e) r.group ≡ true
  pub reports : reports_of e' ≡ reports_of e ++ r ∷ []
  pub named : named_by e' ≡ named_by e
  pub line : (known : List Content) (n : ℕ) → line_with (item_of known e') e' n ≡ line_with (item_of known e) e n
  pub here : (group : ℕ) (found : Option ℕ)
      → input_here group found (gather_of e') ≡ input_here group found (gather_of e)
  pub fits : FitsEntry setup e → FitsEntry setup e'
  pub waits : Waits e' 0

-- the list that a report was put behind
record Put (reports : List Report) (r : Report) (rs : List Report) : Type 0 where
  above : is_above reports r.group ≡ true
  is : reports ++ r ∷ [] ≡ rs

risen_back : (reports : List Report) (r : Report) → Holds (Put reports r) (risen reports r)
unfolding risen
risen_back reports r =
    where_answer (Put reports r) (is_above reports r.group) (Some (reports ++ r ∷ [])) (λ e.
    one_answer (Put reports r) (reports ++ r ∷ []) (record { above = e; is = refl }))

no_zero : (n : ℕ) (reports : List Report) → ((n ≡ n) → ⊥) → reports ≡ []
no_zero n reports h = absurd (h refl)

reported_back : (setup : JournalSetup) (e : Entry) (r : Report) → Holds (ReportPut setup e r) (reported e r)
unfolding reported line_with first_word words_with Waits
reported_back setup (Gather input moment pieces refused passed filtered metrics group reports) r =
    let e = Gather input moment pieces refused passed filtered metrics group reports in
    next_answer (ReportPut setup e r) (risen reports r) _ (λ rs f.
    let p = (risen_back reports r).at rs f in
    one_answer (ReportPut setup e r) (Gather input moment pieces refused passed filtered metrics group rs) (record {
      above = p.above;
      reports = sym p.is;
      named = refl;
      line = λ known n. refl;
      here = λ asked found. refl;
      fits = λ h. record {
        input = h.input;
        moment = h.moment;
        pieces = h.pieces;
        refused = h.refused;
        passed = h.passed;
        filtered = h.filtered;
        metrics = h.metrics;
        group = h.group;
      };
      waits = no_zero 0 rs;
    }))
reported_back setup (Ended input) r = no_answer (ReportPut setup (Ended input) r)
reported_back setup (Take item) r = no_answer (ReportPut setup (Take item) r)
reported_back setup (Route item whole verdict aggs outs reports) r =
    let e = Route item whole verdict aggs outs reports in
    next_answer (ReportPut setup e r) (risen reports r) _ (λ rs f.
    let p = (risen_back reports r).at rs f in
    one_answer (ReportPut setup e r) (Route item whole verdict aggs outs rs) (record {
      above = p.above;
      reports = sym p.is;
      named = refl;
      line = λ known n. refl;
      here = λ asked found. refl;
      fits = λ h. h;
      waits = refl;
    }))
reported_back setup (Tick moment made) r = no_answer (ReportPut setup (Tick moment made) r)
reported_back setup (Stop moment made) r = no_answer (ReportPut setup (Stop moment made) r)
reported_back setup (Begin output from to) r = no_answer (ReportPut setup (Begin output from to) r)
reported_back setup (Done output ok reports) r =
    let e = Done output ok reports in
    next_answer (ReportPut setup e r) (risen reports r) _ (λ rs f.
    let p = (risen_back reports r).at rs f in
    one_answer (ReportPut setup e r) (Done output ok rs) (record {
      above = p.above;
      reports = sym p.is;
      named = refl;
      line = λ known n. refl;
      here = λ asked found. refl;
      fits = λ h. h;
      waits = refl;
    }))

-- the last entry with one report more
pub record LastPut (setup : JournalSetup) (e : Entry) (r : Report) (last : Option Entry) : Type 0 where
  pub entry : Entry
  pub is : last ≡ Some entry
  pub put : ReportPut setup e r entry

pub last_back : (setup : JournalSetup) (e : Entry) (r : Report) → Holds (LastPut setup e r) (last_reported (Some e) r)
unfolding last_reported
last_back setup e r =
    map_answer (LastPut setup e r) Some (reported e r) (λ x f.
    record { entry = x; is = refl; put = (reported_back setup e r).at x f })

-- ---- reports that rise

less_at : (a b : ℕ) → nat_lt a b ≡ true → nat_cmp a b ≡ Less
less_at a b e = rw e refl

all_less : (a b : ℕ) (ks : List ℕ) → nat_cmp a b ≡ Less → AllByRecursion (λ k. nat_cmp b k ≡ Less) ks
    → AllByRecursion (λ k. nat_cmp a k ≡ Less) ks
all_less a b [] first h = tt
all_less a b (k ∷ ks) first h = (nat_cmp_total.trans a b k first h.0, all_less a b ks first h.1)

sorted_push : (reports : List Report) (r : Report) → IsStrictlySortedBy nat_cmp (groups_of reports)
    → is_above reports r.group ≡ true → IsStrictlySortedBy nat_cmp (groups_of (reports ++ r ∷ []))
unfolding is_above groups_of IsStrictlySortedBy
sorted_push [] r sorted above = (tt, tt)
sorted_push (a ∷ []) r sorted above = ((less_at a.group r.group above, tt), (tt, tt))
sorted_push (a ∷ b ∷ reports) r sorted above =
    let rest = sorted_push (b ∷ reports) r sorted.1 above in (
      (sorted.0.0, all_less a.group b.group (groups_of (reports ++ r ∷ [])) sorted.0.0 rest.0),
      rest,
    )

-- a report of a group whose input is known
unfoldable pub IsKnown : List (ℕ × ℕ) → Report → Type 0
IsKnown groups r = (r.group < 2 ^ 64) × (input_of groups r.group ≡ Some r.input)

pub record AreKnown (groups : List (ℕ × ℕ)) (reports : List Report) : Type 0 where
  pub each : AllByRecursion (IsKnown groups) reports
  pub rising : IsStrictlySortedBy nat_cmp (groups_of reports)

pub none_known : (groups : List (ℕ × ℕ)) (reports : List Report) → reports ≡ [] → AreKnown groups reports
unfolding groups_of IsStrictlySortedBy
none_known groups reports none =
    let empty : AreKnown groups [] = record { each = tt; rising = tt } in
    subst (AreKnown groups) (sym none) empty

pub known_push : (groups : List (ℕ × ℕ)) (reports : List Report) (r : Report) → AreKnown groups reports
    → IsKnown groups r → is_above reports r.group ≡ true → AreKnown groups (reports ++ r ∷ [])
known_push groups reports r h is above = record {
  each = all_append (IsKnown groups) reports (r ∷ []) h.each (is, tt);
  rising = sorted_push reports r h.rising above;
}

reports_are : (groups : List (ℕ × ℕ)) (entries : List Entry) (reports : List Report) → KnowsGroups groups entries
    → AllByRecursion (IsKnown groups) reports → AllByRecursion (IsReport entries) reports
unfolding KnowsGroups IsKnown
reports_are groups entries [] knows h = tt
reports_are groups entries (r ∷ reports) knows h = (
  record { group = h.0.0; input = sym (knows r.group) ∙ h.0.1 },
  reports_are groups entries reports knows h.1,
)

pub are_reports : (groups : List (ℕ × ℕ)) (entries : List Entry) (reports : List Report) → KnowsGroups groups entries
    → AreKnown groups reports → AreReports entries reports
unfolding groups_of
are_reports groups entries reports knows h =
    record { each = reports_are groups entries reports knows h.each; rising = h.rising }

-- ---- where the reading stands in an entry

pub record IsTold (setup : JournalSetup) (entries : List Entry) (e : Entry) (owed : ℕ) (known : List Content)
    (groups : List (ℕ × ℕ)) (text : List ℕ) : Type 0 where
  pub entries_fit : AllByRecursion (FitsEntry setup) entries
  pub reports_stand : HaveReports [] entries
  pub fits : FitsEntry setup e
  pub count : length (named_by e) + owed < 2 ^ 64
  pub known_are : known ≡ items entries ++ named_by e
  pub knows : KnowsGroups groups (entries ++ e ∷ [])
  pub reports : AreKnown groups (reports_of e)
  pub waits : Waits e owed
  pub is : text ≡ entries_text [] entries ++ so_far (item_of (items entries) e) e (length (named_by e) + owed)

-- the same entries but for the last, which says the same of groups
same_last : (groups : List (ℕ × ℕ)) (entries : List Entry) (e e' : Entry)
    → ((group : ℕ) (found : Option ℕ) → input_here group found (gather_of e') ≡ input_here group found (gather_of e))
    → KnowsGroups groups (entries ++ e ∷ []) → KnowsGroups groups (entries ++ e' ∷ [])
unfolding KnowsGroups
same_last groups entries e e' here knows = λ group.
    knows group
    ∙ last_push group None entries e
    ∙ sym (here group (last_input group None entries))
    ∙ sym (last_push group None entries e')

-- a metric more
pub told_metric_more : (setup : JournalSetup) (entries : List Entry) (e : Entry) (owed : ℕ) (known : List Content)
    (groups : List (ℕ × ℕ)) (text : List ℕ) (m : Content) → IsTold setup entries e owed known groups text
    → ((owed ≡ 0) → ⊥) → IsMetric m
    → IsTold setup entries (with_metric e m) (owed - 1) (known ++ m ∷ []) groups (text ++ metric_line m)
unfolding so_far
told_metric_more setup entries e owed known groups text m h some is =
    let p = metric_put setup e owed m h.waits some in
    let e' = with_metric e m in
    let long : length (named_by e') ≡ length (named_by e) + 1 =
    ap length p.named ∙ length-append (named_by e) (m ∷ []) in
    let positive : 1 + (owed - 1) ≡ owed = positive_is owed some in
    let same : length (named_by e') + (owed - 1) ≡ length (named_by e) + owed = omega (arith, long, positive) in
    let head = entries_text [] entries in
    let line = line_with (item_of (items entries) e) e (length (named_by e) + owed) in
    let before : text ≡ head ++ (line ++ metric_lines (named_by e)) =
    h.is ∙ ap (λ (rs : List Report). head ++ (line ++ (metric_lines (named_by e) ++ report_lines rs))) p.reports_before
    ∙ ap (λ (t : List ℕ). head ++ (line ++ t)) (append-nil (metric_lines (named_by e))) in
    let lines : metric_lines (named_by e') ++ report_lines (reports_of e')
    ≡ metric_lines (named_by e) ++ metric_line m =
    ap (λ (rs : List Report). metric_lines (named_by e') ++ report_lines rs) p.reports
    ∙ append-nil (metric_lines (named_by e'))
    ∙ ap metric_lines p.named
    ∙ flat_push metric_line (named_by e) m in
    let behind : so_far (item_of (items entries) e') e' (length (named_by e') + (owed - 1))
    ≡ line ++ (metric_lines (named_by e) ++ metric_line m) =
    ap (λ (t : List ℕ). line_with (item_of (items entries) e') e' (length (named_by e') + (owed - 1)) ++ t) lines
    ∙ ap (λ (t : List ℕ). t ++ (metric_lines (named_by e) ++ metric_line m))
    (ap (λ (n : ℕ). line_with (item_of (items entries) e') e' n) same ∙ p.line (items entries)
    (length (named_by e) + owed)) in
    record {
      entries_fit = h.entries_fit;
      reports_stand = h.reports_stand;
      fits = p.fits is (omega (arith, h.count, positive)) h.fits;
      count = omega (arith, h.count, same);
      known_are =
          ap (λ (ms : List Content). ms ++ m ∷ []) h.known_are
          ∙ append_assoc (items entries) (named_by e) (m ∷ [])
          ∙ ap (λ (ms : List Content). items entries ++ ms) (sym p.named);
      knows = same_last groups entries e e' p.here h.knows;
      reports = none_known groups (reports_of e') p.reports;
      waits = p.waits (owed - 1);
      is =
          ap (λ (t : List ℕ). t ++ metric_line m) before
          ∙ append_assoc head (line ++ metric_lines (named_by e)) (metric_line m)
          ∙ ap (λ (t : List ℕ). head ++ t) (append_assoc line (metric_lines (named_by e)) (metric_line m) ∙ sym behind);
    }
  where
    positive_is : (n : ℕ) → ((n ≡ 0) → ⊥) → 1 + (n - 1) ≡ n
    positive_is zero h = absurd (h refl)
    positive_is (suc n) h = omega arith

-- a report more
pub told_report_more : (setup : JournalSetup) (entries : List Entry) (e e' : Entry) (known : List Content)
    (groups : List (ℕ × ℕ)) (text : List ℕ) (r : Report) → IsTold setup entries e 0 known groups text
    → ReportPut setup e r e' → r.group < 2 ^ 64 → input_of groups r.group ≡ Some r.input
    → IsTold setup entries e' 0 known groups (text ++ report_line r)
unfolding so_far IsKnown
told_report_more setup entries e e' known groups text r h p small input =
    let head = entries_text [] entries in
    let n = length (named_by e) + 0 in
    let line = line_with (item_of (items entries) e) e n in
    let same : length (named_by e') + 0 ≡ n = ap (λ (ms : List Content). length ms + 0) p.named in
    let lines : metric_lines (named_by e') ++ report_lines (reports_of e')
    ≡ (metric_lines (named_by e) ++ report_lines (reports_of e)) ++ report_line r =
    ap (λ (ms : List Content). metric_lines ms ++ report_lines (reports_of e')) p.named
    ∙ ap (λ (t : List ℕ). metric_lines (named_by e) ++ t) (ap report_lines p.reports
    ∙ flat_push report_line (reports_of e) r)
    ∙ sym (append_assoc (metric_lines (named_by e)) (report_lines (reports_of e)) (report_line r)) in
    let behind : so_far (item_of (items entries) e') e' (length (named_by e') + 0)
    ≡ line ++ ((metric_lines (named_by e) ++ report_lines (reports_of e)) ++ report_line r) =
    ap (λ (t : List ℕ). line_with (item_of (items entries) e') e' (length (named_by e') + 0) ++ t) lines
    ∙ ap (λ (t : List ℕ). t ++ ((metric_lines (named_by e) ++ report_lines (reports_of e)) ++ report_line r))
    (ap (λ (k : ℕ). line_with (item_of (items entries) e') e' k) same ∙ p.line (items entries) n) in
    record {
      entries_fit = h.entries_fit;
      reports_stand = h.reports_stand;
      fits = p.fits h.fits;
      count = omega (arith, h.count, same);
      known_are = h.known_are ∙ ap (λ (ms : List Content). items entries ++ ms) (sym p.named);
      knows = same_last groups entries e e' p.here h.knows;
      reports =
          subst (AreKnown groups) (sym p.reports) (known_push groups (reports_of e) r h.reports (small, input) p.above);
      waits = p.waits;
      is =
          ap (λ (t : List ℕ). t ++ report_line r) h.is
          ∙ append_assoc head (line ++ (metric_lines (named_by e) ++ report_lines (reports_of e))) (report_line r)
          ∙ ap (λ (t : List ℕ). head ++ t) (append_assoc line (metric_lines (named_by e) ++ report_lines (reports_of e))
          (report_line r) ∙ sym behind);
    }

-- ---- between entries

pub record IsAt (setup : JournalSetup) (at : Place) (text : List ℕ) : Type 0 where
  pub entries_fit : AllByRecursion (FitsEntry setup) (entries_at at)
  pub reports_stand : HaveReports [] (entries_at at)
  pub known_are : known_at at ≡ items (entries_at at)
  pub knows : KnowsGroups (groups_at at) (entries_at at)
  pub is : text ≡ entries_text [] (entries_at at)

-- behind the set-up
pub at_setup : (setup : JournalSetup) → IsAt setup AtSetup []
unfolding entries_at known_at groups_at items entries_text KnowsGroups last_input input_of
at_setup setup = record { entries_fit = tt; reports_stand = tt; known_are = refl; knows = λ group. refl; is = refl }

have_push : (before es : List Entry) (e : Entry) → HaveReports before es
    → AreReports ((before ++ es) ++ e ∷ []) (reports_of e) → HaveReports before (es ++ e ∷ [])
have_push before [] e h r =
    (subst (λ (xs : List Entry). AreReports (xs ++ e ∷ []) (reports_of e)) (append-nil before) r, tt)
have_push before (x ∷ es) e h r = (
  h.0,
  have_push (before ++ x ∷ []) es e h.1 (subst (λ (xs : List Entry). AreReports (xs ++ e ∷ []) (reports_of e))
      (sym (append_assoc before (x ∷ []) es)) r),
)

-- an entry of which no metric is owed may be the last
pub told_at : (setup : JournalSetup) (entries : List Entry) (e : Entry) (known : List Content) (groups : List (ℕ × ℕ))
    (text : List ℕ) → IsTold setup entries e 0 known groups text → IsAt setup (AtEntry entries e known groups) text
unfolding entries_at known_at groups_at
told_at setup entries e known groups text h =
    let same : length (named_by e) + 0 ≡ length (named_by e) = omega arith in
    record {
      entries_fit = all_append (FitsEntry setup) entries (e ∷ []) h.entries_fit (h.fits, tt);
      reports_stand =
          have_push [] entries e h.reports_stand
          (are_reports groups (entries ++ e ∷ []) (reports_of e) h.knows h.reports);
      known_are = h.known_are ∙ sym (items-push entries e);
      knows = h.knows;
      is =
          h.is
          ∙ ap (λ (n : ℕ). entries_text [] entries ++ so_far (item_of (items entries) e) e n) same
          ∙ ap (λ (t : List ℕ). entries_text [] entries ++ t) (whole_entry (item_of (items entries) e) e)
          ∙ sym (text_grows entries e);
    }

all_items : (setup : JournalSetup) (entries : List Entry) → AllByRecursion (FitsEntry setup) entries
    → AllByRecursion IsMetric (items entries)
unfolding items
all_items setup [] h = tt
all_items setup (e ∷ entries) h =
    all_append IsMetric (named_by e) (items entries) (all_metrics setup e h.0) (all_items setup entries h.1)

pub known_metrics : (setup : JournalSetup) (at : Place) (text : List ℕ) → IsAt setup at text
    → AllByRecursion IsMetric (known_at at)
known_metrics setup at text h =
    subst (AllByRecursion IsMetric) (sym h.known_are) (all_items setup (entries_at at) h.entries_fit)
