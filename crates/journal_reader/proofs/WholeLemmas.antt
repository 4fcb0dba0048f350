-- Each Route that was read has no whole exactly where its item was removed, and then no views.
use Rattle.std.proofs.Common.{◌≡◌, ℕ, List, [], ◌∷◌, ◌++◌, Option, Some, None, refl, subst}
use Rattle.account.specs.declared.setup.AggLine.{AggLine}
use Rattle.std.specs.Prelude.{◌&&◌, length, replicate, zero, suc, slice_get, codes}
use Rattle.std.specs.Option.{option_to_list}
use Rattle.std.specs.List.{AllByRecursion}
use Rattle.std.specs.Str.{bytes_eq}
use Rattle.fixed_num.proofs.NumberBytes.{all_append}
use Rattle.metric.specs.declared.metric.Content.{Content}
use Rattle.account.specs.declared.entry.Verdict.{Verdict}
use Rattle.account.specs.declared.entry.Verdict.TheVariants.{Passes, Consumed, Late, Removed}
use Rattle.account.specs.declared.entry.Report.{Report}
use Rattle.account.specs.declared.entry.Entry.{Entry}
use Rattle.account.specs.declared.entry.Entry.TheVariants.{Gather, Ended, Take, Route, Tick, Stop, Begin, Done}
use Rattle.journal_text.specs.JournalText.{IsWholeOrRemoved}
use Rattle.journal_reader.specs.declared.entry.Begun.{Begun}
use Rattle.journal_reader.specs.declared.entry.Sizes.{Sizes}
use Rattle.journal_reader.specs.declared.state.State.{State}
use Rattle.journal_reader.specs.declared.state.Stage.{Stage}
use Rattle.journal_reader.specs.declared.state.Stage.TheVariants.{Starting, Setting, Telling, Counting, Over}
use Rattle.journal_reader.specs.Words.{◌>>=◌, Parts, taken, at_end, each, words_of}
use Rattle.journal_reader.specs.Words.{is_none_left, number, small_number, signed_number, behind, either_of}
use Rattle.journal_reader.specs.EntryReading.{alone, group_of, counts_of, gather_in, ended_in, take_in}
use Rattle.journal_reader.specs.EntryReading.{made_in}
use Rattle.journal_reader.specs.EntryReading.{tick_of, stop_of, begin_in, done_in, event_in, view_of}
use Rattle.journal_reader.specs.EntryReading.{verdict_of, agg_views, whole_in, removed_in, routed_in, route_in}
use Rattle.journal_reader.specs.EntryReading.{entry_in}
use Rattle.journal_reader.specs.EntryReading.{metric_in, report_in}
use Rattle.journal_reader.specs.SetupReading.{start_in, input_in, agg_in, output_in}
use Rattle.journal_reader.specs.AccountReading.{counts_in, forms_of, end_in}
use Rattle.journal_reader.specs.States.{with_metric, last_with, risen, reported, last_reported, input_of}
use Rattle.journal_reader.specs.Steps.{starting, set_input, set_agg, set_output, told_metric, report_of, told_report}
use Rattle.journal_reader.specs.Steps.{closed, told_entry, counted_line, first_counted, ending, counting, going_on}
use Rattle.journal_reader.specs.Steps.{telling, setting, at_stage, after, is_none_yet}
use Rattle.journal_reader.proofs.Holding.{Holds, no_answer, one_answer, next_answer, where_answer, test_answer}
use Rattle.journal_reader.proofs.Holding.{either_answer, map_answer}

-- ---- entries

abbrev Whole : Begun → Type 0
Whole begun = IsWholeOrRemoved begun.entry

end_holds : {A : Type 0} (P : A → Type 0) (x : A) (words : Parts) → P x → Holds P (at_end x words)
end_holds P x words h = where_answer P (is_none_left words) (Some x) (λ e. one_answer P x h)

gather_whole : (words : Parts) → Holds Whole (gather_in words)
unfolding gather_in
gather_whole words =
    next_answer Whole (taken small_number words) _ (λ input e.
    next_answer Whole (taken signed_number input.1) _ (λ moment e.
    next_answer Whole (counts_of moment.1) _ (λ counts e.
    next_answer Whole (taken number counts.1) _ (λ owed e.
    next_answer Whole (taken group_of owed.1) _ (λ group e. end_holds Whole _ group.1 tt)))))

ended_whole : (words : Parts) → Holds Whole (ended_in words)
unfolding ended_in
ended_whole words = next_answer Whole (taken small_number words) _ (λ input e. end_holds Whole _ input.1 tt)

take_whole : (words : Parts) → Holds Whole (take_in words)
unfolding take_in
take_whole words = next_answer Whole (taken number words) _ (λ item e. end_holds Whole _ item.1 tt)

begin_whole : (words : Parts) → Holds Whole (begin_in words)
unfolding begin_in
begin_whole words =
    next_answer Whole (taken small_number words) _ (λ output e.
    next_answer Whole (taken number output.1) _ (λ from e.
    next_answer Whole (taken number from.1) _ (λ to e. end_holds Whole _ to.1 tt)))

done_whole : (words : Parts) → Holds Whole (done_in words)
unfolding done_in
done_whole words =
    next_answer Whole (taken small_number words) _ (λ output e.
    next_answer Whole (taken (either_of (codes "ok") (codes "failed")) output.1) _ (λ outcome e.
    end_holds Whole _ outcome.1 tt))

event_whole : (word : List ℕ) (words : Parts) → Holds Whole (event_in word words)
unfolding event_in
event_whole word words =
    test_answer Whole (bytes_eq word (codes "gather")) _ _ (λ e. gather_whole words) (λ e.
    test_answer Whole (bytes_eq word (codes "take")) _ _ (λ e. take_whole words) (λ e.
    test_answer Whole (bytes_eq word (codes "begin")) _ _ (λ e. begin_whole words) (λ e.
    test_answer Whole (bytes_eq word (codes "done")) _ _ (λ e. done_whole words) (λ e.
    test_answer Whole (bytes_eq word (codes "ended")) _ _ (λ e. ended_whole words) (λ e.
    test_answer Whole (bytes_eq word (codes "tick")) _ _ (λ e. map_answer Whole tick_of (made_in words) (λ x e. tt))
    (λ e.
    test_answer Whole (bytes_eq word (codes "stop")) _ _ (λ e. map_answer Whole stop_of (made_in words) (λ x e. tt))
    (λ e. no_answer Whole)))))))

no_views : (n : ℕ) → AllByRecursion (λ (view : Option Content). view ≡ None) (replicate n None)
no_views zero = tt
no_views (suc n) = (refl, no_views n)

removed_whole : (sizes : Sizes) (item : ℕ) (words : Parts) → Holds IsWholeOrRemoved (removed_in sizes item words)
unfolding removed_in
removed_whole sizes item words =
    next_answer IsWholeOrRemoved (behind (codes "removed") words) _ (λ rest e.
    end_holds IsWholeOrRemoved _ rest (((λ is. refl), (λ is. refl)), no_views sizes.aggs, no_views sizes.outs))

-- the verdicts of items that weren't removed
abbrev Stays : Verdict → Type 0
Stays verdict = (verdict ≡ Removed) → ⊥

verdict_stays : (word : List ℕ) → Holds Stays (verdict_of word)
unfolding verdict_of
verdict_stays word =
    test_answer Stays (bytes_eq word (codes "passes")) _ _ (λ e. one_answer Stays Passes (λ is. absurd cc)) (λ e.
    test_answer Stays (bytes_eq word (codes "consumed")) _ _ (λ e. one_answer Stays Consumed (λ is. absurd cc)) (λ e.
    test_answer Stays (bytes_eq word (codes "late")) _ _ (λ e. one_answer Stays Late (λ is. absurd cc))
    (λ e. no_answer Stays)))

-- what was taken is what a word says
taken_holds : {A : Type 0} (P : A → Type 0) (says : List ℕ → Option A) → ((word : List ℕ) → Holds P (says word))
    → (words : Parts) → Holds (λ (x : A × Parts). P x.0) (taken says words)
taken_holds P says h [] = no_answer _
taken_holds {A} P says h (word ∷ words) =
    next_answer (λ (x : A × Parts). P x.0) (says word) _ (λ x e. one_answer (λ (x : A × Parts). P x.0) (x, words)
    ((h word).at x e))

whole_whole : (item : ℕ) (whole : Content) (words : Parts) → Holds IsWholeOrRemoved (whole_in item whole words)
unfolding whole_in
whole_whole item whole words =
    next_answer IsWholeOrRemoved (taken verdict_of words) _ (λ verdict e.
    let stays = (taken_holds Stays verdict_of verdict_stays words).at verdict e in
    next_answer IsWholeOrRemoved (agg_views whole verdict.1) _ (λ aggs e.
    next_answer IsWholeOrRemoved (each (view_of (Some whole)) aggs.1) _ (λ outs e.
    one_answer IsWholeOrRemoved (Route item (Some whole) verdict.0 aggs.0 outs [])
    (((λ is. absurd (stays is)), (λ is. absurd cc)), tt, tt))))

routed_whole : (sizes : Sizes) (item : ℕ) (whole : Option Content) (words : Parts)
    → Holds IsWholeOrRemoved (routed_in sizes item whole words)
routed_whole sizes item None words = removed_whole sizes item words
routed_whole sizes item (Some whole) words = whole_whole item whole words

route_whole : (known : List Content) (sizes : Sizes) (words : Parts)
    → Holds IsWholeOrRemoved (route_in known sizes words)
unfolding route_in
route_whole known sizes words =
    next_answer IsWholeOrRemoved (taken number words) _ (λ item e.
    next_answer IsWholeOrRemoved (taken (view_of (slice_get known item.0)) item.1) _ (λ whole e.
    routed_whole sizes item.0 whole.0 whole.1))

entry_whole : (known : List Content) (sizes : Sizes) (words : Parts) → Holds Whole (entry_in known sizes words)
unfolding entry_in
entry_whole known sizes [] = no_answer Whole
entry_whole known sizes (word ∷ words) =
    test_answer Whole (bytes_eq word (codes "route")) _ _
    (λ e. map_answer Whole alone (route_in known sizes words) (λ x e. (route_whole known sizes words).at x e))
    (λ e. event_whole word words)

-- ---- what was read so far

abbrev LastWhole : Option Entry → Type 0
LastWhole None = Unit {0}
LastWhole (Some e) = IsWholeOrRemoved e

pub record Wholes (s : State) : Type 0 where
  pub entries_are : AllByRecursion IsWholeOrRemoved s.entries
  pub last_is : LastWhole s.last

metric_whole : (e : Entry) (m : Content) → IsWholeOrRemoved e → IsWholeOrRemoved (with_metric e m)
unfolding with_metric
metric_whole (Gather input moment pieces refused passed filtered metrics group reports) m h = tt
metric_whole (Ended input) m h = h
metric_whole (Take item) m h = h
metric_whole (Route item whole verdict aggs outs reports) m h = h
metric_whole (Tick moment made) m h = tt
metric_whole (Stop moment made) m h = tt
metric_whole (Begin output from to) m h = h
metric_whole (Done output ok reports) m h = h

last_metric : (last : Option Entry) (m : Content) → LastWhole last → LastWhole (last_with last m)
last_metric None m h = tt
last_metric (Some e) m h = metric_whole e m h

report_whole : (e : Entry) (report : Report) → IsWholeOrRemoved e → Holds IsWholeOrRemoved (reported e report)
unfolding reported
report_whole (Gather input moment pieces refused passed filtered metrics group reports) report h =
    next_answer IsWholeOrRemoved (risen reports report) _ (λ rs e. one_answer IsWholeOrRemoved _ tt)
report_whole (Ended input) report h = no_answer IsWholeOrRemoved
report_whole (Take item) report h = no_answer IsWholeOrRemoved
report_whole (Route item whole verdict aggs outs reports) report h =
    next_answer IsWholeOrRemoved (risen reports report) _ (λ rs e.
    one_answer IsWholeOrRemoved (Route item whole verdict aggs outs rs) h)
report_whole (Tick moment made) report h = no_answer IsWholeOrRemoved
report_whole (Stop moment made) report h = no_answer IsWholeOrRemoved
report_whole (Begin output from to) report h = no_answer IsWholeOrRemoved
report_whole (Done output ok reports) report h =
    next_answer IsWholeOrRemoved (risen reports report) _ (λ rs e. one_answer IsWholeOrRemoved _ tt)

last_report : (last : Option Entry) (report : Report) → LastWhole last → Holds LastWhole (last_reported last report)
unfolding last_reported
last_report None report h = no_answer LastWhole
last_report (Some e) report h =
    map_answer LastWhole Some (reported e report) (λ x is. (report_whole e report h).at x is)

closed_whole : (s : State) → Wholes s → AllByRecursion IsWholeOrRemoved (s.entries ++ option_to_list s.last)
closed_whole s h = all_append IsWholeOrRemoved s.entries (option_to_list s.last) h.entries_are (last s.last h.last_is)
  where
    last : (o : Option Entry) → LastWhole o → AllByRecursion IsWholeOrRemoved (option_to_list o)
    last None h = tt
    last (Some e) h = (h, tt)

same_whole : (s s' : State) → s.entries ≡ s'.entries → s.last ≡ s'.last → Wholes s → Wholes s'
same_whole s s' entries last h =
    record {
      entries_are = subst (AllByRecursion IsWholeOrRemoved) entries h.entries_are;
      last_is = subst LastWhole last h.last_is;
    }

starting_whole : (s : State) (line : List ℕ) → Wholes s → Holds Wholes (starting s line)
unfolding starting
starting_whole s line h =
    next_answer Wholes (start_in (words_of line)) _ (λ moment e. one_answer Wholes _ (same_whole s _ refl refl h))

input_whole : (s : State) (line : List ℕ) → Wholes s → Holds Wholes (set_input s line)
unfolding set_input
input_whole s line h =
    let next : Option ℕ → State = λ most.
    record s { setup = record s.setup { inputs = s.setup.inputs ++ most ∷ [] } } in
    where_answer Wholes (is_none_yet s.setup.aggs && is_none_yet s.setup.outputs)
    (input_in (length s.setup.inputs) (words_of line) >>= λ most. Some (next most)) (λ t.
    next_answer Wholes (input_in (length s.setup.inputs) (words_of line)) (λ most. Some (next most))
    (λ most e. one_answer Wholes (next most) (same_whole s (next most) refl refl h)))

agg_whole : (s : State) (line : List ℕ) → Wholes s → Holds Wholes (set_agg s line)
unfolding set_agg
agg_whole s line h =
    let next : AggLine → State = λ agg.
    record s { setup = record s.setup { aggs = s.setup.aggs ++ agg ∷ [] } } in
    where_answer Wholes (is_none_yet s.setup.outputs)
    (agg_in (length s.setup.aggs) (words_of line) >>= λ agg. Some (next agg)) (λ t.
    next_answer Wholes (agg_in (length s.setup.aggs) (words_of line)) (λ agg. Some (next agg))
    (λ agg e. one_answer Wholes (next agg) (same_whole s (next agg) refl refl h)))

output_whole : (s : State) (line : List ℕ) → Wholes s → Holds Wholes (set_output s line)
unfolding set_output
output_whole s line h =
    next_answer Wholes (output_in _ (words_of line)) _ (λ sizes e. one_answer Wholes _ (same_whole s _ refl refl h))

told_metric_whole : (s : State) (line : List ℕ) → Wholes s → Holds Wholes (told_metric s line)
unfolding told_metric
told_metric_whole s line h =
    next_answer Wholes (metric_in (words_of line)) _ (λ m e. one_answer Wholes _ (record {
      entries_are = h.entries_are;
      last_is = last_metric s.last m h.last_is;
    }))

told_report_whole : (s : State) (line : List ℕ) → Wholes s → Holds Wholes (told_report s line)
unfolding told_report
told_report_whole s line h =
    next_answer Wholes (report_in (words_of line)) _ (λ said e.
    next_answer Wholes (input_of s.groups said.0) _ (λ input e.
    next_answer Wholes (last_reported s.last (report_of input said)) _ (λ last e. one_answer Wholes _ (record {
      entries_are = h.entries_are;
      last_is = (last_report s.last (report_of input said) h.last_is).at last e;
    }))))

told_entry_whole : (s : State) (line : List ℕ) → Wholes s → Holds Wholes (told_entry s line)
unfolding told_entry
told_entry_whole s line h =
    next_answer Wholes (entry_in s.known _ (words_of line)) _ (λ begun e. one_answer Wholes _ (record {
      entries_are = closed_whole s h;
      last_is = (entry_whole s.known _ (words_of line)).at begun e;
    }))

counted_whole : (s : State) (line : List ℕ) → Wholes s → Holds Wholes (counted_line s line)
unfolding counted_line
counted_whole s line h =
    next_answer Wholes (slice_get s.forms s.counted) _ (λ form e.
    next_answer Wholes (counts_in form (words_of line)) _ (λ done e.
    one_answer Wholes _ (same_whole s _ refl refl h)))

first_whole : (s : State) (line : List ℕ) → Wholes s → Holds Wholes (first_counted s line)
unfolding first_counted
first_whole s line h =
    counted_whole (record (closed s) { stage = Counting; forms = forms_of s.setup }) line
    (record { entries_are = closed_whole s h; last_is = tt })

ending_whole : (s : State) (line : List ℕ) → Wholes s → Holds Wholes (ending s line)
unfolding ending
ending_whole s line h =
    next_answer Wholes (end_in _ (words_of line)) _ (λ done e. one_answer Wholes _ (same_whole s _ refl refl h))

going_whole : (s : State) (line : List ℕ) → Wholes s → Holds Wholes (going_on s line)
unfolding going_on
going_whole s line h =
    either_answer Wholes (told_entry s line) (first_counted s line) (told_entry_whole s line h) (first_whole s line h)

at_whole : (stage : Stage) (s : State) (line : List ℕ) → Wholes s → Holds Wholes (at_stage stage s line)
unfolding counting telling setting
at_whole Starting s line h = starting_whole s line h
at_whole Setting s line h =
    either_answer Wholes (set_input s line) _ (input_whole s line h)
    (either_answer Wholes (set_agg s line) _ (agg_whole s line h)
    (either_answer Wholes (set_output s line) _ (output_whole s line h) (going_whole s line h)))
at_whole Telling s line h =
    test_answer Wholes _ _ _
    (λ e. either_answer Wholes (told_report s line) _ (told_report_whole s line h) (going_whole s line h))
    (λ e. told_metric_whole s line h)
at_whole Counting s line h =
    test_answer Wholes _ _ _ (λ e. ending_whole s line h) (λ e. counted_whole s line h)
at_whole Over s line h = no_answer Wholes

pub after_whole : (s s' : State) (line : List ℕ) → Wholes s → after s line ≡ Some s' → Wholes s'
unfolding after
after_whole s s' line h e = (at_whole s.stage s line h).at s' e
