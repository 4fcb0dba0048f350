-- Where the reading stands behind a text, and what one more line makes of it.
use Rattle.std.proofs.Common.{◌≡◌, ℕ, ℤ, ◌+◌, ◌-◌, true, List, [], ◌∷◌, ◌++◌, length}
use Rattle.std.proofs.Common.{take, take_all, Option, Some, None, refl, sym, ap, subst, ◌∙◌, arith}
use Rattle.std.proofs.Common.{append_assoc}
use Rattle.std.specs.Prelude.{◌==◌, ◌&&◌, codes, slice_get}
use Rattle.std.specs.Fmt.{decimal, signed_decimal}
use Rattle.std.specs.List.{AllByRecursion}
use Rattle.std.proofs.lemmas.Bool.{and_parts, eqb-true, eqb-false}
use Rattle.std.proofs.lemmas.List.{append-nil, take_more}
use Rattle.std.proofs.lemmas.Option.{slice_get_within, get_or_from_slice_get}
use Rattle.fixed_num.proofs.NumberBytes.{all_append}
use Rattle.text_parts.specs.Bytes.{newline}
use Rattle.metric.specs.declared.metric.Content.{Content}
use Rattle.account.specs.AccountText.{numbered}
use Rattle.account.specs.declared.setup.AggLine.{AggLine}
use Rattle.account.specs.declared.entry.Report.{Report}
use Rattle.account.specs.declared.entry.Entry.{Entry}
use Rattle.account.specs.declared.entry.Entry.TheVariants.{Gather, Ended, Take, Route, Tick, Stop, Begin, Done}
use Rattle.account.specs.Items.{named_by, items}
use Rattle.account.specs.Says.{reports_of}
use Rattle.account.proofs.NumberedLemmas.{numbered-push}
use Rattle.journal_text.specs.declared.setup.JournalSetup.{JournalSetup}
use Rattle.journal_text.specs.SetupText.{input_line, agg_line, output_line}
use Rattle.journal_text.specs.JournalText.{metric_line, metric_lines, report_line, report_lines, item_of, entries_text}
use Rattle.journal_text.specs.JournalText.{end_text}
use Rattle.journal_reader.specs.declared.account_lines.Form.{Form}
use Rattle.journal_reader.specs.declared.entry.Begun.{Begun}
use Rattle.journal_reader.specs.declared.state.State.{State}
use Rattle.journal_reader.specs.declared.state.Stage.{Stage}
use Rattle.journal_reader.specs.declared.state.Stage.TheVariants.{Over}
use Rattle.journal_reader.specs.Words.{◌>>=◌, first_of, Parts, words_of}
use Rattle.journal_reader.specs.SetupReading.{numbered_in, start_in, input_in, agg_in, output_in}
use Rattle.journal_reader.specs.EntryReading.{entry_in, metric_in, report_in}
use Rattle.journal_reader.specs.AccountReading.{Nothing, counts_in, forms_of, end_in}
use Rattle.journal_reader.specs.States.{beginning, with_metric, last_reported, with_group, input_of}
use Rattle.journal_reader.specs.Steps.{starting, set_input, set_agg, set_output, told_metric, report_of, told_report}
use Rattle.journal_reader.specs.Steps.{told_entry, counted_line, ending, counting, going_on, telling}
use Rattle.journal_reader.specs.Steps.{setting, at_stage, after, is_none_yet}
use Rattle.journal_reader.specs.Spellable.{FitsInput, FitsAgg, FitsOutput, FitsSetup, FitsEntry, HaveReports}
use Rattle.journal_reader.proofs.Holding.{Holds, no_answer, one_answer, next_answer, where_answer, test_answer}
use Rattle.journal_reader.proofs.Holding.{either_answer}
use Rattle.journal_reader.proofs.SetupAgain.{input_text, agg_text, output_text}
use Rattle.journal_reader.proofs.EntryAgain.{begun_of}
use Rattle.journal_reader.proofs.TellAgain.{Place, AtSetup, AtEntry, set, tell, state_at, entries_at, known_at}
use Rattle.journal_reader.proofs.TellAgain.{groups_at}
use Rattle.journal_reader.proofs.TellAgain.{sizes_of, KnowsGroups, knows_more, report_words, report_text}
use Rattle.journal_reader.proofs.AccountAgain.{count, first_goes}
use Rattle.journal_reader.proofs.WordsBack.{line_is, end_answer, numbered_some}
use Rattle.journal_reader.proofs.SetupBack.{start_back, input_back, agg_back, output_back}
use Rattle.journal_reader.proofs.EntryBack.{IsBegun, entry_back, metric_line_back, report_back}
use Rattle.journal_reader.proofs.TellBack.{line_with, so_far, IsTold, told_metric_more, told_report_more, last_back}
use Rattle.journal_reader.proofs.TellBack.{none_known, IsAt, at_setup, told_at, known_metrics}
use Rattle.journal_reader.proofs.AccountBack.{AreLines, lines_push}

-- ---- the text of a set-up so far, behind the version

unfoldable pub start_text : ℤ → List ℕ
start_text start = codes "start " ++ signed_decimal start ++ codes "\n"

unfoldable pub setup_lines : JournalSetup → List ℕ
setup_lines setup =
    start_text setup.start
    ++ (numbered input_line 0 setup.inputs ++ (numbered agg_line 0 setup.aggs ++ numbered output_line 0 setup.outputs))

-- the line with its newline
abbrev pub ended_line : List ℕ → List ℕ
ended_line line = line ++ newline ∷ []

-- ---- where the reading stands

pub record IsCounted (setup : JournalSetup) (entries : List Entry) (counted : ℕ) (account text : List ℕ) : Type 0 where
  pub entries_fit : AllByRecursion (FitsEntry setup) entries
  pub reports_stand : HaveReports [] entries
  pub lines : AreLines (take counted (forms_of setup)) account
  pub is : text ≡ entries_text [] entries ++ account

pub record IsRead (setup : JournalSetup) (entries : List Entry) (account text : List ℕ) (s : State) : Type 0 where
  pub entries_fit : AllByRecursion (FitsEntry setup) entries
  pub reports_stand : HaveReports [] entries
  pub lines : AreLines (forms_of setup) account
  pub is : text ≡ entries_text [] entries ++ end_text account (length entries)
  pub same_setup : s.setup ≡ setup
  pub same_entries : s.entries ≡ entries
  pub same_account : s.account ≡ account
  pub over : s.stage ≡ Over

-- behind the set-up's lines this text stands
pub record Behind (setup : JournalSetup) (text rest : List ℕ) : Type 0 where
  pub fits : FitsSetup setup
  pub is : text ≡ setup_lines setup ++ rest

pub data Stands (text : List ℕ) (s : State) : Type 0 where
  AtStart : s ≡ beginning → text ≡ [] → Stands text s
  AtSet : (setup : JournalSetup) → s ≡ set setup → FitsSetup setup → text ≡ setup_lines setup → Stands text s
  AtTold : (setup : JournalSetup) (entries : List Entry) (e : Entry) (owed : ℕ) (known : List Content)
      (groups : List (ℕ × ℕ)) (rest : List ℕ) → s ≡ tell setup entries e owed known groups → Behind setup text rest
      → IsTold setup entries e owed known groups rest → Stands text s
  AtCounts : (setup : JournalSetup) (entries : List Entry) (known : List Content) (groups : List (ℕ × ℕ)) (counted : ℕ)
      (account rest : List ℕ) → s ≡ count setup entries known groups counted account → Behind setup text rest
      → IsCounted setup entries counted account rest → Stands text s
  AtEnd : (setup : JournalSetup) (entries : List Entry) (account rest : List ℕ) → Behind setup text rest
      → IsRead setup entries account rest s → Stands text s

-- one line more behind the set-up
pub behind_more : (setup : JournalSetup) (text rest line : List ℕ) → Behind setup text rest
    → Behind setup (text ++ line) (rest ++ line)
behind_more setup text rest line h = record {
  fits = h.fits;
  is = ap (λ (t : List ℕ). t ++ line) h.is ∙ append_assoc (setup_lines setup) rest line;
}

-- ---- the set-up

start_step : (line : List ℕ) → Holds (Stands (ended_line line)) (after beginning line)
unfolding after starting set setup_lines start_text numbered
start_step line =
    next_answer (Stands (ended_line line)) (start_in (words_of line)) _ (λ moment e.
    let w = (start_back (words_of line)).at moment e in
    let text : ended_line line ≡ setup_lines (record beginning.setup { start = moment }) =
    ap (λ (t : List ℕ). t ++ newline ∷ []) (line_is line _ w.0) ∙ sym (append-nil (start_text moment)) in
    one_answer (Stands (ended_line line)) _ (AtSet (record beginning.setup { start = moment }) refl
    (record { start = w.1; inputs = tt; aggs = tt; outputs = tt }) text))

is_empty : {A : Type 0} (xs : List A) → is_none_yet xs ≡ true → xs ≡ []
is_empty [] e = refl
is_empty (x ∷ xs) e =
    let none : length (x ∷ xs) ≡ 0 = eqb-true (length (x ∷ xs)) 0 e in
    absurd (omega (arith, none))

input_push : (start : ℤ) (inputs : List (Option ℕ)) (most : Option ℕ) (line : List ℕ)
    → line ≡ input_line (length inputs) most
    → (start_text start ++ (numbered input_line 0 inputs ++ ([] ++ []))) ++ line
    ≡ start_text start ++ (numbered input_line 0 (inputs ++ most ∷ []) ++ ([] ++ []))
input_push start inputs most line is =
    let pushed : numbered input_line 0 (inputs ++ most ∷ []) ≡ numbered input_line 0 inputs ++ line =
    numbered-push input_line 0 inputs most
    ∙ ap (λ (n : ℕ). numbered input_line 0 inputs ++ input_line n most) (omega arith)
    ∙ ap (λ (t : List ℕ). numbered input_line 0 inputs ++ t) (sym is) in
    rw pushed (simp (append_assoc, append-nil))

agg_push : (start : ℤ) (inputs : List (Option ℕ)) (aggs : List AggLine) (agg : AggLine) (line : List ℕ)
    → line ≡ agg_line (length aggs) agg
    → (start_text start ++ (numbered input_line 0 inputs ++ (numbered agg_line 0 aggs ++ []))) ++ line
    ≡ start_text start ++ (numbered input_line 0 inputs ++ (numbered agg_line 0 (aggs ++ agg ∷ []) ++ []))
agg_push start inputs aggs agg line is =
    let pushed : numbered agg_line 0 (aggs ++ agg ∷ []) ≡ numbered agg_line 0 aggs ++ line =
    numbered-push agg_line 0 aggs agg
    ∙ ap (λ (n : ℕ). numbered agg_line 0 aggs ++ agg_line n agg) (omega arith)
    ∙ ap (λ (t : List ℕ). numbered agg_line 0 aggs ++ t) (sym is) in
    rw pushed (simp (append_assoc, append-nil))

output_push : (start : ℤ) (inputs : List (Option ℕ)) (aggs : List AggLine) (outputs : List (ℕ × ℕ)) (sizes : ℕ × ℕ)
    (line : List ℕ) → line ≡ output_line (length outputs) sizes
    → (start_text start ++ (numbered input_line 0 inputs
    ++ (numbered agg_line 0 aggs ++ numbered output_line 0 outputs)))
    ++ line
    ≡ start_text start ++ (numbered input_line 0 inputs ++ (numbered agg_line 0 aggs
    ++ numbered output_line 0 (outputs ++ sizes ∷ [])))
output_push start inputs aggs outputs sizes line is =
    let pushed : numbered output_line 0 (outputs ++ sizes ∷ []) ≡ numbered output_line 0 outputs ++ line =
    numbered-push output_line 0 outputs sizes
    ∙ ap (λ (n : ℕ). numbered output_line 0 outputs ++ output_line n sizes) (omega arith)
    ∙ ap (λ (t : List ℕ). numbered output_line 0 outputs ++ t) (sym is) in
    rw pushed (simp append_assoc)

input_step : (setup : JournalSetup) (line : List ℕ) → FitsSetup setup
    → Holds (Stands (setup_lines setup ++ ended_line line)) (set_input (set setup) line)
unfolding set_input set setup_lines numbered
input_step setup line fits =
    let P = Stands (setup_lines setup ++ ended_line line) in
    let next : Option ℕ → State = λ most.
    record (set setup) { setup = record setup { inputs = setup.inputs ++ most ∷ [] } } in
    where_answer P (is_none_yet setup.aggs && is_none_yet setup.outputs)
    (input_in (length setup.inputs) (words_of line) >>= λ most. Some (next most)) (λ t.
    next_answer P (input_in (length setup.inputs) (words_of line)) (λ most. Some (next most)) (λ most e.
    let w = (input_back (length setup.inputs) (words_of line)).at most e in
    let none = and_parts (is_none_yet setup.aggs) (is_none_yet setup.outputs) t in
    let aggs : setup.aggs ≡ [] = is_empty setup.aggs none.0 in
    let outputs : setup.outputs ≡ [] = is_empty setup.outputs none.1 in
    let is : ended_line line ≡ input_line (length setup.inputs) most =
    ap (λ (l : List ℕ). l ++ newline ∷ []) (line_is line _ w.0) ∙ sym (input_text (length setup.inputs) most) in
    let text : setup_lines setup ++ ended_line line
    ≡ setup_lines (record setup { inputs = setup.inputs ++ most ∷ [] }) =
    rw (aggs, outputs) (input_push setup.start setup.inputs most (ended_line line) is) in
    one_answer P (next most) (AtSet (record setup { inputs = setup.inputs ++ most ∷ [] }) refl (record {
      start = fits.start;
      inputs = all_append FitsInput setup.inputs (most ∷ []) fits.inputs (w.1, tt);
      aggs = fits.aggs;
      outputs = fits.outputs;
    }) text)))

agg_step : (setup : JournalSetup) (line : List ℕ) → FitsSetup setup
    → Holds (Stands (setup_lines setup ++ ended_line line)) (set_agg (set setup) line)
unfolding set_agg set setup_lines numbered
agg_step setup line fits =
    let P = Stands (setup_lines setup ++ ended_line line) in
    let next : AggLine → State = λ agg.
    record (set setup) { setup = record setup { aggs = setup.aggs ++ agg ∷ [] } } in
    where_answer P (is_none_yet setup.outputs)
    (agg_in (length setup.aggs) (words_of line) >>= λ agg. Some (next agg)) (λ t.
    next_answer P (agg_in (length setup.aggs) (words_of line)) (λ agg. Some (next agg)) (λ agg e.
    let w = (agg_back (length setup.aggs) (words_of line)).at agg e in
    let outputs : setup.outputs ≡ [] = is_empty setup.outputs t in
    let is : ended_line line ≡ agg_line (length setup.aggs) agg =
    ap (λ (l : List ℕ). l ++ newline ∷ []) (line_is line _ w.0) ∙ sym (agg_text (length setup.aggs) agg) in
    let text : setup_lines setup ++ ended_line line ≡ setup_lines (record setup { aggs = setup.aggs ++ agg ∷ [] }) =
    rw outputs (agg_push setup.start setup.inputs setup.aggs agg (ended_line line) is) in
    one_answer P (next agg) (AtSet (record setup { aggs = setup.aggs ++ agg ∷ [] }) refl (record {
      start = fits.start;
      inputs = fits.inputs;
      aggs = all_append FitsAgg setup.aggs (agg ∷ []) fits.aggs (w.1, tt);
      outputs = fits.outputs;
    }) text)))

output_step : (setup : JournalSetup) (line : List ℕ) → FitsSetup setup
    → Holds (Stands (setup_lines setup ++ ended_line line)) (set_output (set setup) line)
unfolding set_output set setup_lines numbered
output_step setup line fits =
    let P = Stands (setup_lines setup ++ ended_line line) in
    let next : ℕ × ℕ → State = λ sizes.
    record (set setup) { setup = record setup { outputs = setup.outputs ++ sizes ∷ [] } } in
    next_answer P (output_in (length setup.outputs) (words_of line)) (λ sizes. Some (next sizes)) (λ sizes e.
    let w = (output_back (length setup.outputs) (words_of line)).at sizes e in
    let is : ended_line line ≡ output_line (length setup.outputs) sizes =
    ap (λ (l : List ℕ). l ++ newline ∷ []) (line_is line _ w.0) ∙ sym (output_text (length setup.outputs) sizes) in
    one_answer P (next sizes) (AtSet (record setup { outputs = setup.outputs ++ sizes ∷ [] }) refl (record {
      start = fits.start;
      inputs = fits.inputs;
      aggs = fits.aggs;
      outputs = all_append FitsOutput setup.outputs (sizes ∷ []) fits.outputs (w.1, tt);
    }) (output_push setup.start setup.inputs setup.aggs setup.outputs sizes (ended_line line) is)))

-- ---- the next entry

told_is : (setup : JournalSetup) (at : Place) (line : List ℕ)
    → told_entry (state_at setup at) line
    ≡ (entry_in (known_at at) (sizes_of setup) (words_of line) >>= λ begun. Some (tell setup (entries_at at) begun.entry
    begun.owed (known_at at) (with_group (groups_at at) begun.entry)))
unfolding told_entry set tell state_at entries_at known_at groups_at sizes_of
told_is setup AtSetup line = refl
told_is setup (AtEntry entries e known groups) line = refl

-- an entry's group is that of its beginning
same_group : (groups : List (ℕ × ℕ)) (e : Entry) → with_group groups (begun_of e) ≡ with_group groups e
unfolding with_group begun_of
same_group groups (Gather input moment pieces refused passed filtered metrics None reports) = refl
same_group groups (Gather input moment pieces refused passed filtered metrics (Some group) reports) = refl
same_group groups (Ended input) = refl
same_group groups (Take item) = refl
same_group groups (Route item whole verdict aggs outs reports) = refl
same_group groups (Tick moment made) = refl
same_group groups (Stop moment made) = refl
same_group groups (Begin output from to) = refl
same_group groups (Done output ok reports) = refl

begun_told : (setup : JournalSetup) (at : Place) (rest line : List ℕ) (begun : Begun) → IsAt setup at rest
    → IsBegun (known_at at) setup (words_of line) begun
    → IsTold setup (entries_at at) begun.entry begun.owed (known_at at) (with_group (groups_at at) begun.entry)
    (rest ++ ended_line line)
unfolding so_far line_with
begun_told setup at rest line begun h b =
    let e = begun.entry in
    let none : length (named_by e) + begun.owed ≡ begun.owed = omega (arith, ap length b.named) in
    let words = line_is line _ b.words_are in
    let same : item_of (known_at at) e ≡ item_of (items (entries_at at)) e =
    ap (λ (ms : List Content). item_of ms e) h.known_are in
    let text : ended_line line ≡ line_with (item_of (items (entries_at at)) e) e (length (named_by e) + begun.owed) =
    ap (λ (l : List ℕ). l ++ newline ∷ []) words
    ∙ ap (λ (item : List Content). line_with item e begun.owed) same
    ∙ ap (λ (n : ℕ). line_with (item_of (items (entries_at at)) e) e n) (sym none) in
    let empty : ended_line line
    ≡ so_far (item_of (items (entries_at at)) e) e (length (named_by e) + begun.owed) =
    text
    ∙ sym (append-nil (line_with (item_of (items (entries_at at)) e) e (length (named_by e) + begun.owed)))
    ∙ ap (λ (ms : List Content). line_with (item_of (items (entries_at at)) e) e (length (named_by e) + begun.owed)
    ++ (metric_lines ms ++ [])) (sym b.named)
    ∙ ap (λ (rs : List Report). line_with (item_of (items (entries_at at)) e) e (length (named_by e) + begun.owed)
    ++ (metric_lines (named_by e) ++ report_lines rs)) (sym b.reports) in
    record {
      entries_fit = h.entries_fit;
      reports_stand = h.reports_stand;
      fits = b.fits;
      count = omega (arith, none, b.count);
      known_are =
          h.known_are
          ∙ sym (append-nil (items (entries_at at)))
          ∙ ap (λ (ms : List Content). items (entries_at at) ++ ms) (sym b.named);
      knows = subst (λ (gs : List (ℕ × ℕ)). KnowsGroups gs (entries_at at ++ e ∷ [])) (same_group (groups_at at) e)
          (knows_more (groups_at at) (entries_at at) e h.knows);
      reports = none_known (with_group (groups_at at) e) (reports_of e) b.reports;
      waits = b.waits;
      is =
          ap (λ (t : List ℕ). t ++ ended_line line) h.is
          ∙ ap (λ (t : List ℕ). entries_text [] (entries_at at) ++ t) empty;
    }

going_some : (s next : State) (line : List ℕ) → told_entry s line ≡ Some next → going_on s line ≡ Some next
unfolding going_on
going_some s next line e = rw e refl

-- the words of the end
end_back : (entries : ℕ) (words : Parts)
    → Holds (λ (done : Nothing). words ≡ codes "end" ∷ decimal entries ∷ []) (end_in entries words)
unfolding end_in
end_back entries words =
    let P = λ (done : Nothing). words ≡ codes "end" ∷ decimal entries ∷ [] in
    next_answer P (numbered_in (codes "end") entries words) _ (λ rest e.
    end_answer P tt rest (λ none.
    numbered_some (codes "end") entries words rest e
    ∙ ap (λ (ws : Parts). codes "end" ∷ decimal entries ∷ ws) none))

-- ---- lines of the account

counted_step : (setup : JournalSetup) (entries : List Entry) (known : List Content) (groups : List (ℕ × ℕ))
    (counted : ℕ)
    (account rest text line : List ℕ) → Behind setup text rest → IsCounted setup entries counted account rest
    → Holds (Stands (text ++ ended_line line)) (counted_line (count setup entries known groups counted account) line)
unfolding counted_line count
counted_step setup entries known groups counted account rest text line h c =
    let P = Stands (text ++ ended_line line) in
    next_answer P (slice_get (forms_of setup) counted) _ (λ form e.
    next_answer P (counts_in form (words_of line)) _ (λ done f.
    let within = slice_get_within (forms_of setup) counted form e in
    let lines : take (counted + 1) (forms_of setup) ≡ take counted (forms_of setup) ++ form ∷ [] =
    take_more (forms_of setup) counted form within
    ∙ ap (λ (x : Form). take counted (forms_of setup) ++ x ∷ [])
    (get_or_from_slice_get (forms_of setup) counted form form e) in
    let more : IsCounted setup entries (counted + 1) (account ++ ended_line line) (rest ++ ended_line line) = record {
      entries_fit = c.entries_fit;
      reports_stand = c.reports_stand;
      lines = subst (λ (forms : List Form). AreLines forms (account ++ ended_line line)) (sym lines)
          (lines_push (take counted (forms_of setup)) account form line c.lines (record { done = done; is = f }));
      is =
          ap (λ (t : List ℕ). t ++ ended_line line) c.is
          ∙ append_assoc (entries_text [] entries) account (ended_line line);
    } in
    one_answer P _ (AtCounts setup entries known groups (counted + 1) ((account ++ line) ++ newline ∷ [])
    (rest ++ ended_line line) refl (behind_more setup text rest (ended_line line) h)
    (subst (λ (t : List ℕ). IsCounted setup entries (counted + 1) t (rest ++ ended_line line))
    (sym (append_assoc account line (newline ∷ []))) more))))

-- what goes on behind the set-up or an entry: an entry, or the first line of the account
going_step : (setup : JournalSetup) (at : Place) (text rest line : List ℕ) → Behind setup text rest → IsAt setup at rest
    → Holds (Stands (text ++ ended_line line)) (going_on (state_at setup at) line)
unfolding AreLines
going_step setup at text rest line h a =
    let P = Stands (text ++ ended_line line) in
    let told : Holds P (told_entry (state_at setup at) line) =
    subst (Holds P) (sym (told_is setup at line)) (next_answer P
    (entry_in (known_at at) (sizes_of setup) (words_of line)) _ (λ begun e.
    let b = (entry_back (known_at at) setup (words_of line) (known_metrics setup at rest a)).at begun e in
    one_answer P _ (AtTold setup (entries_at at) begun.entry begun.owed (known_at at)
    (with_group (groups_at at) begun.entry) (rest ++ ended_line line) refl
    (behind_more setup text rest (ended_line line) h)
    (begun_told setup at rest line begun a b)))) in
    let counted : Holds P (counted_line (count setup (entries_at at) (known_at at) (groups_at at) 0 []) line) =
    counted_step setup (entries_at at) (known_at at) (groups_at at) 0 [] rest text line h (record {
      entries_fit = a.entries_fit;
      reports_stand = a.reports_stand;
      lines = no_lines;
      is = a.is ∙ sym (append-nil (entries_text [] (entries_at at)));
    }) in
    either (told_entry (state_at setup at) line) refl told counted
  where
    no_lines : AreLines [] []
    no_lines = refl

    either : (o : Option State) → told_entry (state_at setup at) line ≡ o
        → Holds (Stands (text ++ ended_line line)) (told_entry (state_at setup at) line)
        → Holds (Stands (text ++ ended_line line))
        (counted_line (count setup (entries_at at) (known_at at) (groups_at at) 0 []) line)
        → Holds (Stands (text ++ ended_line line)) (going_on (state_at setup at) line)
    either (Some next) e told counted =
        subst (Holds (Stands (text ++ ended_line line))) (e ∙ sym (going_some (state_at setup at) next line e)) told
    either None e told counted =
        subst (Holds (Stands (text ++ ended_line line))) (sym (first_goes setup at line e)) counted

-- ---- what follows an entry

metric_step : (setup : JournalSetup) (entries : List Entry) (e : Entry) (owed : ℕ) (known : List Content)
    (groups : List (ℕ × ℕ)) (text rest line : List ℕ) → Behind setup text rest
    → IsTold setup entries e owed known groups rest → ((owed ≡ 0) → ⊥)
    → Holds (Stands (text ++ ended_line line)) (told_metric (tell setup entries e owed known groups) line)
unfolding told_metric tell
metric_step setup entries e owed known groups text rest line h t owes =
    let P = Stands (text ++ ended_line line) in
    next_answer P (metric_in (words_of line)) _ (λ m f.
    let w = (metric_line_back (words_of line)).at m f in
    let is : ended_line line ≡ metric_line m =
    ap (λ (l : List ℕ). l ++ newline ∷ []) (line_is line _ w.0) ∙ simp append_assoc in
    one_answer P _ (AtTold setup entries (with_metric e m) (owed - 1) (known ++ m ∷ []) groups
    (rest ++ ended_line line) refl
    (behind_more setup text rest (ended_line line) h)
    (subst (λ (l : List ℕ). IsTold setup entries (with_metric e m) (owed - 1) (known ++ m ∷ []) groups (rest ++ l))
    (sym is) (told_metric_more setup entries e owed known groups rest m t owes w.1))))

report_step : (setup : JournalSetup) (entries : List Entry) (e : Entry) (known : List Content)
    (groups : List (ℕ × ℕ)) (text rest line : List ℕ) → Behind setup text rest
    → IsTold setup entries e 0 known groups rest
    → Holds (Stands (text ++ ended_line line)) (told_report (tell setup entries e 0 known groups) line)
unfolding told_report tell report_words
report_step setup entries e known groups text rest line h t =
    let P = Stands (text ++ ended_line line) in
    next_answer P (report_in (words_of line)) _ (λ said a.
    next_answer P (input_of groups said.0) _ (λ input b.
    next_answer P (last_reported (Some e) (report_of input said)) _ (λ last d.
    let w = (report_back (words_of line)).at said a in
    let r = report_of input said in
    let put = (last_back setup e r).at last d in
    let is : ended_line line ≡ report_line r =
    ap (λ (l : List ℕ). l ++ newline ∷ []) (line_is line _ w.0) ∙ sym (report_text r) in
    one_answer P _ (AtTold setup entries put.entry 0 known groups (rest ++ ended_line line)
    (ap (λ (o : Option Entry). record (tell setup entries e 0 known groups) { last = o }) put.is)
    (behind_more setup text rest (ended_line line) h)
    (subst (λ (l : List ℕ). IsTold setup entries put.entry 0 known groups (rest ++ l)) (sym is)
    (told_report_more setup entries e put.entry known groups rest r t put.put w.1 b))))))

-- ---- the end

left_four : (a b d e : List ℕ) → a ++ (b ++ (d ++ e)) ≡ a ++ b ++ d ++ e
left_four a b d e = sym (append_assoc (a ++ b) d e ∙ append_assoc a b (d ++ e))

end_step : (setup : JournalSetup) (entries : List Entry) (known : List Content) (groups : List (ℕ × ℕ)) (counted : ℕ)
    (account rest text line : List ℕ) → Behind setup text rest → IsCounted setup entries counted account rest
    → counted ≡ length (forms_of setup)
    → Holds (Stands (text ++ ended_line line)) (ending (count setup entries known groups counted account) line)
unfolding ending count end_in end_text
end_step setup entries known groups counted account rest text line h c all =
    let P = Stands (text ++ ended_line line) in
    next_answer P (end_in (length entries) (words_of line)) _ (λ done e.
    let words = (end_back (length entries) (words_of line)).at done e in
    let is : ended_line line ≡ codes "end " ++ (decimal (length entries) ++ codes "\n") =
    ap (λ (l : List ℕ). l ++ newline ∷ []) (line_is line _ words) ∙ simp append_assoc in
    let forms : take counted (forms_of setup) ≡ forms_of setup =
    ap (λ (n : ℕ). take n (forms_of setup)) all ∙ take_all (length (forms_of setup)) (forms_of setup) (omega arith) in
    one_answer P _ (AtEnd setup entries account (rest ++ ended_line line)
    (behind_more setup text rest (ended_line line) h) (record {
      entries_fit = c.entries_fit;
      reports_stand = c.reports_stand;
      lines = subst (λ (fs : List Form). AreLines fs account) forms c.lines;
      is =
          ap (λ (t : List ℕ). t ++ ended_line line) c.is
          ∙ append_assoc (entries_text [] entries) account (ended_line line)
          ∙ ap (λ (t : List ℕ). entries_text [] entries ++ (account ++ t)) is
          ∙ ap (λ (t : List ℕ). entries_text [] entries ++ t)
          (left_four account (codes "end ") (decimal (length entries)) (codes "\n"));
      same_setup = refl;
      same_entries = refl;
      same_account = refl;
      over = refl;
    })))

-- ---- one line more, wherever the reading stands

set_step : (setup : JournalSetup) (line : List ℕ) → FitsSetup setup
    → Holds (Stands (setup_lines setup ++ ended_line line)) (after (set setup) line)
unfolding after setting set state_at
set_step setup line fits =
    let P = Stands (setup_lines setup ++ ended_line line) in
    either_answer P (set_input (set setup) line) _ (input_step setup line fits)
    (either_answer P (set_agg (set setup) line) _ (agg_step setup line fits)
    (either_answer P (set_output (set setup) line) _ (output_step setup line fits)
    (going_step setup AtSetup (setup_lines setup) [] line
    (record { fits = fits; is = sym (append-nil (setup_lines setup)) })
    (at_setup setup))))

tell_step : (setup : JournalSetup) (entries : List Entry) (e : Entry) (owed : ℕ) (known : List Content)
    (groups : List (ℕ × ℕ)) (text rest line : List ℕ) → Behind setup text rest
    → IsTold setup entries e owed known groups rest
    → Holds (Stands (text ++ ended_line line)) (after (tell setup entries e owed known groups) line)
unfolding after telling tell state_at
tell_step setup entries e owed known groups text rest line h t =
    let P = Stands (text ++ ended_line line) in
    test_answer P (owed == 0) _ _
    (λ zero_owed.
    let none : owed ≡ 0 = eqb-true owed 0 zero_owed in
    let at : IsTold setup entries e 0 known groups rest =
    subst (λ (n : ℕ). IsTold setup entries e n known groups rest) none t in
    subst (λ (n : ℕ). Holds P (first_of (told_report (tell setup entries e n known groups) line)
    (going_on (tell setup entries e n known groups) line))) (sym none)
    (either_answer P (told_report (tell setup entries e 0 known groups) line) _
    (report_step setup entries e known groups text rest line h at)
    (going_step setup (AtEntry entries e known groups) text rest line h
    (told_at setup entries e known groups rest at))))
    (λ owes. metric_step setup entries e owed known groups text rest line h t (eqb-false owed 0 owes))

count_step : (setup : JournalSetup) (entries : List Entry) (known : List Content) (groups : List (ℕ × ℕ)) (counted : ℕ)
    (account rest text line : List ℕ) → Behind setup text rest → IsCounted setup entries counted account rest
    → Holds (Stands (text ++ ended_line line)) (after (count setup entries known groups counted account) line)
unfolding after counting count
count_step setup entries known groups counted account rest text line h c =
    let P = Stands (text ++ ended_line line) in
    test_answer P (counted == length (forms_of setup)) _ _
    (λ all. end_step setup entries known groups counted account rest text line h c
    (eqb-true counted (length (forms_of setup)) all))
    (λ left. counted_step setup entries known groups counted account rest text line h c)

over_step : (s : State) (text line : List ℕ) → s.stage ≡ Over → Holds (Stands (text ++ ended_line line)) (after s line)
unfolding after
over_step s text line is =
    subst (λ (stage : Stage). Holds (Stands (text ++ ended_line line)) (at_stage stage s line)) (sym is)
    (no_answer (Stands (text ++ ended_line line)))

pub after_stands : (text line : List ℕ) (s : State) → Stands text s
    → Holds (Stands (text ++ ended_line line)) (after s line)
after_stands text line s (AtStart is none) =
    subst (λ (t : List ℕ). Holds (Stands (t ++ ended_line line)) (after s line)) (sym none)
    (subst (λ (z : State). Holds (Stands (ended_line line)) (after z line)) (sym is) (start_step line))
after_stands text line s (AtSet setup is fits text_is) =
    subst (λ (t : List ℕ). Holds (Stands (t ++ ended_line line)) (after s line)) (sym text_is)
    (subst (λ (z : State). Holds (Stands (setup_lines setup ++ ended_line line)) (after z line)) (sym is)
    (set_step setup line fits))
after_stands text line s (AtTold setup entries e owed known groups rest is h t) =
    subst (λ (z : State). Holds (Stands (text ++ ended_line line)) (after z line)) (sym is)
    (tell_step setup entries e owed known groups text rest line h t)
after_stands text line s (AtCounts setup entries known groups counted account rest is h c) =
    subst (λ (z : State). Holds (Stands (text ++ ended_line line)) (after z line)) (sym is)
    (count_step setup entries known groups counted account rest text line h c)
after_stands text line s (AtEnd setup entries account rest h r) = over_step s text line r.over
