-- A torn text's whole lines begin the text of a journal.
use Rattle.std.proofs.Common.{◌≡◌, ℕ, zero, suc, ◌+◌, ◌-◌, ◌^◌, Bool, true, false, cond, List, [], ◌∷◌, ◌++◌, length}
use Rattle.std.proofs.Common.{take, drop, Option, Some, None, Result, Ok, Err, refl, sym, ap, subst, ◌∙◌, arith}
use Rattle.std.proofs.Common.{append_assoc}
use Rattle.std.specs.Prelude.{◌==◌, pos, codes, reverse}
use Rattle.std.specs.Fmt.{decimal}
use Rattle.std.specs.List.{AllByRecursion, IsDistinct, join_with_byte, slice_split, position_or_len}
use Rattle.std.specs.List.Sorted.{IsStrictlySortedBy}
use Rattle.std.specs.Str.{bytes_eq}
use Rattle.std.proofs.lemmas.List.{append-nil, reverse-append, reverse-reverse, take-append-drop}
use Rattle.text_parts.specs.Bytes.{newline}
use Rattle.text_parts.specs.Chain.{◌>>=◌}
use Rattle.text_parts.specs.Grammar.{HasNone}
use Rattle.text_parts.specs.Split.{is_byte}
use Rattle.text_parts.proofs.Lacking.{none_append}
use Rattle.text_parts.proofs.Splits.{found_at, split_are_joined}
use Rattle.text_parts.proofs.Utf8.{one_ascii}
use Rattle.metric.specs.declared.metric.Content.{Content}
use Rattle.metric.specs.declared.value.Value.TheVariants as value
use Rattle.metric.specs.Metric.{IsMetric}
use Rattle.account.specs.declared.entry.Entry.{Entry}
use Rattle.account.specs.Numbers.{unread_input, unreached_output, IsInputBelow, IsOutputBelow}
use Rattle.journal_text.specs.declared.setup.JournalSetup.{JournalSetup}
use Rattle.journal_text.specs.SetupText.{setup_text}
use Rattle.journal_text.specs.JournalText.{metric_line, entries_text, end_text, journal_text}
use Rattle.journal_reader.specs.declared.account_lines.Form.{Form}
use Rattle.journal_reader.specs.declared.account_lines.Form.TheVariants.{Input, Groups, Items, Output}
use Rattle.journal_reader.specs.declared.fault.JournalFault.{JournalFault}
use Rattle.journal_reader.specs.declared.fault.JournalKind.{JournalKind}
use Rattle.journal_reader.specs.declared.fault.JournalKind.TheVariants.{BadHeader, BadEntry, Torn}
use Rattle.journal_reader.specs.declared.read.Journal.{Journal}
use Rattle.journal_reader.specs.declared.state.State.{State}
use Rattle.journal_reader.specs.AccountReading.{counts_in, forms_of}
use Rattle.journal_reader.specs.States.{beginning, with_metric}
use Rattle.journal_reader.specs.Steps.{after}
use Rattle.journal_reader.specs.Reading.{fault, version, taken_at, is_over, answer_of, lines_read, version_read}
use Rattle.journal_reader.specs.Reading.{reading}
use Rattle.journal_reader.specs.Spellable.{FitsSetup}
use Rattle.journal_reader.specs.Meaning.{GoesOn, TornGoesOn, whole_lines}
use Rattle.journal_reader.proofs.WordLemmas.{are_bytes}
use Rattle.journal_reader.proofs.LineWords.{line_of}
use Rattle.journal_reader.proofs.TellAgain.{Place, AtSetup, AtEntry, entries_at}
use Rattle.journal_reader.proofs.AccountAgain.{Row, IsRow, row_line, input_row, groups_row, items_row, output_row}
use Rattle.journal_reader.proofs.AccountAgain.{input_is, groups_is, items_is, output_is}
use Rattle.journal_reader.proofs.AccountBack.{IsCounts, AreLines, lines_push, account_back}
use Rattle.journal_reader.proofs.TellBack.{IsTold, told_metric_more, IsAt, at_setup, told_at}
use Rattle.journal_reader.proofs.StepBack.{setup_lines, ended_line, Behind, behind_more, IsCounted, Stands}
use Rattle.journal_reader.proofs.StepBack.{AtStart, AtSet, AtTold, AtCounts, AtEnd, after_stands}
use Rattle.journal_reader.proofs.ReadBack.{setup_whole}

-- the first line
abbrev head_line : List ℕ
head_line = version ++ newline ∷ []

goes_less : (front rest : List ℕ) → GoesOn (front ++ rest) → GoesOn front
goes_less front rest h = record {
  journal = h.journal;
  more = rest ++ h.more;
  spellable = h.spellable;
  is = h.is ∙ append_assoc front rest h.more;
}

-- ---- an account of zeros

no_input_below : IsInputBelow (2 ^ 64) (unread_input false)
no_input_below = record {
  pieces = omega arith;
  refused = omega arith;
  passed = omega arith;
  filtered = omega arith;
  gathered = omega arith;
  delivered = omega arith;
  rejected = omega arith;
  undelivered = omega arith;
}

no_output_below : IsOutputBelow (2 ^ 64) unreached_output
no_output_below = record {
  filtered = omega arith;
  late = omega arith;
  consumed = omega arith;
  written = omega arith;
  buffered = omega arith;
  dropped = omega arith;
}

zero_line : Form → List ℕ
zero_line (Input index) = row_line (input_row index (unread_input false))
zero_line (Groups index) = row_line (groups_row index (unread_input false))
zero_line Items = row_line (items_row 0 0 0)
zero_line (Output index) = row_line (output_row index unreached_output)

row_counts : (form : Form) (row : Row) → row.form ≡ form → IsRow row → IsCounts form (row_line row)
unfolding row_line
row_counts form row same h =
    let words = line_of row.first row.others h.quiet in
    subst (λ (x : Form). IsCounts x (row_line row)) same
    (record { done = tt; is = ap (counts_in row.form) words.is ∙ h.counts })

zero_counts : (form : Form) → IsCounts form (zero_line form)
unfolding zero_line input_row groups_row items_row output_row
zero_counts (Input index) =
    row_counts (Input index) _ refl (input_is index (unread_input false) no_input_below)
zero_counts (Groups index) =
    row_counts (Groups index) _ refl (groups_is index (unread_input false) no_input_below)
zero_counts Items =
    row_counts Items _ refl (items_is 0 0 0 (omega arith) (omega arith) (omega arith))
zero_counts (Output index) =
    row_counts (Output index) _ refl (output_is index unreached_output no_output_below)

-- a line of zeros for each of these forms
zero_lines : List Form → List ℕ
zero_lines [] = []
zero_lines (form ∷ forms) = ended_line (zero_line form) ++ zero_lines forms

all_lines : (read left : List Form) (account : List ℕ) → AreLines read account
    → AreLines (read ++ left) (account ++ zero_lines left)
unfolding zero_lines
all_lines read [] account h =
    subst (λ (forms : List Form). AreLines forms (account ++ [])) (sym (append-nil read))
    (subst (AreLines read) (sym (append-nil account)) h)
all_lines read (form ∷ left) account h =
    let line = ended_line (zero_line form) in
    let next : AreLines ((read ++ form ∷ []) ++ left) ((account ++ line) ++ zero_lines left) =
    all_lines (read ++ form ∷ []) left (account ++ line)
    (lines_push read account form (zero_line form) h (zero_counts form)) in
    subst (λ (forms : List Form). AreLines forms (account ++ (line ++ zero_lines left)))
    (append_assoc read (form ∷ []) left)
    (subst (AreLines ((read ++ form ∷ []) ++ left)) (append_assoc account line (zero_lines left)) next)

-- ---- where the reading stands, it can go on

plain : (h s e a z x d n : List ℕ)
    → (h ++ (s ++ (e ++ a))) ++ (z ++ (x ++ (d ++ n))) ≡ h ++ (s ++ (e ++ ((a ++ z) ++ x ++ d ++ n)))
plain h s e a z x d n = simp append_assoc

counted_on : (setup : JournalSetup) (entries : List Entry) (counted : ℕ) (account rest text : List ℕ)
    → Behind setup text rest → IsCounted setup entries counted account rest → GoesOn (head_line ++ text)
unfolding journal_text end_text
counted_on setup entries counted account rest text h c =
    let left = drop counted (forms_of setup) in
    let all = account ++ zero_lines left in
    let lines : AreLines (forms_of setup) all =
    subst (λ (forms : List Form). AreLines forms all) (take-append-drop counted (forms_of setup))
    (all_lines (take counted (forms_of setup)) left account c.lines) in
    let more = zero_lines left ++ (codes "end " ++ (decimal (length entries) ++ codes "\n")) in
    let whole : text ≡ setup_lines setup ++ (entries_text [] entries ++ account) =
    h.is ∙ ap (λ (t : List ℕ). setup_lines setup ++ t) c.is in
    let is : (head_line ++ text) ++ more ≡ journal_text setup entries all =
    ap (λ (t : List ℕ). (head_line ++ t) ++ more) whole
    ∙ plain head_line (setup_lines setup) (entries_text [] entries) account (zero_lines left) (codes "end ")
    (decimal (length entries)) (codes "\n")
    ∙ setup_whole setup (entries_text [] entries ++ end_text all (length entries))
    ∙ sym (append_assoc (setup_text setup) (entries_text [] entries) (end_text all (length entries))) in
    record {
      journal = record { setup = setup; entries = entries; account = all };
      more = more;
      spellable = record {
        setup_fits = h.fits;
        entries_fit = c.entries_fit;
        reports_stand = c.reports_stand;
        is_account = account_back setup all lines;
      };
      is = sym is;
    }

place_on : (setup : JournalSetup) (at : Place) (text rest : List ℕ) → Behind setup text rest → IsAt setup at rest
    → GoesOn (head_line ++ text)
unfolding AreLines
place_on setup at text rest h a = counted_on setup (entries_at at) 0 [] rest text h (record {
  entries_fit = a.entries_fit;
  reports_stand = a.reports_stand;
  lines = refl;
  is = a.is ∙ sym (append-nil (entries_text [] (entries_at at)));
})

-- any metric
some_metric : Content
some_metric =
    record { name = codes "m"; tags = []; fields = (codes "v", value.«Bool» true) ∷ []; time = pos 0 }

is_metric : IsMetric some_metric
unfolding some_metric IsStrictlySortedBy IsDistinct
is_metric = record {
  name = record { filled = omega arith; utf8 = one_ascii 109 (omega arith) };
  tags = tt;
  sorted = tt;
  some = omega arith;
  fields = ((record { filled = omega arith; utf8 = one_ascii 118 (omega arith) }, tt), tt);
  distinct = (tt, tt);
  time = record { sfits = omega arith };
}

told_on : (setup : JournalSetup) (entries : List Entry) (e : Entry) (owed : ℕ) (known : List Content)
    (groups : List (ℕ × ℕ)) (text rest : List ℕ) → Behind setup text rest
    → IsTold setup entries e owed known groups rest → GoesOn (head_line ++ text)
told_on setup entries e zero known groups text rest h t =
    place_on setup (AtEntry entries e known groups) text rest h (told_at setup entries e known groups rest t)
told_on setup entries e (suc n) known groups text rest h t =
    let line = metric_line some_metric in
    let some : (suc n ≡ 0) → ⊥ = λ none. absurd (omega (arith, none)) in
    let less : suc n - 1 ≡ n = omega arith in
    let next : IsTold setup entries (with_metric e some_metric) n (known ++ some_metric ∷ []) groups (rest ++ line) =
    subst (λ (owed : ℕ). IsTold setup entries (with_metric e some_metric) owed (known ++ some_metric ∷ []) groups
    (rest ++ line)) less (told_metric_more setup entries e (suc n) known groups rest some_metric t some is_metric) in
    goes_less (head_line ++ text) line (subst GoesOn (sym (append_assoc head_line text line))
    (told_on setup entries (with_metric e some_metric) n (known ++ some_metric ∷ []) groups (text ++ line)
    (rest ++ line)
    (behind_more setup text rest line h) next))

-- a set-up of nothing
no_setup : JournalSetup
no_setup = record { start = pos 0; inputs = []; aggs = []; outputs = [] }

no_setup_fits : FitsSetup no_setup
unfolding no_setup
no_setup_fits = record { start = record { sfits = omega arith }; inputs = tt; aggs = tt; outputs = tt }

set_on : (setup : JournalSetup) → FitsSetup setup → GoesOn (head_line ++ setup_lines setup)
set_on setup fits =
    place_on setup AtSetup (setup_lines setup) []
    (record { fits = fits; is = sym (append-nil (setup_lines setup)) }) (at_setup setup)

stands_on : (text : List ℕ) (s : State) → is_over s.stage ≡ false → Stands text s → GoesOn (head_line ++ text)
stands_on text s going (AtStart is none) =
    subst (λ (t : List ℕ). GoesOn (head_line ++ t)) (sym none)
    (goes_less (head_line ++ []) (setup_lines no_setup) (set_on no_setup no_setup_fits))
stands_on text s going (AtSet setup is fits text_is) =
    subst (λ (t : List ℕ). GoesOn (head_line ++ t)) (sym text_is) (set_on setup fits)
stands_on text s going (AtTold setup entries e owed known groups rest is h t) =
    told_on setup entries e owed known groups text rest h t
stands_on text s going (AtCounts setup entries known groups counted account rest is h c) =
    counted_on setup entries counted account rest text h c
stands_on text s going (AtEnd setup entries account rest h r) =
    let clash : true ≡ false = sym (ap is_over r.over) ∙ going in
    absurd cc

-- ---- all lines

-- whole lines that can go on, and what stands behind them
record TornAt (text : List ℕ) : Type 0 where
  front : List ℕ
  last : List ℕ
  is : text ≡ front ++ newline ∷ last
  none : HasNone (is_byte newline) last
  goes : GoesOn (front ++ newline ∷ [])

-- a text at fault isn't torn
kind_in : Result Journal JournalFault → JournalKind
kind_in (Ok j) = Torn
kind_in (Err f) = f.kind

no_entry : (place p : ℕ) → fault {A = Journal} BadEntry place ≡ fault Torn p → ⊥
unfolding kind_in
no_entry place p e = let k : BadEntry ≡ Torn = ap kind_in e in cc

no_header : (p : ℕ) → fault {A = Journal} BadHeader 0 ≡ fault Torn p → ⊥
unfolding kind_in
no_header p e = let k : BadHeader ≡ Torn = ap kind_in e in cc

not_over : (size place p : ℕ) (s : State) (rest : List ℕ) → answer_of size place s rest ≡ fault Torn p
    → is_over s.stage ≡ false
unfolding answer_of
not_over size place p s rest e = at (is_over s.stage) refl (length rest == 0) refl e
  where
    read : Journal
    read = record { setup = s.setup; entries = s.entries; account = s.account }

    at : (over : Bool) → is_over s.stage ≡ over → (empty : Bool) → (length rest == 0) ≡ empty
        → cond over (cond empty (Ok read) (fault BadEntry place)) (fault Torn size) ≡ fault Torn p
        → is_over s.stage ≡ false
    at true o true m f = absurd cc
    at true o false m f = absurd (no_entry place p f)
    at false o empty m f = o

-- the text that was read ends with a newline
torn_at : (text last front : List ℕ) → head_line ++ text ≡ front ++ newline ∷ [] → HasNone (is_byte newline) last
    → GoesOn (head_line ++ text) → TornAt ((head_line ++ text) ++ last)
torn_at text last front ends none goes = record {
  front = front;
  last = last;
  is = ap (λ (t : List ℕ). t ++ last) ends ∙ append_assoc front (newline ∷ []) last;
  none = none;
  goes = subst GoesOn ends goes;
}

lines_torn : (size place p : ℕ) (s : State) (text front : List ℕ) (lines : List (List ℕ)) → Stands text s
    → head_line ++ text ≡ front ++ newline ∷ [] → AllByRecursion (HasNone (is_byte newline)) lines
    → lines_read size place s lines ≡ fault Torn p → TornAt ((head_line ++ text) ++ join_with_byte newline lines)
unfolding lines_read
lines_torn size place p s text front [] h ends none e =
    torn_at text [] front ends tt (stands_on text s (not_over size place p s [] e) h)
lines_torn size place p s text front (line ∷ []) h ends none e =
    torn_at text line front ends none.0 (stands_on text s (not_over size place p s line e) h)
lines_torn size place p s text front (line ∷ next ∷ lines) h ends none e =
    at (after s line) refl (λ s' is f. lines_torn size (place + length line + 1) p s' (text ++ ended_line line)
    ((head_line ++ text) ++ line) (next ∷ lines) ((after_stands text line s h).at s' is) longer none.1 f) e
  where
    more : List ℕ
    more = join_with_byte newline (next ∷ lines)

    longer : head_line ++ (text ++ ended_line line) ≡ ((head_line ++ text) ++ line) ++ newline ∷ []
    longer = ends_longer head_line text line (newline ∷ [])
      where
        ends_longer : (h t l n : List ℕ) → h ++ (t ++ (l ++ n)) ≡ ((h ++ t) ++ l) ++ n
        ends_longer h t l n = simp append_assoc

    long : (head_line ++ (text ++ ended_line line)) ++ more ≡ (head_line ++ text) ++ (line ++ newline ∷ more)
    long = all_longer head_line text line more
      where
        all_longer : (h t l m : List ℕ)
            → (h ++ (t ++ (l ++ newline ∷ []))) ++ m ≡ (h ++ t) ++ (l ++ newline ∷ m)
        all_longer h t l m = simp append_assoc

    at : (o : Option State) → after s line ≡ o
        → ((s' : State) → after s line ≡ Some s'
        → lines_read size (place + length line + 1) s' (next ∷ lines) ≡ fault Torn p
        → TornAt ((head_line ++ (text ++ ended_line line)) ++ more))
        → (taken_at place o >>= λ s'. lines_read size (place + length line + 1) s' (next ∷ lines)) ≡ fault Torn p
        → TornAt ((head_line ++ text) ++ (line ++ newline ∷ more))
    at None is f g = absurd (no_entry place p g)
    at (Some s') is f g = subst TornAt long (f s' is g)

version_torn : (size p : ℕ) (lines : List (List ℕ)) → AllByRecursion (HasNone (is_byte newline)) lines
    → version_read size lines ≡ fault Torn p → TornAt (join_with_byte newline lines)
version_torn size p [] none e = absurd (no_header p e)
version_torn size p (line ∷ []) none e = absurd (no_header p e)
version_torn size p (line ∷ next ∷ lines) none e = at (bytes_eq line version) refl e
  where
    at : (t : Bool) → bytes_eq line version ≡ t
        → cond t (lines_read size (length line + 1) beginning (next ∷ lines)) (fault BadHeader 0) ≡ fault Torn p
        → TornAt (line ++ newline ∷ join_with_byte newline (next ∷ lines))
    at true is f =
        subst (λ (l : List ℕ). TornAt (l ++ newline ∷ join_with_byte newline (next ∷ lines)))
        (sym (are_bytes line version is))
        (lines_torn size (length line + 1) p beginning [] version (next ∷ lines) (AtStart refl refl) refl none.1 f)
    at false is f = absurd (no_header p f)

-- ---- the whole lines of a text

none_reversed : (bs : List ℕ) → HasNone (is_byte newline) bs → HasNone (is_byte newline) (reverse bs)
none_reversed [] h = tt
none_reversed (b ∷ bs) h =
    subst (HasNone (is_byte newline)) (sym (reverse-append (b ∷ []) bs))
    (none_append (is_byte newline) (reverse bs) (b ∷ []) (none_reversed bs h.1) (h.0, tt))

drop_front : (front rest : List ℕ) → drop (length front) (front ++ rest) ≡ rest
drop_front [] rest = refl
drop_front (b ∷ front) rest = drop_front front rest

whole_are : (front last : List ℕ) → HasNone (is_byte newline) last
    → whole_lines (front ++ newline ∷ last) ≡ front ++ newline ∷ []
whole_are front last none =
    let turned : reverse (front ++ newline ∷ last) ≡ reverse last ++ newline ∷ reverse front =
    reverse-append front (newline ∷ last)
    ∙ ap (λ (t : List ℕ). t ++ reverse front) (reverse-append (newline ∷ []) last)
    ∙ append_assoc (reverse last) (newline ∷ []) (reverse front) in
    let first : position_or_len (is_byte newline) (reverse last ++ newline ∷ reverse front) ≡ length (reverse last) =
    found_at (is_byte newline) (reverse last) newline (reverse front) (none_reversed last none) refl in
    ap (λ (t : List ℕ). reverse (drop (position_or_len (is_byte newline) t) t)) turned
    ∙ ap (λ (n : ℕ). reverse (drop n (reverse last ++ newline ∷ reverse front))) first
    ∙ ap (λ (t : List ℕ). reverse t) (drop_front (reverse last) (newline ∷ reverse front))
    ∙ reverse-append (newline ∷ []) (reverse front)
    ∙ ap (λ (t : List ℕ). t ++ newline ∷ []) (reverse-reverse front)

pub torn_goes_on : TornGoesOn
unfolding reading
torn_goes_on text place e =
    let split = split_are_joined newline text in
    let torn : TornAt text =
    subst TornAt split.0 (version_torn (length text) place (slice_split (is_byte newline) text) split.1 e) in
    let whole : whole_lines text ≡ torn.front ++ newline ∷ [] =
    ap whole_lines torn.is ∙ whole_are torn.front torn.last torn.none in
    subst GoesOn (sym whole) torn.goes
