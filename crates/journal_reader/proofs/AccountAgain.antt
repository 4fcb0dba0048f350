-- The text of an account, and the end behind it, are read as them.
use Rattle.std.proofs.Common.{◌≡◌, ℕ, suc, ◌+◌, ◌<◌, ◌^◌, Bool, true, false, cond, List, [], ◌∷◌, ◌++◌, length, refl}
use Rattle.std.proofs.Common.{sym, not, Option, Some, None, ap, subst, ◌∙◌, arith, append_assoc}
use Rattle.std.specs.Prelude.{◌==◌, ◌&&◌, map, is_some, slice_get, codes, if◌then◌else◌}
use Rattle.std.specs.Fmt.{decimal}
use Rattle.std.specs.List.{AllByRecursion, flat_map, join_with_byte, list_all}
use Rattle.std.specs.Str.{bytes_eq}
use Rattle.std.proofs.lemmas.Bool.{and_parts, ne_eqb, eq-eqb}
use Rattle.std.proofs.lemmas.List.{append-nil, length-append, length-map, length_push, map-append}
use Rattle.fixed_num.proofs.NumberBytes.{all_append}
use Rattle.text_parts.specs.Bytes.{space, newline}
use Rattle.metric.specs.declared.metric.Content.{Content}
use Rattle.account.specs.AccountText.{counted, input_line, groups_line, tracked_groups, items_line, output_line}
use Rattle.account.specs.AccountText.{numbered, account_text}
use Rattle.account.specs.Numbers.{Numbers, IsInputBelow, IsOutputBelow}
use Rattle.account.specs.declared.numbers.InputNumbers.{InputNumbers}
use Rattle.account.specs.declared.numbers.OutputNumbers.{OutputNumbers}
use Rattle.account.specs.declared.entry.Entry.{Entry}
use Rattle.journal_text.specs.declared.setup.JournalSetup.{JournalSetup}
use Rattle.journal_reader.specs.declared.account_lines.Form.{Form}
use Rattle.journal_reader.specs.declared.account_lines.Form.TheVariants.{Input, Groups, Items, Output}
use Rattle.journal_reader.specs.declared.entry.Sizes.{Sizes}
use Rattle.journal_reader.specs.declared.state.State.{State}
use Rattle.journal_reader.specs.declared.state.Stage.TheVariants.{Counting, Over}
use Rattle.journal_reader.specs.Words.{◌>>=◌, where_true, Parts, behind, words_of, taken, either_of}
use Rattle.journal_reader.specs.SetupReading.{numbered_in, tracking_in, tracking_behind, input_in, agg_in, output_in}
use Rattle.journal_reader.specs.EntryReading.{event_in, entry_in, report_in}
use Rattle.journal_reader.specs.AccountReading.{behind_count, behind_counts, items_labels, ended_counts, line_counts}
use Rattle.journal_reader.specs.AccountReading.{items_counts}
use Rattle.journal_reader.specs.AccountReading.{counts_in, input_forms, groups_forms, output_forms, forms_of, end_in}
use Rattle.journal_reader.specs.States.{beginning}
use Rattle.journal_reader.specs.Steps.{told_entry, counted_line, first_counted, ending, counting, going_on, after}
use Rattle.journal_reader.specs.Spellable.{IsAccount}
use Rattle.journal_reader.proofs.LeadLemmas.{Leads, leads_nothing, leads_line, leads_then}
use Rattle.journal_reader.proofs.WordLemmas.{number_read, either_text}
use Rattle.journal_reader.proofs.LineWords.{Quiet, literal, index_quiet, line_of, behind_is, join_end}
use Rattle.journal_reader.proofs.SetupAgain.{numbered_again}
use Rattle.journal_reader.proofs.TellAgain.{Place, AtSetup, AtEntry, set, tell, state_at, entries_at, known_at}
use Rattle.journal_reader.proofs.TellAgain.{groups_at}
use Rattle.journal_reader.proofs.TellAgain.{IsOther, goes_on, not_over}

-- ---- the lines

-- a line of an account: its form, and its words
pub record Row : Type 0 where
  pub form : Form
  pub first : List ℕ
  pub others : Parts

unfoldable pub words_in : Row → Parts
words_in row = row.first ∷ row.others

unfoldable pub row_line : Row → List ℕ
row_line row = join_with_byte space (row.first ∷ row.others)

unfoldable pub row_text : Row → List ℕ
row_text row = row_line row ++ newline ∷ []

unfoldable pub ending_word : Bool → List ℕ
ending_word ended = either_text (codes "ended") (codes "unread") ended

-- labels, each with a number, before other words
abbrev pub counts_words : List (List ℕ × ℕ) → Parts → Parts
counts_words [] others = others
counts_words (c ∷ cs) others = c.0 ∷ decimal c.1 ∷ counts_words cs others

-- what each kind of line counts, with its labels
abbrev of_input : InputNumbers → List (List ℕ × ℕ)
of_input x =
    (codes "pieces", x.pieces) ∷ (codes "refused", x.refused) ∷ (codes "passed", x.passed)
    ∷ (codes "filtered", x.filtered) ∷ (codes "gathered", x.gathered) ∷ []

abbrev of_groups : InputNumbers → List (List ℕ × ℕ)
of_groups x =
    (codes "delivered", x.delivered) ∷ (codes "rejected", x.rejected) ∷ (codes "undelivered", x.undelivered) ∷ []

abbrev of_items : ℕ → ℕ → ℕ → List (List ℕ × ℕ)
of_items made removed routed = (codes "made", made) ∷ (codes "removed", removed) ∷ (codes "routed", routed) ∷ []

abbrev of_output : OutputNumbers → List (List ℕ × ℕ)
of_output x =
    (codes "filtered", x.filtered) ∷ (codes "late", x.late) ∷ (codes "consumed", x.consumed)
    ∷ (codes "written", x.written) ∷ (codes "buffered", x.buffered) ∷ (codes "dropped", x.dropped) ∷ []

unfoldable pub input_row : ℕ → InputNumbers → Row
input_row index x = record {
  form = Input index;
  first = codes "input";
  others = decimal index ∷ counts_words (of_input x) (ending_word x.has_ended ∷ []);
}

unfoldable pub groups_row : ℕ → InputNumbers → Row
groups_row index x = record {
  form = Groups index;
  first = codes "groups";
  others = decimal index ∷ counts_words (of_groups x) [];
}

unfoldable pub items_row : ℕ → ℕ → ℕ → Row
items_row made removed routed = record {
  form = Items;
  first = codes "items";
  others = counts_words (of_items made removed routed) [];
}

unfoldable pub output_row : ℕ → OutputNumbers → Row
output_row index x = record {
  form = Output index;
  first = codes "output";
  others = decimal index ∷ counts_words (of_output x) [];
}

-- a line of such a form, of quiet words
pub record IsRow (row : Row) : Type 0 where
  pub counts : counts_in row.form (row.first ∷ row.others) ≡ Some tt
  pub quiet : AllByRecursion Quiet (row.first ∷ row.others)

ending_quiet : (ended : Bool) → Quiet (ending_word ended)
unfolding ending_word
ending_quiet true = literal (codes "ended") refl refl
ending_quiet false = literal (codes "unread") refl refl

ending_again : (ended : Bool)
    → taken (either_of (codes "ended") (codes "unread")) (ending_word ended ∷ []) ≡ Some (ended, [])
unfolding ending_word either_of
ending_again true = refl
ending_again false = refl

-- neither a space nor a newline stands in a label
abbrev is_plain : List ℕ → Bool
is_plain label = list_all (λ b. not (b == space)) label && list_all (λ b. not (b == newline)) label

counts_quiet : (counts : List (List ℕ × ℕ)) (others : Parts)
    → list_all (λ (c : List ℕ × ℕ). is_plain c.0) counts ≡ true → AllByRecursion Quiet others
    → AllByRecursion Quiet (counts_words counts others)
counts_quiet [] others e h = h
counts_quiet (c ∷ cs) others e h =
    let parts = and_parts (is_plain c.0) (list_all (λ (c : List ℕ × ℕ). is_plain c.0) cs) e in
    let one = and_parts (list_all (λ b. not (b == space)) c.0) (list_all (λ b. not (b == newline)) c.0) parts.0 in
    (literal c.0 one.0 one.1, (index_quiet c.1, counts_quiet cs others parts.1 h))

abbrev AreBelow : List (List ℕ × ℕ) → Type 0
AreBelow counts = AllByRecursion (λ (c : List ℕ × ℕ). c.1 < 2 ^ 64) counts

counts_again : (counts : List (List ℕ × ℕ)) (others : Parts) → AreBelow counts
    → behind_counts (map (λ (c : List ℕ × ℕ). c.0) counts) (counts_words counts others) ≡ Some others
unfolding behind_counts behind_count
counts_again [] others h = refl
counts_again (c ∷ cs) others h =
    rw (behind_is c.0 (decimal c.1 ∷ counts_words cs others), number_read c.1 h.0) (counts_again cs others h.1)

-- a line that only counts
line_again : (name : List ℕ) (index : ℕ) (counts : List (List ℕ × ℕ)) → AreBelow counts
    → line_counts name index (map (λ (c : List ℕ × ℕ). c.0) counts) (name ∷ decimal index ∷ counts_words counts [])
    ≡ Some tt
unfolding line_counts
line_again name index counts h =
    rw (numbered_again name index (counts_words counts []), counts_again counts [] h) refl

-- and one that says at its end whether an input was read to its end
ended_again : (name : List ℕ) (index : ℕ) (counts : List (List ℕ × ℕ)) (ended : Bool) → AreBelow counts
    → ended_counts name index (map (λ (c : List ℕ × ℕ). c.0) counts)
    (name ∷ decimal index ∷ counts_words counts (ending_word ended ∷ []))
    ≡ Some tt
unfolding ended_counts
ended_again name index counts ended h =
    let last : Parts = ending_word ended ∷ [] in
    rw (numbered_again name index (counts_words counts last), counts_again counts last h, ending_again ended) refl

pub input_is : (index : ℕ) (x : InputNumbers) → IsInputBelow (2 ^ 64) x → IsRow (input_row index x)
unfolding input_row
input_is index x h = record {
  counts = ended_again (codes "input") index (of_input x) x.has_ended
      (h.pieces, (h.refused, (h.passed, (h.filtered, (h.gathered, tt)))));
  quiet = counts_quiet ((codes "input", index) ∷ of_input x) (ending_word x.has_ended ∷ []) refl
      (ending_quiet x.has_ended, tt);
}

pub groups_is : (index : ℕ) (x : InputNumbers) → IsInputBelow (2 ^ 64) x → IsRow (groups_row index x)
unfolding groups_row
groups_is index x h = record {
  counts = line_again (codes "groups") index (of_groups x) (h.delivered, (h.rejected, (h.undelivered, tt)));
  quiet = counts_quiet ((codes "groups", index) ∷ of_groups x) [] refl tt;
}

items_again : (made removed routed : ℕ) → made < 2 ^ 64 → removed < 2 ^ 64 → routed < 2 ^ 64
    → items_counts (words_in (items_row made removed routed)) ≡ Some tt
unfolding items_row words_in items_counts
items_again made removed routed h k l =
    let all = of_items made removed routed in
    let counts : behind_counts items_labels (counts_words all []) ≡ Some [] = counts_again all [] (h, (k, (l, tt))) in
    rw (behind_is (codes "items") (counts_words all []), counts) refl

pub items_is : (made removed routed : ℕ) → made < 2 ^ 64 → removed < 2 ^ 64 → routed < 2 ^ 64
    → IsRow (items_row made removed routed)
unfolding items_row words_in
items_is made removed routed h k l = record {
  counts = items_again made removed routed h k l;
  quiet = (literal (codes "items") refl refl, counts_quiet (of_items made removed routed) [] refl tt);
}

pub output_is : (index : ℕ) (x : OutputNumbers) → IsOutputBelow (2 ^ 64) x → IsRow (output_row index x)
unfolding output_row
output_is index x h = record {
  counts = line_again (codes "output") index (of_output x)
      (h.filtered, (h.late, (h.consumed, (h.written, (h.buffered, (h.dropped, tt))))));
  quiet = counts_quiet ((codes "output", index) ∷ of_output x) [] refl tt;
}

-- ---- all lines of an account

input_rows : ℕ → List InputNumbers → List Row
input_rows index [] = []
input_rows index (x ∷ xs) = input_row index x ∷ input_rows (index + 1) xs

groups_rows : ℕ → List InputNumbers → List Row
groups_rows index [] = []
groups_rows index (x ∷ xs) =
    cond x.tracked (groups_row index x ∷ groups_rows (index + 1) xs) (groups_rows (index + 1) xs)

output_rows : ℕ → List OutputNumbers → List Row
output_rows index [] = []
output_rows index (x ∷ xs) = output_row index x ∷ output_rows (index + 1) xs

rows_of : Numbers → List Row
rows_of numbers =
    input_rows 0 numbers.inputs ++ (groups_rows 0 numbers.inputs
    ++ (items_row numbers.made numbers.removed numbers.routed ∷ output_rows 0 numbers.outputs))

unfoldable pub rows_text : List Row → List ℕ
rows_text rows = flat_map row_text rows

texts_append : (first second : List Row) → rows_text (first ++ second) ≡ rows_text first ++ rows_text second
unfolding rows_text
texts_append [] second = refl
texts_append (row ∷ first) second =
    ap (λ (t : List ℕ). row_text row ++ t) (texts_append first second)
    ∙ sym (append_assoc (row_text row) (flat_map row_text first) (flat_map row_text second))

ended_text : (ended : Bool) → (if ended then codes " ended\n" else codes " unread\n")
    ≡ 32 ∷ ending_word ended ++ newline ∷ []
unfolding ending_word
ended_text true = refl
ended_text false = refl

-- labels with their numbers, and what stands behind them
each_end : List (List ℕ × ℕ) → List ℕ → List ℕ
each_end [] last = last
each_end (c ∷ cs) last = c.0 ++ (decimal c.1 ++ each_end cs last)

counted_end : (cs : List (List ℕ × ℕ)) (last : List ℕ) → counted cs ++ last ≡ each_end cs last
unfolding each_end
counted_end [] last = refl
counted_end (c ∷ cs) last =
    append_assoc (c.0 ++ decimal c.1) (counted cs) last
    ∙ append_assoc c.0 (decimal c.1) (counted cs ++ last)
    ∙ ap (λ (t : List ℕ). c.0 ++ (decimal c.1 ++ t)) (counted_end cs last)

-- the same labels with a space before and behind each, as a line has them
abbrev spaced : List (List ℕ × ℕ) → List (List ℕ × ℕ)
spaced counts = map (λ (c : List ℕ × ℕ). (space ∷ c.0 ++ space ∷ [], c.1)) counts

pub input_text : (index : ℕ) (x : InputNumbers) → input_line index x ≡ row_text (input_row index x)
unfolding input_line row_text row_line input_row each_end
input_text index x =
    let labels : List (List ℕ × ℕ) = (codes "input ", index) ∷ spaced (of_input x) in
    counted_end labels (if x.has_ended then codes " ended\n" else codes " unread\n")
    ∙ ap (λ (t : List ℕ). each_end labels t) (ended_text x.has_ended)
    ∙ sym (join_end (codes "input") (decimal index ∷ counts_words (of_input x) (ending_word x.has_ended ∷ [])))

pub groups_text : (index : ℕ) (x : InputNumbers) → groups_line index x ≡ row_text (groups_row index x)
unfolding groups_line row_text row_line groups_row each_end
groups_text index x =
    counted_end ((codes "groups ", index) ∷ spaced (of_groups x)) (codes "\n")
    ∙ sym (join_end (codes "groups") (decimal index ∷ counts_words (of_groups x) []))

pub items_text : (made removed routed : ℕ) → items_line made removed routed ≡ row_text (items_row made removed routed)
unfolding items_line row_text row_line items_row each_end
items_text made removed routed =
    counted_end ((codes "items made ", made) ∷ spaced ((codes "removed", removed) ∷ (codes "routed", routed) ∷ []))
    (codes "\n")
    ∙ sym (join_end (codes "items") (counts_words (of_items made removed routed) []))

pub output_text : (index : ℕ) (x : OutputNumbers) → output_line index x ≡ row_text (output_row index x)
unfolding output_line row_text row_line output_row each_end
output_text index x =
    counted_end ((codes "output ", index) ∷ spaced (of_output x)) (codes "\n")
    ∙ sym (join_end (codes "output") (decimal index ∷ counts_words (of_output x) []))

inputs_text : (index : ℕ) (xs : List InputNumbers) → numbered input_line index xs ≡ rows_text (input_rows index xs)
unfolding numbered rows_text input_rows
inputs_text index [] = refl
inputs_text index (x ∷ xs) = rw (input_text index x, inputs_text (index + 1) xs) refl

all_groups_text : (index : ℕ) (xs : List InputNumbers)
    → numbered tracked_groups index xs ≡ rows_text (groups_rows index xs)
unfolding numbered rows_text groups_rows tracked_groups
all_groups_text index [] = refl
all_groups_text index (x ∷ xs) = rw (groups_text index x, all_groups_text (index + 1) xs) (at x.tracked)
  where
    at : (t : Bool)
        → cond t (row_text (groups_row index x)) [] ++ flat_map row_text (groups_rows (index + 1) xs)
        ≡ flat_map row_text (cond t (groups_row index x ∷ groups_rows (index + 1) xs) (groups_rows (index + 1) xs))
    at true = refl
    at false = refl

outputs_text : (index : ℕ) (xs : List OutputNumbers) → numbered output_line index xs ≡ rows_text (output_rows index xs)
unfolding numbered rows_text output_rows
outputs_text index [] = refl
outputs_text index (x ∷ xs) = rw (output_text index x, outputs_text (index + 1) xs) refl

account_is : (numbers : Numbers) → account_text numbers ≡ rows_text (rows_of numbers)
unfolding account_text rows_of rows_text
account_is numbers =
    rw (
      inputs_text 0 numbers.inputs,
      all_groups_text 0 numbers.inputs,
      items_text numbers.made numbers.removed numbers.routed,
      outputs_text 0 numbers.outputs,
    )
    (append_assoc (rows_text (input_rows 0 numbers.inputs) ++ rows_text (groups_rows 0 numbers.inputs))
    (row_text (items_row numbers.made numbers.removed numbers.routed)) (rows_text (output_rows 0 numbers.outputs))
    ∙ append_assoc (rows_text (input_rows 0 numbers.inputs)) (rows_text (groups_rows 0 numbers.inputs))
    (rows_text (items_row numbers.made numbers.removed numbers.routed ∷ output_rows 0 numbers.outputs))
    ∙ ap (λ (t : List ℕ). rows_text (input_rows 0 numbers.inputs) ++ t) (sym (texts_append
    (groups_rows 0 numbers.inputs) (items_row numbers.made numbers.removed numbers.routed
    ∷ output_rows 0 numbers.outputs)))
    ∙ sym (texts_append (input_rows 0 numbers.inputs) (groups_rows 0 numbers.inputs
    ++ (items_row numbers.made numbers.removed numbers.routed ∷ output_rows 0 numbers.outputs))))

-- ---- their forms are those of the set-up

forms_in : List Row → List Form
forms_in rows = map (λ (row : Row). row.form) rows

heads : {A : Type 0} → List A → A → A
heads [] d = d
heads (x ∷ xs) d = x

tails : {A : Type 0} → List A → List A
tails [] = []
tails (x ∷ xs) = xs

input_forms_are : (index : ℕ) (xs : List InputNumbers) (inputs : List (Option ℕ))
    → map (λ (x : InputNumbers). x.tracked) xs ≡ map is_some inputs
    → forms_in (input_rows index xs) ≡ input_forms index inputs
unfolding forms_in input_rows tails input_row
input_forms_are index [] [] e = refl
input_forms_are index [] (most ∷ inputs) e = absurd cc
input_forms_are index (x ∷ xs) [] e = absurd cc
input_forms_are index (x ∷ xs) (most ∷ inputs) e =
    ap (λ (forms : List Form). Input index ∷ forms) (input_forms_are (index + 1) xs inputs (ap tails e))

groups_forms_are : (index : ℕ) (xs : List InputNumbers) (inputs : List (Option ℕ))
    → map (λ (x : InputNumbers). x.tracked) xs ≡ map is_some inputs
    → forms_in (groups_rows index xs) ≡ groups_forms index inputs
unfolding forms_in groups_rows heads tails groups_row
groups_forms_are index [] [] e = refl
groups_forms_are index [] (most ∷ inputs) e = absurd cc
groups_forms_are index (x ∷ xs) [] e = absurd cc
groups_forms_are index (x ∷ xs) (None ∷ inputs) e =
    let untracked : x.tracked ≡ false = ap (λ (bs : List Bool). heads bs true) e in
    rw untracked (groups_forms_are (index + 1) xs inputs (ap tails e))
groups_forms_are index (x ∷ xs) (Some most ∷ inputs) e =
    let tracked : x.tracked ≡ true = ap (λ (bs : List Bool). heads bs true) e in
    rw tracked (ap (λ (forms : List Form). Groups index ∷ forms) (groups_forms_are (index + 1) xs inputs (ap tails e)))

output_forms_are : (index : ℕ) (xs : List OutputNumbers) (outputs : List (ℕ × ℕ)) → length xs ≡ length outputs
    → forms_in (output_rows index xs) ≡ output_forms index outputs
unfolding forms_in output_rows output_row
output_forms_are index [] [] e = refl
output_forms_are index [] (sizes ∷ outputs) e = absurd (omega (arith, e))
output_forms_are index (x ∷ xs) [] e = absurd (omega (arith, e))
output_forms_are index (x ∷ xs) (sizes ∷ outputs) e =
    ap (λ (forms : List Form). Output index ∷ forms) (output_forms_are (index + 1) xs outputs (omega (arith, e)))

forms_append : (first second : List Row) → forms_in (first ++ second) ≡ forms_in first ++ forms_in second
unfolding forms_in
forms_append first second = map-append (λ (row : Row). row.form) first second

forms_are : (setup : JournalSetup) (numbers : Numbers)
    → map (λ (x : InputNumbers). x.tracked) numbers.inputs ≡ map is_some setup.inputs
    → length numbers.outputs ≡ length setup.outputs → forms_in (rows_of numbers) ≡ forms_of setup
unfolding forms_of rows_of forms_in items_row
forms_are setup numbers inputs outputs =
    let items = items_row numbers.made numbers.removed numbers.routed in
    forms_append (input_rows 0 numbers.inputs) (groups_rows 0 numbers.inputs ++ (items ∷ output_rows 0 numbers.outputs))
    ∙ ap (λ (forms : List Form). forms_in (input_rows 0 numbers.inputs) ++ forms) (forms_append
    (groups_rows 0 numbers.inputs) (items ∷ output_rows 0 numbers.outputs))
    ∙ rw (
      input_forms_are 0 numbers.inputs setup.inputs inputs,
      groups_forms_are 0 numbers.inputs setup.inputs inputs,
      output_forms_are 0 numbers.outputs setup.outputs outputs,
    ) (sym (append_assoc (input_forms 0 setup.inputs)
    (groups_forms 0 setup.inputs) (Items ∷ output_forms 0 setup.outputs)))

-- ---- one line after the other

-- the account was read up to some lines
unfoldable pub count : JournalSetup → List Entry → List Content → List (ℕ × ℕ) → ℕ → List ℕ → State
count setup entries known groups counted account = record beginning {
  stage = Counting;
  setup = setup;
  entries = entries;
  known = known;
  groups = groups;
  forms = forms_of setup;
  counted = counted;
  account = account;
}

get_at : {A : Type 0} (xs ys : List A) (y : A) → slice_get (xs ++ y ∷ ys) (length xs) ≡ Some y
get_at [] ys y = refl
get_at (x ∷ xs) ys y = get_at xs ys y

-- where a row stands among those of the set-up
record At (setup : JournalSetup) (before : List Row) (row : Row) (behind : List Row) : Type 0 where
  forms : forms_in (before ++ row ∷ behind) ≡ forms_of setup

get_form : (setup : JournalSetup) (before : List Row) (row : Row) (behind : List Row) → At setup before row behind
    → slice_get (forms_of setup) (length before) ≡ Some row.form
unfolding forms_in
get_form setup before row behind at =
    let whole : forms_in before ++ row.form ∷ forms_in behind ≡ forms_of setup =
    sym (forms_append before (row ∷ behind)) ∙ at.forms in
    let long : length (forms_in before) ≡ length before = length-map before (λ (row : Row). row.form) in
    ap (λ (n : ℕ). slice_get (forms_of setup) n) (sym long)
    ∙ ap (λ (forms : List Form). slice_get forms (length (forms_in before))) (sym whole)
    ∙ get_at (forms_in before) (forms_in behind) row.form

before_end : (setup : JournalSetup) (before : List Row) (row : Row) (behind : List Row) → At setup before row behind
    → (length before == length (forms_of setup)) ≡ false
unfolding forms_in
before_end setup before row behind at =
    let whole : length (forms_in (before ++ row ∷ behind)) ≡ length (forms_of setup) = ap length at.forms in
    let long : length (forms_in (before ++ row ∷ behind)) ≡ length (before ++ row ∷ behind) =
    length-map (before ++ row ∷ behind) (λ (row : Row). row.form) in
    let parts : length (before ++ row ∷ behind) ≡ length before + suc (length behind) =
    length-append before (row ∷ behind) in
    ne_eqb (length before) (length (forms_of setup)) (λ e. absurd (omega (arith, whole, long, parts, e)))

row_counted : (setup : JournalSetup) (entries : List Entry) (known : List Content) (groups : List (ℕ × ℕ))
    (before : List Row) (row : Row) (behind : List Row) → At setup before row behind → IsRow row
    → words_of (row_line row) ≡ row.first ∷ row.others
    → counted_line (count setup entries known groups (length before) (rows_text before)) (row_line row)
    ≡ Some (count setup entries known groups (length before + 1) (rows_text before ++ row_line row ++ codes "\n"))
unfolding counted_line count
row_counted setup entries known groups before row behind at is words =
    rw (get_form setup before row behind at, words, is.counts) refl

one_more : (before : List Row) (row : Row)
    → rows_text before ++ row_line row ++ codes "\n" ≡ rows_text (before ++ row ∷ [])
unfolding row_text rows_text
one_more before row =
    append_assoc (rows_text before) (row_line row) (codes "\n")
    ∙ ap (λ (t : List ℕ). rows_text before ++ t) (sym (append-nil (row_line row ++ newline ∷ [])))
    ∙ sym (texts_append before (row ∷ []))

row_made : (setup : JournalSetup) (entries : List Entry) (known : List Content) (groups : List (ℕ × ℕ))
    (before : List Row) (row : Row) (behind : List Row) → At setup before row behind → IsRow row
    → words_of (row_line row) ≡ row.first ∷ row.others
    → after (count setup entries known groups (length before) (rows_text before)) (row_line row)
    ≡ Some (count setup entries known groups (length (before ++ row ∷ [])) (rows_text (before ++ row ∷ [])))
unfolding after counting count
row_made setup entries known groups before row behind at is words =
    let long : length before + 1 ≡ length (before ++ row ∷ []) = sym (length_push before row) in
    rw (before_end setup before row behind at) (row_counted setup entries known groups before row behind at is words
    ∙ ap (λ (n : ℕ). Some (count setup entries known groups n (rows_text before ++ row_line row ++ codes "\n"))) long
    ∙ ap (λ (t : List ℕ). Some (count setup entries known groups (length (before ++ row ∷ [])) t))
    (one_more before row))

at_next : (setup : JournalSetup) (before : List Row) (row next : Row) (behind : List Row)
    → At setup before row (next ∷ behind) → At setup (before ++ row ∷ []) next behind
at_next setup before row next behind at =
    record { forms = ap forms_in (append_assoc before (row ∷ []) (next ∷ behind)) ∙ at.forms }

Rest : JournalSetup → List Row → List Row → Type 0
Rest setup before [] = Unit {0}
Rest setup before (row ∷ behind) = At setup before row behind

rest_next : (setup : JournalSetup) (before : List Row) (row : Row) (behind : List Row) → At setup before row behind
    → Rest setup (before ++ row ∷ []) behind
unfolding Rest
rest_next setup before row [] at = tt
rest_next setup before row (next ∷ behind) at = at_next setup before row next behind at

leads_rows : (setup : JournalSetup) (entries : List Entry) (known : List Content) (groups : List (ℕ × ℕ))
    (before rows : List Row) → Rest setup before rows → AllByRecursion IsRow rows
    → Leads (count setup entries known groups (length before) (rows_text before)) (rows_text rows)
    (count setup entries known groups (length (before ++ rows)) (rows_text (before ++ rows)))
unfolding Rest rows_text row_line count row_text
leads_rows setup entries known groups before [] at h =
    subst (λ (rows : List Row). Leads (count setup entries known groups (length before) (rows_text before)) []
    (count setup entries known groups (length rows) (rows_text rows))) (sym (append-nil before))
    (leads_nothing (count setup entries known groups (length before) (rows_text before)))
leads_rows setup entries known groups before (row ∷ rows) at h =
    let words = line_of row.first row.others h.0.quiet in
    let s = count setup entries known groups (length before) (rows_text before) in
    let next = count setup entries known groups (length (before ++ row ∷ [])) (rows_text (before ++ row ∷ [])) in
    let last = before ++ row ∷ rows in
    let one : Leads s (row_text row) next = leads_line s next (row_line row) words.none refl
    (row_made setup entries known groups before row rows at h.0 words.is) in
    let others = leads_rows setup entries known groups (before ++ row ∷ []) rows (rest_next setup before row rows at)
    h.1 in
    leads_then s next (count setup entries known groups (length last) (rows_text last)) (row_text row)
    (rows_text rows) one
    (subst (λ (all : List Row). Leads next (rows_text rows)
    (count setup entries known groups (length all) (rows_text all))) (append_assoc before (row ∷ []) rows) others)

-- ---- the first line

either_none : {A : Type 0} (t : Bool) (words : Parts) (next : Parts → Option A) → next words ≡ None
    → (where_true t (Some words) >>= next) ≡ None
either_none true words next e = e
either_none false words next e = refl

-- a first line is no other line that may come there
record IsFirst (row : Row) : Type 0 where
  other : IsOther (row.first ∷ row.others)
  none : (known : List Content) (sizes : Sizes) → entry_in known sizes (row.first ∷ row.others) ≡ None

input_first : (index : ℕ) (x : InputNumbers) → IsFirst (input_row index x)
unfolding input_row input_in agg_in output_in numbered_in report_in behind entry_in event_in tracking_behind
input_first index x = record {
  other = record {
    input = λ i. either_none (bytes_eq (decimal index) (decimal i)) _ tracking_in refl;
    agg = λ i. refl;
    output = λ i. refl;
    report = refl;
  };
  none = λ known sizes. refl;
}

items_first : (made removed routed : ℕ) → IsFirst (items_row made removed routed)
unfolding items_row input_in agg_in output_in numbered_in report_in behind entry_in event_in
items_first made removed routed = record {
  other = record { input = λ i. refl; agg = λ i. refl; output = λ i. refl; report = refl };
  none = λ known sizes. refl;
}

FirstOf : List Row → Type 0
FirstOf [] = ⊥
FirstOf (row ∷ rows) = IsFirst row

rows_first : (numbers : Numbers) → FirstOf (rows_of numbers)
unfolding rows_of FirstOf input_rows groups_rows
rows_first numbers = at numbers.inputs
  where
    at : (inputs : List InputNumbers) → FirstOf (input_rows 0 inputs ++ (groups_rows 0 inputs
        ++ (items_row numbers.made numbers.removed numbers.routed ∷ output_rows 0 numbers.outputs)))
    at [] = items_first numbers.made numbers.removed numbers.routed
    at (x ∷ xs) = input_first 0 x

pub first_goes : (setup : JournalSetup) (at : Place) (line : List ℕ) → told_entry (state_at setup at) line ≡ None
    → going_on (state_at setup at) line
    ≡ counted_line (count setup (entries_at at) (known_at at) (groups_at at) 0 []) line
unfolding going_on first_counted state_at entries_at known_at groups_at set tell count
first_goes setup AtSetup line none = rw none refl
first_goes setup (AtEntry entries e known groups) line none = rw none refl

no_entry : (setup : JournalSetup) (at : Place) (row : Row) → IsFirst row
    → words_of (row_line row) ≡ row.first ∷ row.others
    → told_entry (state_at setup at) (row_line row) ≡ None
unfolding told_entry
no_entry setup at row first words = rw (words, first.none (state_at setup at).known _) refl

leads_first : (setup : JournalSetup) (at : Place) (row : Row) (rows : List Row) → IsFirst row → IsRow row
    → At setup [] row rows
    → Leads (state_at setup at) (row_text row)
    (count setup (entries_at at) (known_at at) (groups_at at) 1 (rows_text (row ∷ [])))
unfolding row_text row_line rows_text
leads_first setup at row rows first is stands =
    let words = line_of row.first row.others is.quiet in
    let next = count setup (entries_at at) (known_at at) (groups_at at) 1 (rows_text (row ∷ [])) in
    let made : after (state_at setup at) (row_line row) ≡ Some next =
    goes_on setup at (row_line row) (row.first ∷ row.others) words.is first.other
    ∙ first_goes setup at (row_line row) (no_entry setup at row first words.is)
    ∙ row_counted setup (entries_at at) (known_at at) (groups_at at) [] row rows stands is words.is
    ∙ ap (λ (t : List ℕ). Some (count setup (entries_at at) (known_at at) (groups_at at) 1 t)) (one_more [] row) in
    leads_line (state_at setup at) next (row_line row) words.none (not_over setup at) made

leads_account_rows : (setup : JournalSetup) (at : Place) (rows : List Row) → FirstOf rows → AllByRecursion IsRow rows
    → forms_in rows ≡ forms_of setup
    → Leads (state_at setup at) (rows_text rows)
    (count setup (entries_at at) (known_at at) (groups_at at) (length rows) (rows_text rows))
unfolding FirstOf rows_text row_text
leads_account_rows setup at [] first h forms = absurd first
leads_account_rows setup at (row ∷ rows) first h forms =
    let stands : At setup [] row rows = record { forms = forms } in
    leads_then (state_at setup at) (count setup (entries_at at) (known_at at) (groups_at at) 1 (rows_text (row ∷ [])))
    (count setup (entries_at at) (known_at at) (groups_at at) (length (row ∷ rows)) (rows_text (row ∷ rows)))
    (row_text row) (rows_text rows) (leads_first setup at row rows first h.0 stands)
    (leads_rows setup (entries_at at) (known_at at) (groups_at at) (row ∷ []) rows (rest_next setup [] row rows stands)
    h.1)

all_inputs : (index : ℕ) (xs : List InputNumbers) → AllByRecursion (IsInputBelow (2 ^ 64)) xs
    → AllByRecursion IsRow (input_rows index xs)
unfolding input_rows
all_inputs index [] h = tt
all_inputs index (x ∷ xs) h = (input_is index x h.0, all_inputs (index + 1) xs h.1)

all_groups : (index : ℕ) (xs : List InputNumbers) → AllByRecursion (IsInputBelow (2 ^ 64)) xs
    → AllByRecursion IsRow (groups_rows index xs)
unfolding groups_rows
all_groups index [] h = tt
all_groups index (x ∷ xs) h =
    elim x.tracked as (λ t. AllByRecursion IsRow (cond t (groups_row index x ∷ groups_rows (index + 1) xs)
    (groups_rows (index + 1) xs)))
    [ true ↦ (groups_is index x h.0, all_groups (index + 1) xs h.1) | false ↦ all_groups (index + 1) xs h.1 ]

all_outputs : (index : ℕ) (xs : List OutputNumbers) → AllByRecursion (IsOutputBelow (2 ^ 64)) xs
    → AllByRecursion IsRow (output_rows index xs)
unfolding output_rows
all_outputs index [] h = tt
all_outputs index (x ∷ xs) h = (output_is index x h.0, all_outputs (index + 1) xs h.1)

all_rows : (setup : JournalSetup) (account : List ℕ) (h : IsAccount setup account)
    → AllByRecursion IsRow (rows_of h.numbers)
unfolding rows_of
all_rows setup account h =
    all_append IsRow (input_rows 0 h.numbers.inputs) _ (all_inputs 0 h.numbers.inputs h.inputs_below)
    (all_append IsRow (groups_rows 0 h.numbers.inputs) _ (all_groups 0 h.numbers.inputs h.inputs_below) (
      items_is h.numbers.made h.numbers.removed h.numbers.routed h.made h.removed h.routed,
      all_outputs 0 h.numbers.outputs h.outputs_below,
    ))

-- the account leads to its end
pub leads_account : (setup : JournalSetup) (at : Place) (account : List ℕ) → IsAccount setup account
    → Leads (state_at setup at) account
    (count setup (entries_at at) (known_at at) (groups_at at) (length (forms_of setup)) account)
unfolding forms_in
leads_account setup at account h =
    let rows = rows_of h.numbers in
    let text : account ≡ rows_text rows = h.is ∙ account_is h.numbers in
    let forms = forms_are setup h.numbers h.inputs h.outputs in
    let long : length rows ≡ length (forms_of setup) =
    sym (length-map rows (λ (row : Row). row.form)) ∙ ap length forms in
    subst (λ (n : ℕ). Leads (state_at setup at) account
    (count setup (entries_at at) (known_at at) (groups_at at) n account)) long
    (subst (λ (t : List ℕ). Leads (state_at setup at) t
    (count setup (entries_at at) (known_at at) (groups_at at) (length rows) t)) (sym text)
    (leads_account_rows setup at rows (rows_first h.numbers) (all_rows setup account h) forms))

-- ---- the end

-- all was read
unfoldable pub over : JournalSetup → List Entry → List Content → List (ℕ × ℕ) → List ℕ → State
over setup entries known groups account =
    record (count setup entries known groups (length (forms_of setup)) account) { stage = Over }

end_again : (entries : ℕ) → end_in entries (codes "end" ∷ decimal entries ∷ []) ≡ Some tt
unfolding end_in
end_again entries = rw (numbered_again (codes "end") entries []) refl

end_made : (setup : JournalSetup) (entries : List Entry) (known : List Content) (groups : List (ℕ × ℕ))
    (account line : List ℕ) → words_of line ≡ codes "end" ∷ decimal (length entries) ∷ []
    → after (count setup entries known groups (length (forms_of setup)) account) line
    ≡ Some (over setup entries known groups account)
unfolding after counting ending count over
end_made setup entries known groups account line words =
    let all : (length (forms_of setup) == length (forms_of setup)) ≡ true = eq-eqb _ _ refl in
    rw (all, words, end_again (length entries)) refl

pub leads_end : (setup : JournalSetup) (entries : List Entry) (known : List Content) (groups : List (ℕ × ℕ))
    (account : List ℕ)
    → Leads (count setup entries known groups (length (forms_of setup)) account)
    (codes "end " ++ decimal (length entries) ++ codes "\n") (over setup entries known groups account)
unfolding count
leads_end setup entries known groups account =
    let line = join_with_byte space (codes "end" ∷ decimal (length entries) ∷ []) in
    let words = line_of (codes "end") (decimal (length entries) ∷ [])
    (literal (codes "end") refl refl, (index_quiet (length entries), tt)) in
    let text : codes "end " ++ decimal (length entries) ++ codes "\n" ≡ line ++ newline ∷ [] = simp append_assoc in
    subst (λ (t : List ℕ). Leads (count setup entries known groups (length (forms_of setup)) account) t
    (over setup entries known groups account)) (sym text)
    (leads_line (count setup entries known groups (length (forms_of setup)) account)
    (over setup entries known groups account) line words.none refl
    (end_made setup entries known groups account line words.is))
