-- The text of an account, by what it was read as.
use Rattle.std.proofs.Common.{◌≡◌, ℕ, suc, ◌+◌, ◌<◌, ◌^◌, Bool, true, false, List, [], ◌∷◌, ◌++◌, length, Option, Some}
use Rattle.std.proofs.Common.{None}
use Rattle.std.proofs.Common.{refl, sym, ap, subst, ◌∙◌, arith, append_assoc}
use Rattle.std.specs.Prelude.{map, is_some, codes}
use Rattle.std.specs.Fmt.{decimal}
use Rattle.std.specs.List.{AllByRecursion, join_with_byte}
use Rattle.std.proofs.lemmas.List.{append-nil}
use Rattle.text_parts.specs.Bytes.{space, newline}
use Rattle.account.specs.AccountText.{input_line, tracked_groups, items_line, output_line, numbered}
use Rattle.account.specs.AccountText.{account_text}
use Rattle.account.specs.Numbers.{IsInputBelow, IsOutputBelow}
use Rattle.account.specs.declared.numbers.InputNumbers.{InputNumbers}
use Rattle.account.specs.declared.numbers.OutputNumbers.{OutputNumbers}
use Rattle.journal_text.specs.declared.setup.JournalSetup.{JournalSetup}
use Rattle.journal_reader.specs.declared.account_lines.Form.{Form}
use Rattle.journal_reader.specs.declared.account_lines.Form.TheVariants.{Items}
use Rattle.journal_reader.specs.Words.{◌>>=◌, Parts, taken, behind, at_end, words_of, number, either_of}
use Rattle.journal_reader.specs.SetupReading.{numbered_in}
use Rattle.journal_reader.specs.AccountReading.{behind_count, behind_counts, input_labels, groups_labels, items_labels}
use Rattle.journal_reader.specs.AccountReading.{output_labels, Nothing, ended_counts, line_counts, items_counts}
use Rattle.journal_reader.specs.AccountReading.{counts_in, input_forms, groups_forms, output_forms, forms_of}
use Rattle.journal_reader.specs.Spellable.{IsAccount}
use Rattle.journal_reader.proofs.WordLemmas.{bind_some, same_some}
use Rattle.journal_reader.proofs.AccountAgain.{counts_words, ending_word, input_row, groups_row, items_row, output_row}
use Rattle.journal_reader.proofs.AccountAgain.{row_text, row_line, input_text, groups_text, items_text, output_text}
use Rattle.journal_reader.proofs.WordsBack.{more, line_is, behind_some, numbered_some, took_number, took_either}

-- ---- words

-- a number below 2^64
record Count : Type 0 where
  number : ℕ
  fits : number < 2 ^ 64

-- a label and its number
record HasCount (label : List ℕ) (words rest : Parts) : Type 0 where
  count : Count
  is : words ≡ label ∷ decimal count.number ∷ rest

count_back : (label : List ℕ) (words rest : Parts) → behind_count label words ≡ Some rest → HasCount label words rest
unfolding behind_count
count_back label words rest e =
    let b = bind_some (behind label words) (λ (ws : Parts). taken number ws >>= λ count. Some count.1) rest e in
    let t = bind_some (taken number b.0) (λ (count : ℕ × Parts). Some count.1) rest b.2 in
    let n = took_number b.0 t.0 t.1 in
    record {
      count = record { number = t.0.0; fits = n.1 };
      is =
          behind_some label words b.0 b.1
          ∙ more label b.0 (decimal t.0.0 ∷ rest) (n.0 ∙ more (decimal t.0.0) t.0.1 rest (same_some t.0.1 rest t.2));
    }

-- a number for each of these labels
abbrev CountsOf : List (List ℕ) → Type 0
CountsOf [] = Unit {0}
CountsOf (label ∷ labels) = Count × CountsOf labels

-- the labels with these numbers
abbrev labelled : (labels : List (List ℕ)) → CountsOf labels → List (List ℕ × ℕ)
labelled [] counts = []
labelled (label ∷ labels) counts = (label, counts.0.number) ∷ labelled labels counts.1

record HasCounts (labels : List (List ℕ)) (words rest : Parts) : Type 0 where
  counts : CountsOf labels
  is : words ≡ counts_words (labelled labels counts) rest

counts_back : (labels : List (List ℕ)) (words rest : Parts) → behind_counts labels words ≡ Some rest
    → HasCounts labels words rest
unfolding behind_counts
counts_back [] words rest e = record { counts = tt; is = same_some words rest e }
counts_back (label ∷ labels) words rest e =
    let b = bind_some (behind_count label words) (λ (ws : Parts). behind_counts labels ws) rest e in
    let first = count_back label words b.0 b.1 in
    let others = counts_back labels b.0 rest b.2 in
    record {
      counts = (first.count, others.counts);
      is = first.is ∙ ap (λ (ws : Parts). label ∷ decimal first.count.number ∷ ws) others.is;
    }

end_some : (x y : Nothing) (words : Parts) → at_end x words ≡ Some y → words ≡ []
end_some x y [] e = refl
end_some x y (word ∷ words) e = absurd cc

-- where nothing stands behind them
only_counts_back : (labels : List (List ℕ)) (words : Parts) (done : Nothing)
    → (behind_counts labels words >>= λ ws. at_end tt ws) ≡ Some done → HasCounts labels words []
only_counts_back labels words done e =
    let c = bind_some (behind_counts labels words) (λ (ws : Parts). at_end tt ws) done e in
    counts_back labels words [] (c.1 ∙ ap Some (end_some tt done c.0 c.2))

-- ---- lines

-- the line of an input, with its numbers but for those of groups
record InputLine (index : ℕ) (line : List ℕ) : Type 0 where
  counts : CountsOf input_labels
  has_ended : Bool
  is : line ≡ join_with_byte space (codes "input" ∷ decimal index
      ∷ counts_words (labelled input_labels counts) (ending_word has_ended ∷ []))

input_back : (index : ℕ) (line : List ℕ) (done : Nothing)
    → ended_counts (codes "input") index input_labels (words_of line) ≡ Some done → InputLine index line
unfolding ended_counts ending_word
input_back index line done e =
    let ending_in = taken (either_of (codes "ended") (codes "unread")) in
    let n = bind_some (numbered_in (codes "input") index (words_of line))
    (λ (ws : Parts). behind_counts input_labels ws >>= λ ws. ending_in ws >>= λ x. at_end tt x.1) done e in
    let c = bind_some (behind_counts input_labels n.0) (λ (ws : Parts). ending_in ws >>= λ x. at_end tt x.1) done n.2 in
    let t = bind_some (ending_in c.0) (λ (x : Bool × Parts). at_end tt x.1) done c.2 in
    let last : c.0 ≡ ending_word t.0.0 ∷ [] =
    took_either (codes "ended") (codes "unread") c.0 t.0 t.1
    ∙ more (ending_word t.0.0) t.0.1 [] (end_some tt done t.0.1 t.2) in
    let h = counts_back input_labels n.0 (ending_word t.0.0 ∷ []) (c.1 ∙ ap Some last) in
    record {
      counts = h.counts;
      has_ended = t.0.0;
      is = line_is line _ (
          numbered_some (codes "input") index (words_of line) n.0 n.1
          ∙ ap (λ (ws : Parts). codes "input" ∷ decimal index ∷ ws) h.is);
    }

-- a line that only counts
record CountsLine (name : List ℕ) (index : ℕ) (labels : List (List ℕ)) (line : List ℕ) : Type 0 where
  counts : CountsOf labels
  is : line ≡ join_with_byte space (name ∷ decimal index ∷ counts_words (labelled labels counts) [])

line_back : (name : List ℕ) (index : ℕ) (labels : List (List ℕ)) (line : List ℕ) (done : Nothing)
    → line_counts name index labels (words_of line) ≡ Some done → CountsLine name index labels line
unfolding line_counts
line_back name index labels line done e =
    let n = bind_some (numbered_in name index (words_of line))
    (λ (ws : Parts). behind_counts labels ws >>= λ ws. at_end tt ws) done e in
    let h = only_counts_back labels n.0 done n.2 in
    record {
      counts = h.counts;
      is = line_is line _ (
          numbered_some name index (words_of line) n.0 n.1 ∙ ap (λ (ws : Parts). name ∷ decimal index ∷ ws) h.is);
    }

record ItemsLine (line : List ℕ) : Type 0 where
  counts : CountsOf items_labels
  is : line ≡ join_with_byte space (codes "items" ∷ counts_words (labelled items_labels counts) [])

items_back : (line : List ℕ) (done : Nothing) → items_counts (words_of line) ≡ Some done → ItemsLine line
unfolding items_counts
items_back line done e =
    let n = bind_some (behind (codes "items") (words_of line))
    (λ (ws : Parts). behind_counts items_labels ws >>= λ ws. at_end tt ws) done e in
    let h = only_counts_back items_labels n.0 done n.2 in
    record {
      counts = h.counts;
      is = line_is line _ (behind_some (codes "items") (words_of line) n.0 n.1 ∙ more (codes "items") n.0 _ h.is);
    }

-- ---- one line after the other

pub record IsCounts (form : Form) (line : List ℕ) : Type 0 where
  pub done : Nothing
  pub is : counts_in form (words_of line) ≡ Some done

-- the text is a line for each of these forms
pub record OneLine (form : Form) (rest text : List ℕ) : Type 0 where
  pub line : List ℕ
  pub counts : IsCounts form line
  pub is : text ≡ (line ++ newline ∷ []) ++ rest

unfoldable pub AreLines : List Form → List ℕ → Type 0
AreLines [] text = text ≡ []
AreLines (form ∷ forms) text = (rest : List ℕ) × OneLine form rest text × AreLines forms rest

pub lines_push : (forms : List Form) (text : List ℕ) (form : Form) (line : List ℕ) → AreLines forms text
    → IsCounts form line → AreLines (forms ++ form ∷ []) (text ++ (line ++ newline ∷ []))
unfolding AreLines
lines_push [] text form line h c = (
  [],
  record {
    line = line;
    counts = c;
    is = ap (λ (t : List ℕ). t ++ (line ++ newline ∷ [])) h ∙ sym (append-nil (line ++ newline ∷ []));
  },
  refl,
)
lines_push (first ∷ forms) text form line h c = (
  h.0 ++ (line ++ newline ∷ []),
  record {
    line = h.1.line;
    counts = h.1.counts;
    is =
        ap (λ (t : List ℕ). t ++ (line ++ newline ∷ [])) h.1.is
        ∙ append_assoc (h.1.line ++ newline ∷ []) h.0 (line ++ newline ∷ []);
  },
  lines_push forms h.0 form line h.2 c,
)

-- the lines of two lists of forms
record TwoTexts (first second : List Form) (text : List ℕ) : Type 0 where
  front : List ℕ
  back : List ℕ
  front_lines : AreLines first front
  back_lines : AreLines second back
  is : text ≡ front ++ back

two_texts : (first second : List Form) (text : List ℕ) → AreLines (first ++ second) text → TwoTexts first second text
unfolding AreLines
two_texts [] second text h =
    record { front = []; back = text; front_lines = refl; back_lines = h; is = refl }
two_texts (form ∷ first) second text h =
    let others = two_texts first second h.0 h.2 in
    record {
      front = (h.1.line ++ newline ∷ []) ++ others.front;
      back = others.back;
      front_lines = (others.front, record { line = h.1.line; counts = h.1.counts; is = refl }, others.front_lines);
      back_lines = others.back_lines;
      is =
          h.1.is
          ∙ ap (λ (t : List ℕ). (h.1.line ++ newline ∷ []) ++ t) others.is
          ∙ sym (append_assoc (h.1.line ++ newline ∷ []) others.front others.back);
    }

-- ---- the numbers of the lines

record InputsRead (index : ℕ) (inputs : List (Option ℕ)) (lines groups : List ℕ) : Type 0 where
  numbers : List InputNumbers
  tracked : map (λ (x : InputNumbers). x.tracked) numbers ≡ map is_some inputs
  below : AllByRecursion (IsInputBelow (2 ^ 64)) numbers
  lines_are : lines ≡ numbered input_line index numbers
  groups_are : groups ≡ numbered tracked_groups index numbers

-- the numbers of an input that isn't tracked
untracked : CountsOf input_labels → Bool → InputNumbers
untracked counts has_ended = record {
  tracked = false;
  pieces = counts.0.number;
  refused = counts.1.0.number;
  passed = counts.1.1.0.number;
  filtered = counts.1.1.1.0.number;
  gathered = counts.1.1.1.1.0.number;
  has_ended = has_ended;
  delivered = 0;
  rejected = 0;
  undelivered = 0;
}

untracked_below : (counts : CountsOf input_labels) (has_ended : Bool)
    → IsInputBelow (2 ^ 64) (untracked counts has_ended)
unfolding untracked
untracked_below counts has_ended = record {
  pieces = counts.0.fits;
  refused = counts.1.0.fits;
  passed = counts.1.1.0.fits;
  filtered = counts.1.1.1.0.fits;
  gathered = counts.1.1.1.1.0.fits;
  delivered = omega arith;
  rejected = omega arith;
  undelivered = omega arith;
}

-- those of one that is
with_groups : InputNumbers → CountsOf groups_labels → InputNumbers
with_groups x groups =
    record x {
      tracked = true;
      delivered = groups.0.number;
      rejected = groups.1.0.number;
      undelivered = groups.1.1.0.number;
    }

groups_below : (x : InputNumbers) (groups : CountsOf groups_labels) → IsInputBelow (2 ^ 64) x
    → IsInputBelow (2 ^ 64) (with_groups x groups)
unfolding with_groups
groups_below x groups h = record {
  pieces = h.pieces;
  refused = h.refused;
  passed = h.passed;
  filtered = h.filtered;
  gathered = h.gathered;
  delivered = groups.0.fits;
  rejected = groups.1.0.fits;
  undelivered = groups.1.1.0.fits;
}

-- a line, and what stands behind it
line_first : {form : Form} {rest text line first others : List ℕ} (h : OneLine form rest text) → h.line ≡ line
    → first ≡ line ++ newline ∷ [] → rest ≡ others → text ≡ first ++ others
line_first {form} {rest} {text} {line} {first} {others} h is first_is others_are =
    let same : h.line ++ newline ∷ [] ≡ first = ap (λ (t : List ℕ). t ++ newline ∷ []) is ∙ sym first_is in
    h.is ∙ ap (λ (t : List ℕ). t ++ rest) same ∙ ap (λ (t : List ℕ). first ++ t) others_are

inputs_read : (index : ℕ) (inputs : List (Option ℕ)) (lines groups : List ℕ) → AreLines (input_forms index inputs) lines
    → AreLines (groups_forms index inputs) groups → InputsRead index inputs lines groups
unfolding AreLines numbered tracked_groups untracked with_groups row_text row_line input_row groups_row
inputs_read index [] lines groups h k =
    record { numbers = []; tracked = refl; below = tt; lines_are = h; groups_are = k }
inputs_read index (None ∷ inputs) lines groups h k =
    let l = input_back index h.1.line h.1.counts.done h.1.counts.is in
    let x = untracked l.counts l.has_ended in
    let others = inputs_read (index + 1) inputs h.0 groups h.2 k in
    record {
      numbers = x ∷ others.numbers;
      tracked = ap (λ (bs : List Bool). false ∷ bs) others.tracked;
      below = (untracked_below l.counts l.has_ended, others.below);
      lines_are = line_first h.1 l.is (input_text index x) others.lines_are;
      groups_are = others.groups_are;
    }
inputs_read index (Some most ∷ inputs) lines groups h k =
    let l = input_back index h.1.line h.1.counts.done h.1.counts.is in
    let g = line_back (codes "groups") index groups_labels k.1.line k.1.counts.done k.1.counts.is in
    let plain = untracked l.counts l.has_ended in
    let x = with_groups plain g.counts in
    let others = inputs_read (index + 1) inputs h.0 k.0 h.2 k.2 in
    record {
      numbers = x ∷ others.numbers;
      tracked = ap (λ (bs : List Bool). true ∷ bs) others.tracked;
      below = (groups_below plain g.counts (untracked_below l.counts l.has_ended), others.below);
      lines_are = line_first h.1 l.is (input_text index x) others.lines_are;
      groups_are = line_first k.1 g.is (groups_text index x) others.groups_are;
    }

output_of : CountsOf output_labels → OutputNumbers
output_of counts = record {
  filtered = counts.0.number;
  late = counts.1.0.number;
  consumed = counts.1.1.0.number;
  written = counts.1.1.1.0.number;
  buffered = counts.1.1.1.1.0.number;
  dropped = counts.1.1.1.1.1.0.number;
}

output_below : (counts : CountsOf output_labels) → IsOutputBelow (2 ^ 64) (output_of counts)
unfolding output_of
output_below counts = record {
  filtered = counts.0.fits;
  late = counts.1.0.fits;
  consumed = counts.1.1.0.fits;
  written = counts.1.1.1.0.fits;
  buffered = counts.1.1.1.1.0.fits;
  dropped = counts.1.1.1.1.1.0.fits;
}

record OutputsRead (index : ℕ) (outputs : List (ℕ × ℕ)) (lines : List ℕ) : Type 0 where
  numbers : List OutputNumbers
  count : length numbers ≡ length outputs
  below : AllByRecursion (IsOutputBelow (2 ^ 64)) numbers
  is : lines ≡ numbered output_line index numbers

outputs_read : (index : ℕ) (outputs : List (ℕ × ℕ)) (lines : List ℕ) → AreLines (output_forms index outputs) lines
    → OutputsRead index outputs lines
unfolding AreLines numbered row_text row_line output_row output_of
outputs_read index [] lines h = record { numbers = []; count = refl; below = tt; is = h }
outputs_read index (sizes ∷ outputs) lines h =
    let o = line_back (codes "output") index output_labels h.1.line h.1.counts.done h.1.counts.is in
    let x = output_of o.counts in
    let others = outputs_read (index + 1) outputs h.0 h.2 in
    record {
      numbers = x ∷ others.numbers;
      count = ap (λ (n : ℕ). suc n) others.count;
      below = (output_below o.counts, others.below);
      is = line_first h.1 o.is (output_text index x) others.is;
    }

four : (a b d e : List ℕ) → a ++ (b ++ (d ++ e)) ≡ a ++ b ++ d ++ e
four a b d e = sym (append_assoc (a ++ b) d e ∙ append_assoc a b (d ++ e))

-- the account that was read is one of the set-up
pub account_back : (setup : JournalSetup) (account : List ℕ) → AreLines (forms_of setup) account
    → IsAccount setup account
unfolding forms_of account_text AreLines row_text row_line items_row
account_back setup account h =
    let lines = subst (λ (forms : List Form). AreLines forms account) (append_assoc (input_forms 0 setup.inputs)
    (groups_forms 0 setup.inputs) (Items ∷ output_forms 0 setup.outputs)) h in
    let inputs = two_texts (input_forms 0 setup.inputs) (groups_forms 0 setup.inputs ++ Items
    ∷ output_forms 0 setup.outputs) account lines in
    let groups = two_texts (groups_forms 0 setup.inputs) (Items ∷ output_forms 0 setup.outputs) inputs.back
    inputs.back_lines in
    let read = inputs_read 0 setup.inputs inputs.front groups.front inputs.front_lines groups.front_lines in
    let last = groups.back_lines in
    let items = items_back last.1.line last.1.counts.done last.1.counts.is in
    let outputs = outputs_read 0 setup.outputs last.0 last.2 in
    let made = items.counts.0 in
    let removed = items.counts.1.0 in
    let routed = items.counts.1.1.0 in
    let behind : groups.back ≡ items_line made.number removed.number routed.number
    ++ numbered output_line 0 outputs.numbers =
    line_first last.1 items.is (items_text made.number removed.number routed.number) outputs.is in
    record {
      numbers = record {
        inputs = read.numbers;
        made = made.number;
        removed = removed.number;
        routed = routed.number;
        outputs = outputs.numbers;
      };
      inputs = read.tracked;
      outputs = outputs.count;
      inputs_below = read.below;
      outputs_below = outputs.below;
      made = made.fits;
      removed = removed.fits;
      routed = routed.fits;
      is =
          inputs.is
          ∙ ap (λ (t : List ℕ). t ++ inputs.back) read.lines_are
          ∙ ap (λ (t : List ℕ). numbered input_line 0 read.numbers ++ t) (groups.is
          ∙ ap (λ (t : List ℕ). t ++ groups.back) read.groups_are
          ∙ ap (λ (t : List ℕ). numbered tracked_groups 0 read.numbers ++ t) behind)
          ∙ four (numbered input_line 0 read.numbers) (numbered tracked_groups 0 read.numbers)
          (items_line made.number removed.number routed.number) (numbered output_line 0 outputs.numbers);
    }
