-- The text of a journal, as the code writes it.
use Rattle.std.proofs.Common.{◌≡◌, ℕ, zero, suc, ◌+◌, ◌<◌, ◌≤◌, Bool, true, false, cond, List, [], ◌∷◌, ◌++◌, length}
use Rattle.std.proofs.Common.{get_or}
use Rattle.std.proofs.Common.{take, take_all, Option, Some, None, Result, Ok, Err, refl, sym, ap, ◌∙◌, arith}
use Rattle.std.proofs.Common.{append_assoc, rules}
use Rattle.std.specs.Prelude.{OnOk, OnErr, IsTrue, codes}
use Rattle.std.specs.Fmt.{decimal}
use Rattle.std.specs.List.{AllByRecursion}
use Rattle.std.proofs.lemmas.List.{append-nil, take_more}
use Rattle.text_parts.specs.Adds.{Adds}
use Rattle.text_parts.proofs.Adding.{extends_after}
use Rattle.metric.specs.declared.metric.Content.{Content}
use Rattle.account.specs.declared.entry.Verdict.{Verdict}
use Rattle.account.specs.declared.entry.Report.{Report}
use Rattle.account.specs.declared.entry.Entry.{Entry}
use Rattle.account.specs.declared.entry.Entry.TheVariants.{Route}
use Rattle.account.specs.Items.{named_by, items}
use Rattle.account.proofs.ItemLemmas.{items-push}
use Rattle.journal_text.specs.JournalText.{are_equal, beside_text, whole_text, routed_text, head_text, entry_text}
use Rattle.journal_text.specs.JournalText.{report_lines}
use Rattle.journal_text.specs.JournalText.{item_of, entries_text}
use Rattle.journal_text.proofs.JournalLemmas.{equal_are_same, text_grows}

pub all_at : {A : Type 0} (P : A → Type 0) (xs : List A) (i : ℕ) (d : A) → AllByRecursion P xs → i < length xs
    → P (get_or xs i d)
all_at P [] i d h lt = absurd (omega (arith, lt))
all_at P (x ∷ xs) zero d h lt = h.0
all_at P (x ∷ xs) (suc i) d h lt = all_at P xs i d h.1 (omega (arith, lt))

-- one entry more
pub entries_more : (es : List Entry) (i : ℕ) (e : Entry) → i < length es → e ≡ get_or es i e
    → entries_text [] (take (i + 1) es) ≡ entries_text [] (take i es) ++ entry_text (item_of (items (take i es)) e) e
entries_more es i e lt is =
    ap (entries_text []) (take_more es i e lt)
    ∙ ap (λ (x : Entry). entries_text [] (take i es ++ x ∷ [])) (sym is)
    ∙ text_grows (take i es) e

pub items_more : (es : List Entry) (i : ℕ) (e : Entry) → i < length es → e ≡ get_or es i e
    → items (take (i + 1) es) ≡ items (take i es) ++ named_by e
items_more es i e lt is =
    ap items (take_more es i e lt)
    ∙ ap (λ (x : Entry). items (take i es ++ x ∷ [])) (sym is)
    ∙ items-push (take i es) e

pub no_items : [] ≡ items []
unfolding items
no_items = refl

pub no_text : (old : List ℕ) → old ≡ old ++ entries_text [] []
unfolding entries_text
no_text old = sym (append-nil old)

pub text_more : (es : List Entry) (i : ℕ) (e : Entry) (old mid new : List ℕ) (known : List Content) → i < length es
    → e ≡ get_or es i e → known ≡ items (take i es) → mid ≡ old ++ entries_text [] (take i es)
    → new ≡ mid ++ entry_text (item_of known e) e → new ≡ old ++ entries_text [] (take (i + 1) es)
text_more es i e old mid new known lt is knows before more =
    more
    ∙ ap (λ (ms : List Content). mid ++ entry_text (item_of ms e) e) knows
    ∙ ap (λ (t : List ℕ). t ++ entry_text (item_of (items (take i es)) e) e) before
    ∙ append_assoc old (entries_text [] (take i es)) (entry_text (item_of (items (take i es)) e) e)
    ∙ ap (λ (t : List ℕ). old ++ t) (sym (entries_more es i e lt is))

-- what a call wrote, or left as it was
pub written_adds : {E : Type 0} (result : Result (Unit {0}) E) (old new a b : List ℕ) → a ≡ b
    → OnOk result (new ≡ old ++ a) → OnErr result (new ≡ old) → Adds result old new b
written_adds (Ok done) old new a b same ok err = ok ∙ ap (λ (t : List ℕ). old ++ t) same
written_adds (Err fault) old new a b same ok err =
    ap (λ (t : List ℕ). take (length old) t) err ∙ take_all (length old) old (omega arith)

true_is : (b : Bool) → b ≡ true → IsTrue b
true_is true e = search rules
true_is false e = absurd cc

-- beside a metric that differs from it a whole is written out
pub whole_alone : (other whole : Content) → (whole ≡ other → ⊥) → whole_text (other ∷ []) whole ≡ whole_text [] whole
unfolding whole_text beside_text
whole_alone other whole apart = at (are_equal whole other) refl
  where
    at : (t : Bool) → are_equal whole other ≡ t → beside_text other whole ≡ whole_text [] whole
    at true e = absurd (apart ((equal_are_same whole other).0 (true_is (are_equal whole other) e)))
    at false e = rw e refl

pub entry_alone : (other : Content) (item : ℕ) (whole : Content) (verdict : Verdict) (aggs outs : List (Option Content))
    (reports : List Report) → (whole ≡ other → ⊥)
    → entry_text (other ∷ []) (Route item (Some whole) verdict aggs outs reports)
    ≡ entry_text [] (Route item (Some whole) verdict aggs outs reports)
unfolding entry_text head_text routed_text
entry_alone other item whole verdict aggs outs reports apart = rw (whole_alone other whole apart) refl

-- a removed item's Route
pub removed_alone : (e : Entry) (item : ℕ) (verdict : Verdict) (aggs outs : List (Option Content))
    (reports : List Report)
    → e ≡ Route item None verdict aggs outs reports
    → entry_text [] e ≡ (codes "route " ++ decimal item) ++ (codes " - removed\n" ++ report_lines reports)
unfolding entry_text head_text routed_text
removed_alone e item verdict aggs outs reports is =
    let text : entry_text [] (Route item None verdict aggs outs reports)
    ≡ (codes "route " ++ decimal item) ++ (codes " - removed\n" ++ report_lines reports) = simp append_assoc in
    ap (entry_text []) is ∙ text

-- three texts, the last of which a call wrote, or left what was there
pub three_add : {E : Type 0} (result : Result (Unit {0}) E) (old one two new a b d whole : List ℕ) → one ≡ old ++ a
    → two ≡ one ++ b → OnOk result (new ≡ two ++ d) → OnErr result (new ≡ two) → whole ≡ a ++ (b ++ d)
    → Adds result old new whole
three_add (Ok done) old one two new a b d whole first second ok err is =
    ok
    ∙ ap (λ (t : List ℕ). t ++ d) (second ∙ ap (λ (t : List ℕ). t ++ b) first)
    ∙ append_assoc (old ++ a) b d
    ∙ append_assoc old a (b ++ d)
    ∙ ap (λ (t : List ℕ). old ++ t) (sym is)
three_add (Err fault) old one two new a b d whole first second ok err is =
    extends_after old two new (a ++ b) (second ∙ ap (λ (t : List ℕ). t ++ b) first ∙ append_assoc old a b)
    (ap (λ (t : List ℕ). take (length two) t) err ∙ take_all (length two) two (omega arith))
