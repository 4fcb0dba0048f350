-- The text of a journal, as entries and items come to it.
use Rattle.std.proofs.Common.{◌≡◌, ℕ, List, [], ◌∷◌, ◌++◌, refl, sym, ◌∙◌, ap, append_assoc}
use Rattle.std.proofs.lemmas.List.{append-nil}
use Rattle.metric.specs.declared.metric.Content.{Content}
use Rattle.metric.proofs.SameLemmas.{same}
use Rattle.account.specs.declared.entry.Entry.{Entry}
use Rattle.account.specs.Items.{named_by, items}
use Rattle.journal_text.specs.JournalText.{are_equal, entry_text, item_of, entries_text}
use Rattle.journal_text.specs.JournalText.{TextGrows, FrontsStay, EqualAreSame}

pub equal_are_same : EqualAreSame
equal_are_same first second = same first second (are_equal first second) refl

-- the entries of a front, and those behind it, which know what the front named
pub entries_text-append : (known : List Content) (es more : List Entry) →
    entries_text known (es ++ more) ≡ entries_text known es ++ entries_text (known ++ items es) more
unfolding entries_text items
entries_text-append known [] more =
    ap (λ (all : List Content). entries_text all more) (sym (append-nil known))
entries_text-append known (x ∷ es) more =
    let first : List ℕ = entry_text (item_of known x) x in
    ap (λ (t : List ℕ). first ++ t) (entries_text-append (known ++ named_by x) es more)
    ∙ ap (λ (all : List Content). first ++ (entries_text (known ++ named_by x) es ++ entries_text all more))
    (append_assoc known (named_by x) (items es))
    ∙ sym (append_assoc first (entries_text (known ++ named_by x) es)
    (entries_text (known ++ (named_by x ++ items es)) more))

pub fronts_stay : FrontsStay
fronts_stay front rest = entries_text-append [] front rest

one_entry : (known : List Content) (e : Entry) → entries_text known (e ∷ []) ≡ entry_text (item_of known e) e
unfolding entries_text
one_entry known e = append-nil (entry_text (item_of known e) e)

pub text_grows : TextGrows
text_grows es e =
    fronts_stay es (e ∷ []) ∙ ap (λ (t : List ℕ). entries_text [] es ++ t) (one_entry (items es) e)
