-- The numbers of inputs with reports are those of a journal with the entry that has these.
use Rattle.std.proofs.Common.{◌≡◌, ◌<◌, ℕ, ◌==◌, Bool, false, List, [], ◌∷◌, ◌++◌, length, refl, sym, ap}
use Rattle.std.proofs.Common.{◌+◌, ◌∙◌, subst, inl, inr, arith, get_or, set, if◌then◌else◌}
use Rattle.std.proofs.lemmas.Bool.{cases_eq}
use Rattle.std.proofs.lemmas.List.{get_or-set_same, get_or-set_other, ext_get_or, length-set, set-set}
use Rattle.account.specs.Setup.{Setup}
use Rattle.account.specs.Says.{reports_of}
use Rattle.account.specs.Numbers.{Numbers, input_numbers, with_input, settled_more, started_more, unread_input}
use Rattle.account.specs.declared.numbers.InputNumbers.{InputNumbers}
use Rattle.account.specs.declared.entry.Entry.{Entry}
use Rattle.account.specs.declared.entry.Report.{Report}
use Rattle.pipeline_core.specs.Steps.{with_reports}
use Rattle.pipeline_core.specs.Totals.{made_by, removed_by, reported_with, routed_by, said_with, totals}
use Rattle.pipeline_core.proofs.OutputPush.{totals-push}
use Rattle.pipeline_core.proofs.Keeping.{differs, reported_length, reported_rest, same_number}
use Rattle.pipeline_core.proofs.TotalPush.{inputs-push, length-inputs}

-- an input's numbers were counted, and then a group of it
pub counted_started : (a mid new : Numbers) (i : ℕ) (x : InputNumbers) → i < length a.inputs → mid ≡ with_input a i x →
    new ≡ with_input mid i (started_more (input_numbers mid i)) → new ≡ with_input a i (started_more x)
counted_started a mid new i x b m n =
    n ∙ ap (λ (y : Numbers). with_input y i (started_more (input_numbers y i))) m
    ∙ ap (λ (y : InputNumbers). with_input (with_input a i x) i (started_more y))
    (get_or-set_same a.inputs i x (unread_input false) b)
    ∙ ap (λ (xs : List InputNumbers). record a { inputs = xs }) (set-set a.inputs i x (started_more x))

-- an input's numbers with one report
abbrev with_one : ℕ → InputNumbers → Report → InputNumbers
with_one k x r = if r.input == k then settled_more x r.delivered else x

one_at : (n : Numbers) (r : Report) (k : ℕ) → k < length n.inputs →
    get_or (set n.inputs r.input (settled_more (input_numbers n r.input) r.delivered)) k (unread_input false)
    ≡ with_one k (get_or n.inputs k (unread_input false)) r
one_at n r k b = elim (cases_eq r.input k) [
  | inl e ↦ subst (λ (j : ℕ). get_or (set n.inputs r.input (settled_more (input_numbers n r.input) r.delivered)) j
      (unread_input false) ≡ with_one j (get_or n.inputs j (unread_input false)) r) e
      (get_or-set_same n.inputs r.input (settled_more (input_numbers n r.input) r.delivered) (unread_input false)
      (omega (arith, b, e))
      ∙ ap (λ (t : Bool). if t then settled_more (input_numbers n r.input) r.delivered else input_numbers n r.input)
      (sym (same_number r.input)))
  | inr d ↦ get_or-set_other n.inputs r.input k (settled_more (input_numbers n r.input) r.delivered)
      (unread_input false) (λ e. d (sym e))
      ∙ ap (λ (t : Bool). if t then settled_more (input_numbers n k) r.delivered else input_numbers n k)
      (sym (differs r.input k d))
]

pub reported-at : (n : Numbers) (reports : List Report) (k : ℕ) → k < length n.inputs →
    get_or (with_reports n reports).inputs k (unread_input false) ≡ reported_with k
    (get_or n.inputs k (unread_input false)) reports
unfolding with_reports reported_with
reported-at n [] k b = refl
reported-at n (r ∷ reports) k b =
    reported-at (with_input n r.input (settled_more (input_numbers n r.input) r.delivered)) reports k
    (omega (arith, b, length-set n.inputs r.input (settled_more (input_numbers n r.input) r.delivered)))
    ∙ ap (λ (x : InputNumbers). reported_with k x reports) (one_at n r k b)

-- where the numbers are those of the journal with what the entry says, but for its reports
pub inputs_told : (setup : Setup) (journal : List Entry) (e : Entry) (n : Numbers) (reports : List Report) →
    reports_of e ≡ reports → length n.inputs ≡ length setup.inputs →
    ((k : ℕ) → k < length setup.inputs → get_or n.inputs k (unread_input false) ≡ said_with k
    (get_or (totals setup journal).inputs k (unread_input false)) e) →
    (with_reports n reports).inputs ≡ (totals setup (journal ++ e ∷ [])).inputs
inputs_told setup journal e n reports are many said =
    let long : length (with_reports n reports).inputs ≡ length setup.inputs = reported_length n reports ∙ many in
    ext_get_or (unread_input false) (with_reports n reports).inputs (totals setup (journal ++ e ∷ [])).inputs
    (long ∙ sym (length-inputs setup (journal ++ e ∷ [])))
    (λ k b. (let c : k < length setup.inputs = omega (arith, b, long) in
    reported-at n reports k (omega (arith, c, many))
    ∙ ap (λ (x : InputNumbers). reported_with k x reports) (said k c)
    ∙ ap (reported_with k (said_with k (get_or (totals setup journal).inputs k (unread_input false)) e)) (sym are)
    ∙ sym (inputs-push setup journal e k c)))

-- so it is of all numbers, where the others are those of the journal with what the entry counts
pub numbers_told : (setup : Setup) (journal : List Entry) (e : Entry) (old n : Numbers) (reports : List Report) →
    old ≡ totals setup journal → reports_of e ≡ reports → length n.inputs ≡ length setup.inputs →
    ((k : ℕ) → k < length setup.inputs → get_or n.inputs k (unread_input false) ≡ said_with k
    (get_or (totals setup journal).inputs k (unread_input false)) e) → n.made ≡ old.made + made_by e →
    n.removed ≡ old.removed + removed_by e → n.routed ≡ old.routed + routed_by e →
    n.outputs ≡ (totals setup (journal ++ e ∷ [])).outputs → with_reports n reports ≡ totals setup (journal ++ e ∷ [])
numbers_told setup journal e old n reports is are many said made removed routed outputs =
    let rest = reported_rest n reports in
    totals-push setup journal e old (with_reports n reports) is (inputs_told setup journal e n reports are many said)
    (ap (λ (m : Numbers). m.made) rest ∙ made) (ap (λ (m : Numbers). m.removed) rest ∙ removed)
    (ap (λ (m : Numbers). m.routed) rest ∙ routed) (ap (λ (m : Numbers). m.outputs) rest ∙ outputs)
