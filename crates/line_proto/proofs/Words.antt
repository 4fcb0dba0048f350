-- Truth values.
use Rattle.std.proofs.Common.{◌≡◌, ℕ, Bool, true, false, List, [], ◌∷◌, length, arith, get_or, None, refl, sym, ap, ◌∙◌}
use Rattle.std.specs.Prelude.{◌&&◌, ◌||◌}
use Rattle.std.specs.List.{list_any, list_all}
use Rattle.std.specs.Str.{bytes_eq}
use Rattle.std.proofs.lemmas.Slice.Eq.{bytes_eq-Decides}
use Rattle.line_proto.specs.Values.{is_one_of, true_words, false_words, truth_of, begins_truth}

both_true : (a b : Bool) → (a && b) ≡ true → (a ≡ true) × (b ≡ true)
both_true true b e = (refl, e)
both_true false b e = absurd cc

true_false : true ≡ false → ⊥
true_false e = cc

first_passes : (p : ℕ → Bool) (words : List (List ℕ)) (text : List ℕ)
    → list_all (λ (word : List ℕ). p (get_or word 0 0)) words ≡ true → p (get_or text 0 0) ≡ false
    → is_one_of words text ≡ false
first_passes p [] text all none = refl
first_passes p (word ∷ words) text all none =
    elim (bytes_eq text word) as (λ t. bytes_eq text word ≡ t
    → (t || list_any (λ (w : List ℕ). bytes_eq text w) words) ≡ false) [
      | true ↦ λ e.
          let same : text ≡ word = (bytes_eq-Decides text word).0 e in
          let one : p (get_or text 0 0) ≡ true = ap (λ (w : List ℕ). p (get_or w 0 0)) same
          ∙ (both_true (p (get_or word 0 0)) (list_all (λ (w : List ℕ). p (get_or w 0 0)) words) all).0 in
          absurd (true_false (sym one ∙ none))
      | false ↦ λ e. first_passes p words text (both_true (p (get_or word 0 0))
          (list_all (λ (w : List ℕ). p (get_or w 0 0)) words) all).1 none
    ] refl

-- a text that begins otherwise is no word for a truth value
pub no_truth : (text : List ℕ) → begins_truth (get_or text 0 0) ≡ false → truth_of text ≡ None
unfolding truth_of
no_truth text none = rw (
  first_passes begins_truth true_words text refl none,
  first_passes begins_truth false_words text refl none,
) refl

-- nor is an empty text
pub empty_no_truth : (text : List ℕ) → length text ≡ 0 → truth_of text ≡ None
unfolding truth_of
empty_no_truth [] e = refl
empty_no_truth (b ∷ bs) e = absurd (omega arith)
