-- Names as they are written.
use Rattle.std.proofs.Common.{◌≡◌, ℕ, Bool, true, false, cond, List, [], ◌∷◌, ◌++◌, map, refl, sym, ap, ◌∙◌}
use Rattle.std.specs.Prelude.{codes, slice_index}
use Rattle.std.specs.Char.{is_ascii_digit}
use Rattle.std.specs.Str.{bytes_eq}
use Rattle.openmetrics_text.specs.Names.{ends_name}
use Rattle.openmetrics_text.specs.Writing.{clean_byte, digit_mark, family_words, family_of}

-- the `_` before a digit stays as it is
pub marked : (ends : ℕ → Bool) (first text : List ℕ) → ends 95 ≡ false
    → map (clean_byte ends) (digit_mark first ++ text) ≡ digit_mark first ++ map (clean_byte ends) text
marked ends first text e = elim (is_ascii_digit (slice_index first 0)) as
    (λ t. map (clean_byte ends) (cond t (95 ∷ []) [] ++ text) ≡ cond t (95 ∷ []) [] ++ map (clean_byte ends) text) [
      | true ↦ rw e refl
      | false ↦ refl
    ]

-- what stands behind a measurement doesn't change its front
words_mark : (name key : List ℕ) → digit_mark (family_words name key) ≡ digit_mark name
words_mark [] key = elim (bytes_eq key (codes "value")) as (λ t. digit_mark (cond t [] (95 ∷ key)) ≡ digit_mark [])
    [ true ↦ refl | false ↦ refl ]
words_mark (b ∷ name) key = elim (bytes_eq key (codes "value")) as
    (λ t. digit_mark (cond t (b ∷ name) ((b ∷ name) ++ 95 ∷ key)) ≡ digit_mark (b ∷ name))
    [ true ↦ refl | false ↦ refl ]

pub family_is : (name key : List ℕ) → map (clean_byte ends_name) (digit_mark name ++ family_words name key) ≡ family_of
    name key
unfolding family_of
family_is name key = marked ends_name name (family_words name key) refl
    ∙ ap (λ (mark : List ℕ). mark ++ map (clean_byte ends_name) (family_words name key)) (sym (words_mark name key))
