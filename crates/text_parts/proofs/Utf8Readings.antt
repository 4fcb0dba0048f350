-- Pieces that are read where they are UTF-8, at a moment that was handed on, and what a reader answers.
use Rattle.std.proofs.Common.{◌≡◌, ℕ, ℤ, true, false, cond, List, Result, Ok, Err, refl, sym, subst, inl, inr}
use Rattle.std.specs.Str.{IsUtf8, is_utf8}
use Rattle.std.proofs.lemmas.Int.{to_z-of_z}
use Rattle.std.proofs.lemmas.Str.{IsUtf8-from_is_utf8}
use mir.Val.{SFits, of_z, to_z}
use mir.Syntax.{w64}
use Rattle.text_parts.specs.Answers.{Answers, answered}
use Rattle.text_parts.specs.Chain.{Gives}
use Rattle.text_parts.specs.declared.error.ReadError.{ReadError}
use Rattle.text_parts.specs.declared.error.ReadError.TheVariants as errors

pub isnt_utf8 : (piece : List ℕ) → ¬ (IsUtf8 piece) → is_utf8 piece ≡ false
isnt_utf8 piece not = elim (is_utf8 piece) as (λ t. is_utf8 piece ≡ t → t ≡ false)
    [ true ↦ λ e. absurd (not (IsUtf8-from_is_utf8 piece e)) | false ↦ λ e. refl ] refl

pub utf8_read : {A F : Type 0} (read : List ℕ → ℤ → Result A F) (other : Result A F) (piece text : List ℕ) (moment : ℤ)
    → is_utf8 piece ≡ true → text ≡ piece → SFits w64 moment
    → cond (is_utf8 piece) (read piece moment) other ≡ read text (to_z w64 (of_z w64 moment))
utf8_read read other piece text moment utf8 same fits = rw (utf8, same, to_z-of_z w64 moment fits) refl

-- what is read of the text is read of the piece
pub utf8_gives : {A B F : Type 0} (view : B → A) (read : List ℕ → ℤ → Result A F) (other : Result A F)
    (piece text : List ℕ) (moment : ℤ) (r : Result B (ReadError F))
    → (text ≡ piece) × (is_utf8 piece ≡ true) → SFits w64 moment → Gives view r (read text (to_z w64 (of_z w64 moment)))
    → Gives view r (cond (is_utf8 piece) (read piece moment) other)
utf8_gives view read other piece text moment r is fits gives =
    subst (Gives view r) (sym (utf8_read read other piece text moment is.1 is.0 fits)) gives

-- what a reader answers is the reading that it gives
pub answers : {F X Y : Type 0} (no_memory : F) (view : X → Y) (read : Result X (ReadError F)) (reading : Result Y F)
    → Gives view read reading → Answers no_memory view (answered no_memory read) reading
answers no_memory view (Ok x) reading gives = gives
answers no_memory view (Err errors.OutOfMemory) reading gives = inl refl
answers no_memory view (Err (errors.Fault fault)) reading gives = inr gives
