-- Words of digits.
use Rattle.std.proofs.Common.{◌≡◌, ℕ, ◌≤◌, ◌^◌, Bool, true, false, cond, eqb, ltb, List, ◌++◌, get_or, refl, sym, ap}
use Rattle.std.proofs.Common.{◌∙◌, Ok, Err}
use Rattle.std.specs.Prelude.{Result}
use Rattle.std.specs.Str.Parse.{IsNumeral, digits_value}
use Rattle.std.proofs.lemmas.Bool.{ltb-false}
use Rattle.fixed_num.specs.declared.fixed.NumFault.{NumFault}
use Rattle.fixed_num.specs.declared.fixed.NumFault.TheVariants.{NotANumber, NumberRange}
use Rattle.fixed_num.specs.Grammar.{Sign, sign_text, is_minus}
use Rattle.fixed_num.specs.Grammar as signs
use Rattle.fixed_num.specs.Whole.{as_uint, uint_read_as}
use Rattle.fixed_num.proofs.SpelledInts.{reads_uints, uints_are_spelled}
use Rattle.agent_run.specs.Command.{IsNumber}

-- what a word of digits is read as
reads_word : (word : List ℕ) (n : ℕ) → IsNumber word n → uint_read_as word ≡ as_uint n
reads_word word n h = reads_uints signs.NoSign word refl h.digits ∙ ap as_uint h.value

abbrev ok_of : ℕ → Result ℕ NumFault
ok_of n = Ok n

as_uint_ok : (m n : ℕ) → as_uint m ≡ Ok n → m ≡ n
as_uint_ok m n e =
    elim (ltb m (2 ^ 64)) as (λ (t : Bool). cond t (ok_of m) (Err NumberRange) ≡ Ok n → m ≡ n)
    [ true ↦ λ k. cc | false ↦ λ k. cc ] e

as_uint_err : (m : ℕ) (f : NumFault) → as_uint m ≡ Err f → 2 ^ 64 ≤ m
as_uint_err m f e =
    elim (ltb m (2 ^ 64)) as (λ (t : Bool). ltb m (2 ^ 64) ≡ t → cond t (ok_of m) (Err NumberRange) ≡ Err f
    → 2 ^ 64 ≤ m) [
      | true ↦ λ is k. absurd cc
      | false ↦ λ is k. ltb-false m (2 ^ 64) is
    ] refl e

-- a word that is read and has no plus is a word of digits
pub word_is : (word : List ℕ) (n : ℕ) → eqb (get_or word 0 0) 43 ≡ false → uint_read_as word ≡ Ok n → IsNumber word n
word_is word n unsigned e =
    let q = uints_are_spelled word (λ f. let k : Ok n ≡ Err NotANumber = sym e ∙ f in absurd cc) in
    go q.0 q.1 q.2 q.3 q.4
  where
    go : (s : Sign) (ds : List ℕ) → is_minus s ≡ false → IsNumeral 10 ds → word ≡ sign_text s ++ ds → IsNumber word n
    go signs.NoSign ds plain h t = rw t (record {
      digits = h;
      value = as_uint_ok (digits_value 10 ds) n
          (sym (reads_uints signs.NoSign ds refl h) ∙ ap uint_read_as (sym t) ∙ e);
    })
    go signs.Plus ds plain h t = let k : true ≡ false = rw t at unsigned in absurd cc
    go signs.Minus ds plain h t = let k : true ≡ false = plain in absurd cc

-- a word of digits is read as its number
pub word_reads : (word : List ℕ) (n m : ℕ) → uint_read_as word ≡ Ok n → IsNumber word m → m ≡ n
word_reads word n m e h = as_uint_ok m n (sym (reads_word word m h) ∙ e)

pub word_fails : (word : List ℕ) (f : NumFault) (m : ℕ) → uint_read_as word ≡ Err f → IsNumber word m → 2 ^ 64 ≤ m
word_fails word f m e h = as_uint_err m f (sym (reads_word word m h) ∙ e)
