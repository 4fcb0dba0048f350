-- The whole numbers that are read are a sign and digits.
use Rattle.std.proofs.Common.{◌≡◌, ℕ, ◌≢◌, Bool, true, false, cond, eqb, List, ◌++◌, length, get_or, refl, sym, ap, ◌∙◌}
use Rattle.std.proofs.Common.{arith, Err}
use Rattle.std.specs.Prelude.{Result}
use Rattle.std.specs.Str.Parse.{IsNumeral, digits_value}
use Rattle.std.proofs.lemmas.Bool.{ne_eqb, eq-eqb}
use Rattle.std.proofs.lemmas.List.{drop_at}
use Rattle.fixed_num.specs.declared.fixed.NumFault.{NumFault}
use Rattle.fixed_num.specs.declared.fixed.NumFault.TheVariants.{NotANumber}
use Rattle.fixed_num.specs.Grammar.{Sign, sign_text, is_minus}
use Rattle.fixed_num.specs.Whole.{is_numeral, behind_sign, numeral_read_as, as_int, as_uint, int_read_as, uint_read_as}
use Rattle.fixed_num.proofs.Spelling.{signed, unsigned_digits, all_digits_len, digits_whole, some_len, sign_split}

pub numeral_is : (ds : List ℕ) → IsNumeral 10 ds → is_numeral ds ≡ true
numeral_is ds h =
    let some : eqb (length ds) 0 ≡ false = ne_eqb _ _ (λ e. absurd (omega (arith, h.0))) in
    rw (some, all_digits_len ds h.1) (eq-eqb _ _ refl)

numeral_from : (ds : List ℕ) → is_numeral ds ≡ true → IsNumeral 10 ds
numeral_from ds h =
    elim (eqb (length ds) 0) as (λ t. eqb (length ds) 0 ≡ t → IsNumeral 10 ds) [
      | true ↦ λ e. absurd (let k : false ≡ true = rw e at h in cc)
      | false ↦ λ e. (some_len ds e, digits_whole ds (rw e at h))
    ] refl

numeral_reads : (ds : List ℕ) → is_numeral ds ≡ true → numeral_read_as ds ≡ as_uint (digits_value 10 ds)
unfolding numeral_read_as
numeral_reads ds e = rw e refl

numeral_fails : (ds : List ℕ) → is_numeral ds ≡ false → numeral_read_as ds ≡ Err NotANumber
unfolding numeral_read_as
numeral_fails ds e = rw e refl

no_minus : (m : Bool) (r : Result ℕ NumFault) → m ≡ false → cond m (Err NotANumber) r ≡ r
no_minus m r e = rw e refl

-- what stands behind a sign
record IsBehind (s : Sign) (ds : List ℕ) : Type 0 where
  minus : eqb (get_or (sign_text s ++ ds) 0 0) 45 ≡ is_minus s
  at : behind_sign (sign_text s ++ ds) ≡ ds

is_behind : (s : Sign) (ds : List ℕ) → IsNumeral 10 ds → IsBehind s ds
is_behind s ds h =
    let g = signed s ds (unsigned_digits ds h.0 h.1) in
    record { minus = g.1; at = rw g.0 (drop_at (sign_text s) ds (length (sign_text s)) refl) }

pub reads_ints : (s : Sign) (ds : List ℕ) → IsNumeral 10 ds → int_read_as (sign_text s ++ ds) ≡ as_int (is_minus s)
    (digits_value 10 ds)
reads_ints s ds h = let b = is_behind s ds h in rw (b.at, numeral_is ds h, b.minus) refl

pub reads_uints : (s : Sign) (ds : List ℕ) → is_minus s ≡ false → IsNumeral 10 ds
    → uint_read_as (sign_text s ++ ds) ≡ as_uint (digits_value 10 ds)
reads_uints s ds plain h = let b = is_behind s ds h in no_minus _ _ (b.minus ∙ plain) ∙ ap numeral_read_as b.at
    ∙ numeral_reads ds (numeral_is ds h)

pub ints_are_spelled : (text : List ℕ) → int_read_as text ≢ Err NotANumber
    → (s : Sign) × (ds : List ℕ) × IsNumeral 10 ds × (text ≡ sign_text s ++ ds)
ints_are_spelled text h =
    let sp = sign_split text in
    elim (is_numeral (behind_sign text)) as (λ t. is_numeral (behind_sign text) ≡ t
    → (s : Sign) × (ds : List ℕ) × IsNumeral 10 ds × (text ≡ sign_text s ++ ds)) [
      | true ↦ λ e. (sp.0, behind_sign text, numeral_from (behind_sign text) e, sp.1)
      | false ↦ λ e. absurd (h (rw e refl))
    ] refl

pub uints_are_spelled : (text : List ℕ) → uint_read_as text ≢ Err NotANumber
    → (s : Sign) × (ds : List ℕ) × (is_minus s ≡ false) × IsNumeral 10 ds × (text ≡ sign_text s ++ ds)
uints_are_spelled text h =
    let sp = sign_split text in
    elim (eqb (get_or text 0 0) 45) as (λ t. eqb (get_or text 0 0) 45 ≡ t
    → (s : Sign) × (ds : List ℕ) × (is_minus s ≡ false) × IsNumeral 10 ds × (text ≡ sign_text s ++ ds)) [
      | true ↦ λ minus. absurd (h (rw minus refl))
      | false ↦ λ minus.
          elim (is_numeral (behind_sign text)) as (λ t. is_numeral (behind_sign text) ≡ t
          → (s : Sign) × (ds : List ℕ) × (is_minus s ≡ false) × IsNumeral 10 ds × (text ≡ sign_text s ++ ds)) [
            | true ↦ λ e. (sp.0, behind_sign text, sym sp.2 ∙ minus, numeral_from (behind_sign text) e, sp.1)
            | false ↦ λ e. absurd (h (no_minus _ _ minus ∙ numeral_fails (behind_sign text) e))
          ] refl
    ] refl
