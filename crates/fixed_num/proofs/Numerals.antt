-- Whole numbers of a signed type, from those that are read without a sign.
use Rattle.std.proofs.Common.{◌≡◌, ℕ, ◌+◌, ◌-◌, ◌≤◌, ◌^◌, Bool, true, false, cond, ltb, List, length, take, drop}
use Rattle.std.proofs.Common.{length-drop, refl, sym, ap, ◌∙◌, arith, Ok, Err}
use Rattle.std.specs.Prelude.{Result, ℤ}
use Rattle.std.specs.Str.Parse.{digits_value}
use Rattle.std.proofs.lemmas.Bool.{le-ltb, ltb-false}
use Rattle.fixed_num.specs.declared.fixed.NumFault.{NumFault}
use Rattle.fixed_num.specs.declared.fixed.NumFault.TheVariants.{NotANumber, NumberRange}
use Rattle.std.proofs.lemmas.List.{take_all}
use Rattle.fixed_num.specs.Decimal.{sign_len}
use Rattle.fixed_num.specs.Whole.{is_numeral, behind_sign, numeral_read_as, as_uint, as_int}

-- what digits behind a sign spell
abbrev pub int_of : Bool → List ℕ → Result ℤ NumFault
int_of negative ds = cond (is_numeral ds) (as_int negative (digits_value 10 ds)) (Err NotANumber)

too_big : (negative : Bool) (n : ℕ) → 2 ^ 64 ≤ n → as_int negative n ≡ Err NumberRange
too_big true n h = let t : ltb n (2 ^ 63 + 1) ≡ false = le-ltb _ _ (omega arith) in rw t refl
too_big false n h = let t : ltb n (2 ^ 63) ≡ false = le-ltb _ _ (omega arith) in rw t refl

as_uint_err : (negative : Bool) (n : ℕ) (e : NumFault) → as_uint n ≡ Err e → as_int negative n ≡ Err e
as_uint_err negative n e h =
    elim (ltb n (2 ^ 64)) as (λ t. ltb n (2 ^ 64) ≡ t → as_int negative n ≡ Err e) [
      | true ↦ λ is. absurd (let k : Ok n ≡ Err e = rw is at h in cc)
      | false ↦ λ is. let k : Err NumberRange ≡ Err e = rw is at h in too_big negative n (ltb-false _ _ is) ∙ cc
    ] refl

as_uint_ok : (negative : Bool) (n m : ℕ) → as_uint n ≡ Ok m → as_int negative n ≡ as_int negative m
as_uint_ok negative n m h =
    elim (ltb n (2 ^ 64)) as (λ t. ltb n (2 ^ 64) ≡ t → as_int negative n ≡ as_int negative m) [
      | true ↦ λ is. let k : Ok n ≡ Ok m = rw is at h in let same : n ≡ m = cc in ap (as_int negative) same
      | false ↦ λ is. absurd (let k : Err NumberRange ≡ Ok m = rw is at h in cc)
    ] refl

pub int_from_err : (negative : Bool) (ds : List ℕ) (e : NumFault) → numeral_read_as ds ≡ Err e
    → int_of negative ds ≡ Err e
unfolding numeral_read_as
int_from_err negative ds e h =
    elim (is_numeral ds) as (λ t. is_numeral ds ≡ t → int_of negative ds ≡ Err e) [
      | true ↦ λ is. rw is (as_uint_err negative (digits_value 10 ds) e (rw is at h))
      | false ↦ λ is. let k : Err NotANumber ≡ Err e = rw is at h in rw is cc
    ] refl

pub int_from_ok : (negative : Bool) (ds : List ℕ) (n : ℕ) → numeral_read_as ds ≡ Ok n
    → int_of negative ds ≡ as_int negative n
unfolding numeral_read_as
int_from_ok negative ds n h =
    elim (is_numeral ds) as (λ t. is_numeral ds ≡ t → int_of negative ds ≡ as_int negative n) [
      | true ↦ λ is. rw is (as_uint_ok negative (digits_value 10 ds) n (rw is at h))
      | false ↦ λ is. absurd (let k : Err NotANumber ≡ Ok n = rw is at h in cc)
    ] refl

-- what is sliced from the sign on
pub from_sign : (text : List ℕ) (n : ℕ) → n ≡ sign_len text → behind_sign text ≡ take (length text - n) (drop n text)
from_sign text n e = ap (λ (k : ℕ). drop k text) (sym e) ∙ sym
    (take_all (length text - n) (drop n text) (omega (arith, length-drop n text)))
