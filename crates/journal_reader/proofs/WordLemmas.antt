-- What a word says, and which word says it.
use Rattle.std.proofs.Common.{◌≡◌, ℕ, ℤ, zero, suc, ◌+◌, ◌*◌, ◌<◌, ◌^◌, Bool, true, false, cond, ltb, List}
use Rattle.std.proofs.Common.{Option, Some, None, Result, Ok, Err, refl, sym, ap, subst, ◌∙◌, arith}
use Rattle.std.specs.Prelude.{◌==◌, pos, neg_ℤ, nat_lt, FitsSigned, slice_index}
use Rattle.std.specs.Int.{w64}
use Rattle.std.specs.Fmt.{decimal, signed_decimal}
use Rattle.std.specs.Str.{bytes_eq}
use Rattle.std.specs.Str.Parse.{digits_value}
use Rattle.std.proofs.lemmas.Bool.{ltb-true, lt-ltb}
use Rattle.std.proofs.lemmas.Slice.Eq.{bytes_eq-Decides}
use Rattle.fixed_num.specs.declared.fixed.NumFault.{NumFault}
use Rattle.fixed_num.specs.Fixed.{fixed_of, read_as}
use Rattle.fixed_num.specs.Decimal.{Decimal, decimal_of, billionths}
use Rattle.fixed_num.specs.Range.{InRange}
use Rattle.fixed_num.specs.Whole.{is_numeral, behind_sign, as_uint, numeral_read_as, uint_read_as, as_int, int_read_as}
use Rattle.fixed_num.proofs.NumberTexts.{int_read, uint_read}
use Rattle.journal_reader.specs.Words.{◌>>=◌, where_true, either_of, spelled, number, small_number}
use Rattle.journal_reader.specs.Words.{signed_number}

-- ---- what is there

pub bind_some : {A B : Type 0} (o : Option A) (next : A → Option B) (y : B) → (o >>= next) ≡ Some y
    → (x : A) × (o ≡ Some x) × (next x ≡ Some y)
bind_some (Some x) next y e = (x, refl, e)
bind_some None next y e = absurd cc

pub held : {A : Type 0} (t : Bool) (o : Option A) (y : A) → where_true t o ≡ Some y → (t ≡ true) × (o ≡ Some y)
held true o y e = (refl, e)
held false o y e = absurd cc

some_or : {A : Type 0} → A → Option A → A
some_or a (Some x) = x
some_or a None = a

pub same_some : {A : Type 0} (a b : A) → Some a ≡ Some b → a ≡ b
unfolding some_or
same_some a b e = ap (some_or a) e

ok_or : {A F : Type 0} → A → Result A F → A
ok_or a (Ok x) = x
ok_or a (Err fault) = a

pub same_ok : {F A : Type 0} (a b : A) → let l : Result A F = Ok a in let r : Result A F = Ok b in l ≡ r → a ≡ b
unfolding ok_or
same_ok a b e = ap (ok_or a) e

pub same_bytes : (xs : List ℕ) → bytes_eq xs xs ≡ true
same_bytes xs = (bytes_eq-Decides xs xs).1 refl

pub are_bytes : (xs ys : List ℕ) → bytes_eq xs ys ≡ true → xs ≡ ys
are_bytes xs ys e = (bytes_eq-Decides xs ys).0 e

chosen : {F A : Type 0} (t : Bool) (r : Result A F) (fault : F) (y : A) → cond t r (Err fault) ≡ Ok y
    → (t ≡ true) × (r ≡ Ok y)
chosen true r fault y e = (refl, e)
chosen false r fault y e = absurd cc

chosen_else : {F A : Type 0} (t : Bool) (r : Result A F) (fault : F) (y : A) → cond t (Err fault) r ≡ Ok y
    → (t ≡ false) × (r ≡ Ok y)
chosen_else true r fault y e = absurd cc
chosen_else false r fault y e = (refl, e)

-- ---- numbers that were read are in their ranges

uint_below : (m n : ℕ) → as_uint m ≡ Ok n → n < 2 ^ 64
uint_below m n e =
    let at = chosen (ltb m (2 ^ 64)) (Ok m) _ n e in
    let small : m < 2 ^ 64 = ltb-true _ _ at.0 in
    subst (λ (k : ℕ). k < 2 ^ 64) (same_ok {F = NumFault} m n at.1) small

numeral_below : (ds : List ℕ) (n : ℕ) → numeral_read_as ds ≡ Ok n → n < 2 ^ 64
unfolding numeral_read_as
numeral_below ds n e =
    uint_below (digits_value 10 ds) n (chosen (is_numeral ds) (as_uint (digits_value 10 ds)) _ n e).1

pub uint_fits : (text : List ℕ) (n : ℕ) → uint_read_as text ≡ Ok n → n < 2 ^ 64
uint_fits text n e =
    numeral_below (behind_sign text) n
    (chosen_else (slice_index text 0 == 45) (numeral_read_as (behind_sign text)) _ n e).1

negative_fits : (m : ℕ) → m < 2 ^ 63 + 1 → FitsSigned w64 (neg_ℤ (pos m))
negative_fits zero h = record { sfits = omega arith }
negative_fits (suc m) h = record { sfits = omega (arith, h) }

int_fits_at : (negative : Bool) (m : ℕ) (z : ℤ) → as_int negative m ≡ Ok z → FitsSigned w64 z
int_fits_at true m z e =
    let at = chosen (ltb m (2 ^ 63 + 1)) (Ok (neg_ℤ (pos m))) _ z e in
    subst (FitsSigned w64) (same_ok {F = NumFault} (neg_ℤ (pos m)) z at.1) (negative_fits m (ltb-true _ _ at.0))
int_fits_at false m z e =
    let at = chosen (ltb m (2 ^ 63)) (Ok (pos m)) _ z e in
    let small : m < 2 ^ 63 = ltb-true _ _ at.0 in
    subst (FitsSigned w64) (same_ok {F = NumFault} (pos m) z at.1) (record { sfits = small })

pub int_fits : (text : List ℕ) (z : ℤ) → int_read_as text ≡ Ok z → FitsSigned w64 z
int_fits text z e =
    int_fits_at (slice_index text 0 == 45) (digits_value 10 (behind_sign text)) z
    (chosen (is_numeral (behind_sign text)) (as_int (slice_index text 0 == 45) (digits_value 10 (behind_sign text))) _ z
    e).1

signed_range : (negative : Bool) (m : ℕ) → m < 2 ^ 64 * 10 ^ 9 → InRange (cond negative (neg_ℤ (pos m)) (pos m))
signed_range true zero h = h
signed_range true (suc m) h = h
signed_range false m h = h

fixed_fits_at : (d : Option Decimal) (z : ℤ) → fixed_of d ≡ Ok z → InRange z
fixed_fits_at None z e = absurd cc
fixed_fits_at (Some d) z e =
    let at = chosen (ltb (billionths d) (2 ^ 64 * 10 ^ 9))
    (Ok (cond d.negative (neg_ℤ (pos (billionths d))) (pos (billionths d)))) _ z e in
    subst InRange (same_ok {F = NumFault} (cond d.negative (neg_ℤ (pos (billionths d))) (pos (billionths d))) z at.1)
    (signed_range d.negative (billionths d) (ltb-true _ _ at.0))

pub fixed_fits : (text : List ℕ) (z : ℤ) → read_as text ≡ Ok z → InRange z
fixed_fits text z e = fixed_fits_at (decimal_of text) z e

-- ---- each number has one spelling

record IsSpelled {A : Type 0} (spelling : A → List ℕ) (word : List ℕ) (read : Result A NumFault) (n : A)
    : Type 0 where
  is : word ≡ spelling n
  was_read : read ≡ Ok n

spelled_is : {A : Type 0} (spelling : A → List ℕ) (word : List ℕ) (read : Result A NumFault) (n : A)
    → spelled spelling word read ≡ Some n → IsSpelled spelling word read n
spelled_is spelling word (Err fault) n e = absurd cc
spelled_is spelling word (Ok m) n e =
    let parts = held (bytes_eq (spelling m) word) (Some m) n e in
    let same : m ≡ n = same_some m n parts.1 in
    record { is = sym (are_bytes (spelling m) word parts.0) ∙ ap spelling same; was_read = ap Ok same }

pub number_read : (n : ℕ) → n < 2 ^ 64 → number (decimal n) ≡ Some n
unfolding number
number_read n h = rw (uint_read n h, same_bytes (decimal n)) refl

pub record IsNumber (word : List ℕ) (n : ℕ) : Type 0 where
  pub is : word ≡ decimal n
  pub fits : n < 2 ^ 64

pub number_is : (word : List ℕ) (n : ℕ) → number word ≡ Some n → IsNumber word n
unfolding number
number_is word n e =
    let s = spelled_is decimal word (uint_read_as word) n e in
    record { is = s.is; fits = uint_fits word n s.was_read }

pub small_read : (n : ℕ) → n < 2 ^ 32 → small_number (decimal n) ≡ Some n
unfolding small_number
small_read n h =
    let small : ltb n (2 ^ 32) ≡ true = lt-ltb _ _ h in
    rw (number_read n (omega (arith, h)), small) refl

pub record IsSmall (word : List ℕ) (n : ℕ) : Type 0 where
  pub is : word ≡ decimal n
  pub fits : n < 2 ^ 32

pub small_is : (word : List ℕ) (n : ℕ) → small_number word ≡ Some n → IsSmall word n
unfolding small_number
small_is word n e =
    let read = bind_some (number word) (λ m. where_true (nat_lt m (2 ^ 32)) (Some m)) n e in
    let parts = held (nat_lt read.0 (2 ^ 32)) (Some read.0) n read.2 in
    let same : read.0 ≡ n = same_some read.0 n parts.1 in
    let small : read.0 < 2 ^ 32 = ltb-true _ _ parts.0 in
    record {
      is = (number_is word read.0 read.1).is ∙ ap decimal same;
      fits = subst (λ (k : ℕ). k < 2 ^ 32) same small;
    }

pub signed_read : (z : ℤ) → FitsSigned w64 z → signed_number (signed_decimal z) ≡ Some z
unfolding signed_number
signed_read z h = rw (int_read z h, same_bytes (signed_decimal z)) refl

pub record IsSigned (word : List ℕ) (z : ℤ) : Type 0 where
  pub is : word ≡ signed_decimal z
  pub fits : FitsSigned w64 z

pub signed_is : (word : List ℕ) (z : ℤ) → signed_number word ≡ Some z → IsSigned word z
unfolding signed_number
signed_is word z e =
    let s = spelled_is signed_decimal word (int_read_as word) z e in
    record { is = s.is; fits = int_fits word z s.was_read }

-- ---- one of two words

abbrev pub either_text : List ℕ → List ℕ → Bool → List ℕ
either_text first second true = first
either_text first second false = second

pub either_is : (first second word : List ℕ) (t : Bool) → either_of first second word ≡ Some t
    → word ≡ either_text first second t
unfolding either_of
either_is first second word t = at (bytes_eq word first) refl (bytes_eq word second) refl
  where
    at : (a : Bool) → bytes_eq word first ≡ a → (b : Bool) → bytes_eq word second ≡ b
        → cond a (Some true) (cond b (Some false) None) ≡ Some t → word ≡ either_text first second t
    at true is b other e = are_bytes word first is ∙ ap (either_text first second) (same_some true t e)
    at false is true other e = are_bytes word second other ∙ ap (either_text first second) (same_some false t e)
    at false is false other e = absurd cc
