-- Texts without some bytes, and lines up to their `|#`.
use Rattle.std.proofs.Common.{◌≡◌, ℕ, ℤ, suc, ◌+◌, ◌<◌, ◌≤◌, Bool, true, false, cond, List, [], ◌∷◌, ◌++◌, length}
use Rattle.std.proofs.Common.{get_or, drop, Ok, Option, Some, None, refl, sym, ap, subst, ◌∙◌, arith}
use Rattle.std.specs.Prelude.{◌||◌, ◌&&◌, ◌==◌, codes}
use Rattle.std.specs.List.{list_any}
use Rattle.std.specs.Str.{bytes_eq}
use Rattle.std.specs.Str.Parse.{AllDigits}
use Rattle.std.proofs.lemmas.Bool.{ne_eqb, eqb-true, or_parts}
use Rattle.std.proofs.lemmas.List.{drop-drop, drop_all, length-drop}
use Rattle.std.proofs.lemmas.Str.Parse.{digit_from_value}
use Rattle.std.proofs.lemmas.Slice.Eq.{bytes_eq-Decides}
use Rattle.text_parts.specs.Grammar.{HasNone}
use Rattle.text_parts.specs.Split.{is_byte}
use Rattle.text_parts.proofs.Lacking.{none_append}
use Rattle.fixed_num.specs.Decimal.{Decimal, decimal_of}
use Rattle.fixed_num.specs.Fixed.{read_as, fixed_of}
use Rattle.fixed_num.specs.Grammar.{Sign, NoSign, Plus, Minus, sign_text, Power, NoPower, Small, Capital, power_text}
use Rattle.fixed_num.specs.Grammar.{FitsPower, Digits, Without, With, digits_text, whole_of, fraction_of, Spelled}
use Rattle.fixed_num.specs.Grammar.{spelling, IsDecimal}
use Rattle.fixed_num.proofs.Spelling.{spelled_is_read}
use Rattle.statsd_text.specs.declared.said.MetricType.{MetricType}
use Rattle.statsd_text.specs.declared.said.MetricType.TheVariants.{Counter, Gauge, Timing, Set}
use Rattle.statsd_text.specs.Sections.{is_marker, marker_len}
use Rattle.statsd_text.specs.Said.{type_of}

-- ---- bytes that a text hasn't

pub both_none : (p q : ℕ → Bool) (bs : List ℕ) → HasNone p bs → HasNone q bs → HasNone (λ b. p b || q b) bs
both_none p q [] h k = tt
both_none p q (b ∷ bs) h k = (rw (h.0, k.0) refl, both_none p q bs h.1 k.1)

pub any_none : (p : ℕ → Bool) (bs : List ℕ) → list_any p bs ≡ false → HasNone p bs
any_none p [] e = tt
any_none p (b ∷ bs) e = let both = or_parts (p b) (list_any p bs) e in (both.0, any_none p bs both.1)

-- ---- a rate

-- a colon or a bar
abbrev pub ends_rate : ℕ → Bool
ends_rate b = b == 58 || b == 124

digits_none : (ds : List ℕ) → AllDigits 10 ds → HasNone ends_rate ds
digits_none [] h = tt
digits_none (d ∷ ds) h =
    let range = digit_from_value d h.0 in
    let no_colon : (d == 58) ≡ false = ne_eqb d 58 (λ e. absurd (omega arith)) in
    let no_bar : (d == 124) ≡ false = ne_eqb d 124 (λ e. absurd (omega arith)) in
    (rw (no_colon, no_bar) refl, digits_none ds h.1)

sign_none : (s : Sign) → HasNone ends_rate (sign_text s)
sign_none NoSign = tt
sign_none Plus = (refl, tt)
sign_none Minus = (refl, tt)

power_none : (p : Power) → FitsPower p → HasNone ends_rate (power_text p)
power_none NoPower h = tt
power_none (Small s ds) h = (refl, none_append ends_rate (sign_text s) ds (sign_none s) (digits_none ds h.1))
power_none (Capital s ds) h = (refl, none_append ends_rate (sign_text s) ds (sign_none s) (digits_none ds h.1))

digits_text_none : (d : Digits) → AllDigits 10 (whole_of d) → AllDigits 10 (fraction_of d)
    → HasNone ends_rate (digits_text d)
digits_text_none (Without whole) h k = digits_none whole h
digits_text_none (With whole fraction) h k = none_append ends_rate whole (46 ∷ fraction) (digits_none whole h)
    (refl, digits_none fraction k)

spelling_none : (s : Spelled) → IsDecimal s → HasNone ends_rate (spelling s)
spelling_none s h =
    none_append ends_rate (sign_text s.sign) (digits_text s.digits ++ power_text s.power) (sign_none s.sign)
    (none_append ends_rate (digits_text s.digits) (power_text s.power) (digits_text_none s.digits h.whole h.fraction)
    (power_none s.power h.power))

-- a decimal has neither of these bytes
pub decimal_none : (text : List ℕ) (n : ℤ) → read_as text ≡ Ok n → HasNone ends_rate text
decimal_none text n e = found (decimal_of text) refl e
  where
    found : (d : Option Decimal) → decimal_of text ≡ d → fixed_of d ≡ Ok n → HasNone ends_rate text
    found None is e = absurd cc
    found (Some d) is e =
        let s = spelled_is_read text d is in
        subst (HasNone ends_rate) (sym s.2) (spelling_none s.0 s.1)

-- ---- a type

-- a text that names a type has none of these bytes, and begins with another than `#`
pub record IsTypeText (text : List ℕ) : Type 0 where
  pub none : HasNone ends_rate text
  pub first : ℕ
  pub rest : List ℕ
  pub is : text ≡ first ∷ rest
  pub no_hash : (first == 35) ≡ false

letter : (b : ℕ) (bs : List ℕ) → HasNone ends_rate (b ∷ bs) → (b == 35) ≡ false → IsTypeText (b ∷ bs)
letter b bs none no_hash = record { none = none; first = b; rest = bs; is = refl; no_hash = no_hash }

pub type_text : (text : List ℕ) (named : MetricType) → type_of text ≡ Some named → IsTypeText text
unfolding type_of
type_text text named e = at_c (bytes_eq text (codes "c")) refl e
  where
    same : (word : List ℕ) → bytes_eq text word ≡ true → IsTypeText word → IsTypeText text
    same word is h = subst IsTypeText (sym ((bytes_eq-Decides text word).0 is)) h

    at_s : (t : Bool) → bytes_eq text (codes "s") ≡ t → cond t (Some Set) None ≡ Some named → IsTypeText text
    at_s true is e = same (codes "s") is (letter 115 [] (refl, tt) refl)
    at_s false is e = absurd cc

    at_h : (t : Bool) → bytes_eq text (codes "h") ≡ t
        → cond t (Some Timing) (cond (bytes_eq text (codes "s")) (Some Set) None) ≡ Some named → IsTypeText text
    at_h true is e = same (codes "h") is (letter 104 [] (refl, tt) refl)
    at_h false is e = at_s (bytes_eq text (codes "s")) refl e

    at_ms : (t : Bool) → bytes_eq text (codes "ms") ≡ t
        → cond (t || bytes_eq text (codes "h")) (Some Timing) (cond (bytes_eq text (codes "s")) (Some Set) None) ≡ Some
        named → IsTypeText text
    at_ms true is e = same (codes "ms") is (letter 109 (115 ∷ []) (refl, (refl, tt)) refl)
    at_ms false is e = at_h (bytes_eq text (codes "h")) refl e

    at_g : (t : Bool) → bytes_eq text (codes "g") ≡ t
        → cond t (Some Gauge) (cond (bytes_eq text (codes "ms") || bytes_eq text (codes "h")) (Some Timing)
        (cond (bytes_eq text (codes "s")) (Some Set) None)) ≡ Some named
        → IsTypeText text
    at_g true is e = same (codes "g") is (letter 103 [] (refl, tt) refl)
    at_g false is e = at_ms (bytes_eq text (codes "ms")) refl e

    at_c : (t : Bool) → bytes_eq text (codes "c") ≡ t
        → cond t (Some Counter) (cond (bytes_eq text (codes "g")) (Some Gauge)
        (cond (bytes_eq text (codes "ms") || bytes_eq text (codes "h")) (Some Timing)
        (cond (bytes_eq text (codes "s")) (Some Set) None)))
        ≡ Some named → IsTypeText text
    at_c true is e = same (codes "c") is (letter 99 [] (refl, tt) refl)
    at_c false is e = at_g (bytes_eq text (codes "g")) refl e

-- ---- texts without `|#`

-- no `|#` is in the text
abbrev pub Unmarked : List ℕ → Type 0
Unmarked bs = marker_len bs ≡ length bs

pub marked_at : (bs rest : List ℕ) → Unmarked bs → marker_len (bs ++ 124 ∷ 35 ∷ rest) ≡ length bs
unfolding marker_len
marked_at [] rest h = refl
marked_at (b ∷ []) rest h = rw (no_hash (b == 124)) refl
  where
    no_hash : (t : Bool) → (t && false) ≡ false
    no_hash true = refl
    no_hash false = refl
marked_at (b ∷ c ∷ bs) rest h =
    elim (b == 124 && c == 35) as (λ t. cond t 0 (1 + marker_len (c ∷ bs)) ≡ length (b ∷ c ∷ bs)
    → cond t 0 (1 + marker_len (c ∷ (bs ++ 124 ∷ 35 ∷ rest))) ≡ length (b ∷ c ∷ bs)) [
      | true ↦ λ k. absurd (omega arith)
      | false ↦ λ k. ap (λ (n : ℕ). 1 + n) (marked_at (c ∷ bs) rest (omega arith)) ∙ omega arith
    ] h

-- a byte other than a bar, or a bar before another byte than `#`, marks nothing
pub unmarked_more : (b : ℕ) (bs : List ℕ) → (b == 124) ≡ false → Unmarked bs → Unmarked (b ∷ bs)
unfolding marker_len
unmarked_more b [] e h = refl
unmarked_more b (c ∷ bs) e h = rw e (ap (λ (n : ℕ). 1 + n) h ∙ omega arith)

pub unmarked_bar : (c : ℕ) (bs : List ℕ) → (c == 35) ≡ false → Unmarked (c ∷ bs) → Unmarked (124 ∷ c ∷ bs)
unfolding marker_len
unmarked_bar c bs e h = rw e (ap (λ (n : ℕ). 1 + n) h ∙ omega arith)

pub unmarked_append : (xs ys : List ℕ) → HasNone (is_byte 124) xs → Unmarked ys → Unmarked (xs ++ ys)
unmarked_append [] ys h k = k
unmarked_append (x ∷ xs) ys h k = unmarked_more x (xs ++ ys) h.0 (unmarked_append xs ys h.1 k)

-- ---- the first `|#`, at an offset

pub end_at : (bs : List ℕ) (i : ℕ) → is_marker (drop i bs) ≡ true → marker_len (drop i bs) ≡ 0
unfolding marker_len
end_at bs i h = at (drop i bs) h
  where
    at : (bs : List ℕ) → is_marker bs ≡ true → marker_len bs ≡ 0
    at [] h = absurd cc
    at (b ∷ []) h = absurd cc
    at (b ∷ c ∷ bs) h = rw h refl

more_first : (bs : List ℕ) → is_marker bs ≡ false → 0 < length bs → marker_len bs ≡ 1 + marker_len (drop 1 bs)
unfolding marker_len
more_first [] h some = absurd (omega arith)
more_first (b ∷ []) h some = refl
more_first (b ∷ c ∷ bs) h some = rw h refl

pub more_at : (bs : List ℕ) (i : ℕ) → is_marker (drop i bs) ≡ false → i < length bs
    → marker_len (drop i bs) ≡ 1 + marker_len (drop (i + 1) bs)
more_at bs i h lt = more_first (drop i bs) h (omega (arith, length-drop i bs)) ∙ rw drop-drop refl

pub all_read : (bs : List ℕ) (i : ℕ) → length bs ≤ i → marker_len (drop i bs) ≡ 0
unfolding marker_len
all_read bs i le = rw (drop_all i bs le) refl

-- where it stands
pub record IsMarked (bs : List ℕ) : Type 0 where
  pub bar : get_or bs (marker_len bs) 0 ≡ 124
  pub hash : get_or bs (marker_len bs + 1) 0 ≡ 35
  pub within : marker_len bs + 1 < length bs

pub marked : (bs : List ℕ) → marker_len bs < length bs → IsMarked bs
unfolding marker_len
marked [] lt = absurd (omega arith)
marked (b ∷ []) lt = absurd (omega arith)
marked (b ∷ c ∷ bs) lt =
    elim (b == 124 && c == 35) as (λ t. (b == 124 && c == 35) ≡ t
    → marker_len (b ∷ c ∷ bs) ≡ cond t 0 (1 + marker_len (c ∷ bs)) → IsMarked (b ∷ c ∷ bs)) [
      | true ↦ λ e n.
          let both = and_true (b == 124) (c == 35) e in
          record { bar = rw n (eqb-true b 124 both.0); hash = rw n (eqb-true c 35 both.1); within = omega (arith, n) }
      | false ↦ λ e n.
          let h = marked (c ∷ bs) (omega (arith, n)) in
          let m : 1 + marker_len (c ∷ bs) ≡ suc (marker_len (c ∷ bs)) = omega arith in
          let k : suc (marker_len (c ∷ bs)) + 1 ≡ suc (marker_len (c ∷ bs) + 1) = omega arith in
          record { bar = rw (n, m) h.bar; hash = rw (n, m, k) h.hash; within = let w = h.within in omega (arith, n) }
    ] refl refl
  where
    and_true : (a b : Bool) → (a && b) ≡ true → (a ≡ true) × (b ≡ true)
    and_true true b e = (refl, e)
    and_true false b e = absurd cc
